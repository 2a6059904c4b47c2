-- What a stored tally stands for (document 02 §10), and how long its text is at most.
use Rattle.std.specs.Prelude.{ℕ, ◌+◌, ◌-◌, ◌*◌}
use Rattle.model.specs.Tally.{Tally}
use Rattle.tally.specs.declared.Tally.{Tally as StoredTally}
use Rattle.tally.specs.Trimmed.{tally_with}

-- the numbers that a byte can be: a stored tally has a place for each
abbrev pub numbers : ℕ
numbers = 256

abbrev pub tally_of : StoredTally → Tally
tally_of t = tally_with t.counts t.total

-- no tally that is stored has a longer text: 2 and 20, 1, 20 and 1 bytes for the first line, and for each number from 1 on 2 and 3, 1, 20 and 1
abbrev pub longest_tally : ℕ
longest_tally = 44 + 27 * (numbers - 1)
