use Rattle.std.proofs.Common.{◌≡◌, ◌≤◌, drop}
use Rattle.script.specs.Numbers.{whole_of}
use Rattle.script.proofs.NumberLaws.{whole_from}
use Rattle.script.proofs.numbers.read_whole.Given as goal

-- the digits that are left, behind others that spell v, spell what all do
abbrev pub invariant-loop-b : goal.invariant-loop-b
invariant-loop-b l = (l.v ≤ l.most) × (whole_of l.most l.word ≡ whole_from l.most l.v (drop l.b-index l.word))
