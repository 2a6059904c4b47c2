-- The name that a word spells, as an answer of the code.
use Rattle.std.specs.Prelude.{ℕ, ◌-◌, ◌≡◌, List, ◌++◌, cond, length, replicate, Result, IfOk}
use Rattle.std.proofs.Math.Option.{Option, none, some}
use Rattle.model.specs.Limits.{name_limit}
use Rattle.model.specs.declared.Name.{Name}
use Rattle.model.specs.Stored.{bytes_of}
use Rattle.model.specs.Told.{or_number}
use Rattle.model.specs.Words.{legal_name}
use Rattle.facts.specs.declared.refusals.Refusal.{Refusal}
use Rattle.facts.specs.Refusals as facts

-- [A line] the word, where it is a legal name
abbrev pub legal : List ℕ → Option (List ℕ)
legal w = cond (legal_name w) (some w) none

-- as it is stored: bytes past the last one are 0, so that equal names are equal values
abbrev pub stored : List ℕ → Name
stored w = record { bytes = w ++ replicate (name_limit - length w) 0; len = length w }

-- [A line; Error 5] a word was read
pub record Reads (w : List ℕ) (r : Result Name Refusal) : Type 0 where
  pub told : facts.told bytes_of r ≡ or_number 5 (legal w)
  pub name : IfOk r (λ n. n ≡ stored w)
