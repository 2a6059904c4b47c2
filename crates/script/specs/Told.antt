-- What the code answers, a value or none, in the definitions' words.
use Rattle.std.specs.Prelude.{Option as Answer, Some, None, ℕ, List, take}
use Rattle.std.proofs.Math.Option.{Option, none, some}

abbrev pub told : {A : Type 0} → Answer A → Option A
told (Some a) = some a
told None = none

-- so many things that stand first in a lent run
abbrev pub told_first : {A : Type 0} → Answer ℕ → List A → Option (List A)
told_first (Some n) run = some (take n run)
told_first None run = none
