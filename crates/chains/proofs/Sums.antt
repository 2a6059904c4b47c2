-- How far sums along chains lead along each axis, in a well-formed memory (specs/Sums.antt).
use mathlib.Core.Path.{◌≡◌, refl}
use mathlib.Core.Bool.{true}
use native.Mathlib.Omega.{arith}
use Rattle.model.specs.Memory.{Memory}
use Rattle.model.specs.WellFormed.{memory_fine}
use Rattle.chains.specs.Sums.{WithinSums, SumsHold}
use Rattle.chains.proofs.Reaching.{resultant_far, seen_far}
use Rattle.chains.proofs.Ready.{walkable}

within_sums : (m : Memory) → memory_fine m ≡ true → WithinSums m
within_sums m e = let w = walkable m e in record { resultants = resultant_far m.systems w; seen = seen_far m.systems w }

pub sums_hold : SumsHold
sums_hold = record { within = within_sums; metres = refl; held = omega arith }
