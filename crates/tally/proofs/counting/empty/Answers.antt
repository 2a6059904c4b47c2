-- `empty`: nothing but zeros.
use mathlib.Core.Path.{◌≡◌, ap}
use mathlib.Core.List.{List}
use Prim.Native.Nat.{ℕ}
use lib.ListN.{replicate}
use Rattle.model.specs.Tally.{Tally, empty_tally}
use Rattle.model.proofs.Histories.Tally.{same_sums, empty_sums}
use Rattle.tally.specs.Trimmed.{tally_with}
use Rattle.tally.proofs.Trimming.{trimmed_zeros}
use Rattle.tally.proofs.counting.empty.Goals as goal

zeros : tally_with (replicate 256 0) 0 ≡ empty_tally
zeros = ap {B = Tally} (λ (cs : List ℕ). record { counts = cs; total = 0 }) (trimmed_zeros 256)

pub invariant_of-result : goal.invariant_of-result
invariant_of-result c = record { sums = same_sums zeros empty_sums }

pub returns : goal.returns
returns c = zeros
