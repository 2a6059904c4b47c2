use Prim.Native.Nat.{ℕ, ◌<◌}
use mathlib.Core.Path.{◌≡◌}
use mathlib.Core.Bool.{Bool, beq, ◌&&◌, ◌||◌}
use native.Mathlib.Omega.{arith}
use lib.Dec.{eqb, leb}
use Rattle.model.specs.Lists.{any}
use Rattle.model.specs.Refusals.{of_line?}
use Rattle.model.proofs.Upto.{at, alike}
use Rattle.facts.proofs.refusals.of_line.Goals as goal
-- The two tests agree on every byte: that is computed.
use Prim.Native.Nat.{ℕ, ◌<◌}
use mathlib.Core.Path.{◌≡◌}
use mathlib.Core.Bool.{Bool, beq, ◌&&◌, ◌||◌}
use native.Mathlib.Omega.{arith}
use lib.Dec.{eqb, leb}
use Rattle.model.specs.Lists.{any}
use Rattle.model.specs.Refusals.{of_line?}
use Rattle.model.proofs.Upto.{at, alike}

-- the test of the code
test : ℕ → Bool
test n = ((leb 2 n && leb n 13) || eqb n 15) || eqb n 20

tests_agree : (n : ℕ) → n < 256 → test n ≡ of_line? n
unfolding test of_line? any
tests_agree n h = alike (test n) (of_line? n) (at 256 (λ k. beq (test k) (of_line? k)) tt n h)

pub returns : goal.returns
unfolding test
returns c = tests_agree c.args.n (omega arith)
