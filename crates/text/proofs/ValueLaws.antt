-- Laws of the values that a line may say.
use Prim.Native.Nat.{◌/◌, ◌%◌, ◌≤◌}
use mathlib.Core.Path.{◌≡◌}
use mathlib.Core.Bool.{true}
use lib.Dec.{eqb, leb}
use lib.IntN.{ℤ, nat_abs}
use borrow.Author.Tests.{leb-true}
use Rattle.model.specs.Limits.{quarter_turn}
use Rattle.model.specs.Words.{angle?}
use Rattle.model.proofs.Basics.{and_split}

-- a listed angle is at most three quarter turns
pub angle_small : (z : ℤ) → angle? z ≡ true → nat_abs z / quarter_turn ≤ 3
unfolding angle?
angle_small z e = leb-true (nat_abs z / quarter_turn) 3 (and_split (eqb (nat_abs z % quarter_turn) 0) (leb (nat_abs z / quarter_turn) 3) e).1
