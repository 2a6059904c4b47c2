-- `pose::sum` meets its contract: each sum is of two numbers whose magnitudes add up to one that fits.
use mathlib.Core.Path.{◌≡◌}
use Prim.Native.Nat.{◌≤◌}
use native.Mathlib.Omega.{arith}
use lib.IntN.{ℤ, nat_abs, ◌+ℤ◌}
use mir.Syntax.{w64}
use mir.Val.{SFits}
use Rattle.signed.proofs.Sizes.{read}
use Rattle.pose.specs.Poses.{reach}
use Rattle.pose.proofs.Sums.{add_fits, add_reads}
use Rattle.pose.proofs.sum.Goals as goal

module _ (p q : ℤ) (hp : nat_abs p ≤ reach) (hq : nat_abs q ≤ reach) where
  fits : SFits w64 (read p +ℤ read q)
  fits = add_fits p q (omega arith)

  is : read (read p +ℤ read q) ≡ p +ℤ q
  is = add_reads p q (omega arith)

pub returns : goal.returns
returns c =
    let p = c.args.p in
    let q = c.args.q in
    λ i.
    record {
      x = is p.x q.x c.requires.p_near.x_within c.requires.q_near.x_within i;
      y = is p.y q.y c.requires.p_near.y_within c.requires.q_near.y_within i;
      z = is p.z q.z c.requires.p_near.z_within c.requires.q_near.z_within i;
    }
