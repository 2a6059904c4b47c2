use Prim.Native.Nat.{◌≤◌}
use Rattle.model.specs.Image.{whole}
use Rattle.print.proofs.Left.{Left}
use Rattle.image.proofs.numbers.write_number.Given as goal

abbrev pub invariant-loop-left : goal.invariant-loop-left
invariant-loop-left l =
    (l.left ≤ l.n) × Left (whole l.n) l.at l.initial.out (whole l.left) l.i l.out

abbrev pub decreases-loop-left : goal.decreases-loop-left
decreases-loop-left l = l.left
