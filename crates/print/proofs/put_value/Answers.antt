use mathlib.Core.Path.{◌≡◌, ap, ◌∙◌}
use mathlib.Core.List.{◌∷◌}
use mathlib.Core.Bool.{true, false}
use native.Mathlib.Omega.{arith}
use lib.IntN.{pos, nat_abs}
use lib.ListN.{length}
use lib.Signed.{lt_z}
use mir.Facts.{to_z-of_z}
use Rattle.model.specs.Reply.{value}
use Rattle.print.specs.Over.{millionths}
use Rattle.print.proofs.Laws.{value_above, value_below, wrote_then}
use Rattle.print.proofs.put_value.Goals.{After-magnitude-m}
use Rattle.print.proofs.put_value.Goals.{Then-z-lt0}
use Rattle.print.proofs.put_value.Goals.{Else-z-lt0}
use Rattle.print.proofs.put_value.Goals as goal

size : (c : After-magnitude-m) → c.magnitude-m.result ≡ nat_abs c.args.z
size c = c.magnitude-m.ensures ∙ ap nat_abs (to_z-of_z c.ranges.z)

below : (c : Then-z-lt0) → value c.args.z ≡ 45 ∷ millionths c.magnitude-m.result
below c =
    let t : lt_z c.args.z (pos 0) ≡ true = rw (to_z-of_z c.ranges.z) at c.if-z-lt0.true in
    rw ((c.magnitude-m.ensures ∙ ap nat_abs (to_z-of_z c.ranges.z))) (value_below c.args.z t)

above : (c : Else-z-lt0) → value c.args.z ≡ millionths c.magnitude-m.result
above c =
    let t : lt_z c.args.z (pos 0) ≡ false = rw (to_z-of_z c.ranges.z) at c.if-z-lt0.false in
    rw ((c.magnitude-m.ensures ∙ ap nat_abs (to_z-of_z c.ranges.z))) (value_above c.args.z t)

pub put_byte-i-requires : goal.put_byte-i-requires
put_byte-i-requires c = omega (arith, ap length (below (goal.at.put_byte-i-requires c).Then-z-lt0))

pub put_millionths-requires : goal.put_millionths-requires
put_millionths-requires c =
    omega (arith, ap length (below (goal.at.put_millionths-requires c).Then-z-lt0))

pub returns-then-z-lt0 : goal.returns-then-z-lt0
returns-then-z-lt0 c =
    rw (below (goal.at.returns-then-z-lt0 c).Then-z-lt0) (wrote_then c.put_byte-i.ensures c.put_millionths.ensures)

pub put_millionths-requires-2 : goal.put_millionths-requires-2
put_millionths-requires-2 c = omega (arith, ap length (above (goal.at.put_millionths-requires-2 c).Else-z-lt0))

pub returns : goal.returns
returns c = rw (above (goal.at.returns c).Else-z-lt0) c.put_millionths-2.ensures
