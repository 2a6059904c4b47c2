-- `put_line`: the typed angles, a space, the shown ones, and LF.
use mathlib.Core.Path.{◌≡◌, ap, ◌∙◌}
use native.Mathlib.Omega.{arith}
use Rattle.model.specs.Pose.{rot_of, shown}
use Rattle.print.proofs.Laws.{wrote_then}
use Rattle.sheet.proofs.Parts.{line_parts, length_line}
use Rattle.sheet.proofs.put_line.Goals.{After-shown_of-shown}
use Rattle.sheet.proofs.put_line.Goals as goal

shows : (c : After-shown_of-shown) → c.shown_of-shown.result ≡ shown (rot_of c.args.t)
shows c = c.shown_of-shown.ensures ∙ ap shown c.named.ensures

pub put_angles-typed_end-requires : goal.put_angles-typed_end-requires
put_angles-typed_end-requires c = omega (arith, length_line _ _ (shows (goal.at.put_angles-typed_end-requires c).After-shown_of-shown))

pub put_byte-i-requires : goal.put_byte-i-requires
put_byte-i-requires c = omega (arith, length_line _ _ (shows (goal.at.put_byte-i-requires c).After-shown_of-shown), c.put_angles-typed_end.ensures.place)

pub put_angles-shown_end-requires : goal.put_angles-shown_end-requires
put_angles-shown_end-requires c =
    omega (arith, length_line _ _ (shows (goal.at.put_angles-shown_end-requires c).After-shown_of-shown), c.put_angles-typed_end.ensures.place, c.put_byte-i.ensures.place)

pub put_byte-requires : goal.put_byte-requires
put_byte-requires c =
    omega (arith, length_line _ _ (shows (goal.at.put_byte-requires c).After-shown_of-shown), c.put_angles-typed_end.ensures.place, c.put_byte-i.ensures.place, c.put_angles-shown_end.ensures.place)

pub returns : goal.returns
returns c =
    rw (line_parts _ _ (shows (goal.at.returns c).After-shown_of-shown))
    (wrote_then c.put_angles-typed_end.ensures (wrote_then c.put_byte-i.ensures (wrote_then c.put_angles-shown_end.ensures c.put_byte.ensures)))
