use mathlib.Core.Path.{◌≡◌}
use borrow.Author.Rules.{rules}
use lib.IntN.{pos}
use lib.ListN.{get_or}
use mir.Syntax.{w64}
use mir.Val.{to_z, of_z}
use Rattle.model.specs.Request.{in_range}
use Rattle.text.proofs.PairLaws.{given_map}
use Rattle.text.proofs.pairs.in_range.Goals as goal

pub returns : goal.returns
unfolding in_range
returns c =
    let v = c.args.values in
    let x : to_z w64 (of_z w64 (get_or v 0 (pos 0))) ≡ get_or v 0 (pos 0) = search rules in
    let y : to_z w64 (of_z w64 (get_or v 1 (pos 0))) ≡ get_or v 1 (pos 0) = search rules in
    let z : to_z w64 (of_z w64 (get_or v 2 (pos 0))) ≡ get_or v 2 (pos 0) = search rules in
    let a : to_z w64 (of_z w64 (get_or v 3 (pos 0))) ≡ get_or v 3 (pos 0) = search rules in
    let b : to_z w64 (of_z w64 (get_or v 4 (pos 0))) ≡ get_or v 4 (pos 0) = search rules in
    let w : to_z w64 (of_z w64 (get_or v 5 (pos 0))) ≡ get_or v 5 (pos 0) = search rules in
    rw (
      given_map v 0,
      given_map v 1,
      given_map v 2,
      given_map v 3,
      given_map v 4,
      given_map v 5,
      c.offset_fine.ensures,
      c.offset_fine-2.ensures,
      c.offset_fine-3.ensures,
      c.angle_fine.ensures,
      c.angle_fine-2.ensures,
      c.angle_fine-3.ensures,
      x,
      y,
      z,
      a,
      b,
      w,
    )
