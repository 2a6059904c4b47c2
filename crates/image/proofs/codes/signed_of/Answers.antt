use Rattle.std.proofs.Common.{◌+◌, ◌/◌, ◌≡◌, ◌∙◌, arith, rules, ◌-ℤ◌}
use native.Mathlib.Nat.{div-add-mod}
use native.Mathlib.Numerals.{add-one}
use lib.IntN.{pos, neg_ℤ}
use mir.Syntax.{w64}
use mir.Val.{to_z, of_z}
use mir.Facts.{to_z_pos}
use borrow.Author.Tests.{eq-eqb, ne_eqb}
use Rattle.model.specs.Image.{signed_of}
use Rattle.image.proofs.codes.signed_of.Goals as goal

pub returns-then-n-eq0 : goal.returns-then-n-eq0
unfolding signed_of
returns-then-n-eq0 c =
    let n = c.args.n in
    to_z_pos w64 {n = n / 2} (omega (arith, c.requires, div-add-mod n 2)) ∙ rw (eq-eqb _ _ c.if-n-eq0.true)

pub returns : goal.returns
unfolding signed_of
returns c =
    let n = c.args.n in
    let s : to_z w64 (n / 2 + 1) ≡ pos (n / 2 + 1) = to_z_pos w64 (omega (arith, c.requires, div-add-mod n 2)) in
    let z = to_z w64 (n / 2 + 1) in
    let k : to_z w64 (of_z w64 (pos 0 -ℤ z)) ≡ neg_ℤ z = search rules in
    rw (k, s, add-one) (rw (ne_eqb _ _ c.if-n-eq0.false))
