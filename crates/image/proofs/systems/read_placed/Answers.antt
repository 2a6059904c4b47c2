use Rattle.std.proofs.Common.{refl, ◌∙◌}
use mir.Syntax.{w64}
use mir.Facts.{to_z-of_z}
use borrow.Author.Rules.{sfits_of}
use Rattle.model.specs.Told.{or_number}
use Rattle.model.specs.Image.{give, read_placed}
use Rattle.image.proofs.Steps.{refused, went_on}
use Rattle.image.proofs.systems.read_placed.Goals as goal

pub returns-in_err-x-clause-told : goal.returns-in_err-x-clause-told
unfolding read_placed
returns-in_err-x-clause-told c = rw c.from_residual.ensures (refused _ _ _ c.in_err-x.ensures.told)

pub returns-in_err-u-clause-told : goal.returns-in_err-u-clause-told
unfolding read_placed
returns-in_err-u-clause-told c = rw c.from_residual-in_err-u.ensures (went_on _ _ _ c.in_ok-x.ensures.told (refused _ _ _ c.in_err-u.ensures.told))

pub returns-clause-told : goal.returns-clause-told
unfolding read_placed give or_number
returns-clause-told c =
    let x = c.signed_of in
    let y = c.signed_of-2 in
    let z = c.signed_of-3 in
    rw (
      to_z-of_z {w = w64} (sfits_of x.type_inv) ∙ x.ensures,
      to_z-of_z {w = w64} (sfits_of y.type_inv) ∙ y.ensures,
      to_z-of_z {w = w64} (sfits_of z.type_inv) ∙ z.ensures,
    ) (went_on _ _ _ c.in_ok-x.ensures.told (went_on _ _ _ c.in_ok-u.ensures.told refl))
