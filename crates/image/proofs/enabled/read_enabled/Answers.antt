use Rattle.std.proofs.Common.{◌≡◌, refl, arith}
use Rattle.model.specs.Told.{or_number}
use Rattle.model.specs.Image.{give, enabled_from, read_enabled}
use Rattle.image.proofs.Steps.{refused, went_on}
use Rattle.image.proofs.enabled.read_enabled.Goals as goal

pub returns-in_err-read_number : goal.returns-in_err-read_number
unfolding read_enabled
returns-in_err-read_number c = rw c.from_residual.ensures (refused _ _ _ c.in_err-read_number.ensures.told)

pub returns-in_err-p : goal.returns-in_err-p
unfolding read_enabled
returns-in_err-p c =
    rw c.from_residual-in_err-p.ensures (went_on _ _ _ (rw c.if-branch-eq0.true at c.in_ok-read_number.ensures.told) (refused _ _ _ c.in_err-p.ensures.told))

pub returns-then-branch-eq0 : goal.returns-then-branch-eq0
unfolding read_enabled give enabled_from or_number
returns-then-branch-eq0 c = went_on _ _ _ (rw c.if-branch-eq0.true at c.in_ok-read_number.ensures.told) (went_on _ _ _ c.in_ok-p.ensures.told refl)

pub returns-in_err-w : goal.returns-in_err-w
unfolding read_enabled
returns-in_err-w c =
    let n = c.in_ok-read_number in
    let pair : n.field-0 ≡ 1 = omega (arith, n.ensures.within, c.if-branch-eq0.false) in
    rw c.from_residual-in_err-w.ensures (went_on _ _ _ (rw pair at n.ensures.told) (refused _ _ _ c.in_err-w.ensures.told))

pub returns : goal.returns
unfolding read_enabled give enabled_from or_number
returns c =
    let n = c.in_ok-read_number in
    let pair : n.field-0 ≡ 1 = omega (arith, n.ensures.within, c.if-branch-eq0.false) in
    went_on _ _ _ (rw pair at n.ensures.told) (went_on _ _ _ c.in_ok-w.ensures.told refl)
