use Rattle.model.specs.Image.{read_system}
use Rattle.image.proofs.Steps.{refused, went_on}
use Rattle.image.proofs.KindLaws.{kind_refused, kind_given}
use Rattle.image.proofs.systems.read_system.Goals as goal

pub returns-in_err-code-clause-told : goal.returns-in_err-code-clause-told
unfolding read_system
returns-in_err-code-clause-told c = rw c.from_residual.ensures (refused _ _ _ c.in_err-code.ensures.told)

pub returns-in_err-kind-clause-told : goal.returns-in_err-kind-clause-told
unfolding read_system
returns-in_err-kind-clause-told c =
    rw c.from_residual-in_err-kind.ensures (went_on _ _ _ c.in_ok-code.ensures.told (refused _ _ _ (kind_refused _ _ c.in_err-kind.ensures)))

pub returns-in_err-name-clause-told : goal.returns-in_err-name-clause-told
unfolding read_system
returns-in_err-name-clause-told c =
    rw c.from_residual-in_err-name.ensures
    (went_on _ _ _ c.in_ok-code.ensures.told (went_on _ _ _ (kind_given _ _ _ _ c.in_ok-kind.ensures) (refused _ _ _ c.in_err-name.ensures.told)))

pub returns-clause-told : goal.returns-clause-told
unfolding read_system
returns-clause-told c =
    went_on _ _ _ c.in_ok-code.ensures.told (went_on _ _ _ (kind_given _ _ _ _ c.in_ok-kind.ensures) (went_on _ _ _ c.in_ok-name.ensures.told c.read_placed.ensures.told))
