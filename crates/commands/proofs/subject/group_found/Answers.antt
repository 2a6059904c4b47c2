use mathlib.Core.Path.{ap, ◌∙◌}
use Rattle.model.specs.Kinds.{of_kind}
use Rattle.model.specs.Memory.{ref_or}
use Rattle.memory.specs.Found.{found_told, found_place}
use Rattle.commands.proofs.subject.group_found.Goals as goal

pub returns-in-Some-User : goal.returns-in-Some-User
unfolding found_told found_place ref_or
returns-in-Some-User c =
    let user = rw c.in-Some-User.is at c.in-Some-User.field-0-is in
    λ l e. rw (c.in-Some-User.is, user) (c.group_of.ensures ∙ ap (λ k. (of_kind k).group) (rw (c.in-Some-User.is, user) at e))

pub returns-in-Some-Fixed : goal.returns-in-Some-Fixed
unfolding found_told found_place ref_or
returns-in-Some-Fixed c = let fixed = rw c.in-Some-Fixed.is at c.in-Some-Fixed.field-0-is in λ l e. rw (c.in-Some-Fixed.is, fixed)

pub returns-in-None : goal.returns-in-None
unfolding found_told found_place ref_or
returns-in-None c = λ l e. rw c.in-None.is
