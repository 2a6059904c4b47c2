use mathlib.Core.Logic.{⊎_elim}
use Rattle.model.specs.Told.{or_number}
use Rattle.text.proofs.numbers.value_of.Goals as goal

pub returns-in-Start : goal.returns-in-Start
unfolding or_number
returns-in-Start c = ⊎_elim (λ h. rw h) (⊎_elim (λ h. rw h) (⊎_elim (λ h. rw h.2) (λ h. rw h))) c.in-Start.is
