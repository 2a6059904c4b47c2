use borrow.Author.Tests.{eq-eqb, ne_eqb}
use Rattle.model.specs.Effects.{enabling}
use Rattle.memory.proofs.enable.enabling_at.Goals as goal

pub returns-then-place-eq0 : goal.returns-then-place-eq0
unfolding enabling
returns-then-place-eq0 c l q = rw (eq-eqb _ _ c.if-place-eq0.true) c.enabled_fixed.ensures

pub returns : goal.returns
unfolding enabling
returns c l q = rw (ne_eqb _ _ c.if-place-eq0.false, ← q) c.enabled_user.ensures
