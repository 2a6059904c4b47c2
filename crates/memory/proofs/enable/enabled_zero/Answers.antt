use borrow.Author.Tests.{eq-eqb, ne_eqb}
use Rattle.model.specs.Effects.{enabled_fixed}
use Rattle.memory.proofs.enable.enabled_zero.Goals as goal

pub returns-then-level-eq1 : goal.returns-then-level-eq1
unfolding enabled_fixed
returns-then-level-eq1 c = rw (c.with_levelling.ensures, c.with_operating-zero.ensures, eq-eqb _ _ c.if-level-eq1.true)

pub returns : goal.returns
unfolding enabled_fixed
returns c = rw (c.with_operating-zero.ensures, ne_eqb _ _ c.if-level-eq1.false)
