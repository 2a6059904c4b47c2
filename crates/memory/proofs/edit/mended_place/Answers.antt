use borrow.Author.Tests.{eq-eqb, ne_eqb}
use Rattle.model.specs.Effects.{mended}
use Rattle.memory.proofs.edit.mended_place.Goals as goal

pub returns-then-q-a : goal.returns-then-q-a
unfolding mended
returns-then-q-a c = rw (eq-eqb _ _ c.if-q-a.true) c.moved_up.ensures

pub returns : goal.returns
unfolding mended
returns c = rw (ne_eqb _ _ c.if-q-a.false) c.moved_up-2.ensures
