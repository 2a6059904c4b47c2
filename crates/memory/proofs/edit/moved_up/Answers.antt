use borrow.Author.Tests.{lt-ltb, le-ltb}
use Rattle.model.specs.Effects.{moved_up}
use Rattle.memory.proofs.edit.moved_up.Goals as goal

pub returns-then-a-q : goal.returns-then-a-q
unfolding moved_up
returns-then-a-q c = rw (lt-ltb _ _ c.if-a-q.true)

pub returns : goal.returns
unfolding moved_up
returns c = rw (le-ltb _ _ c.if-a-q.false)
