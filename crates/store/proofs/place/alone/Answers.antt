-- `alone`: with nothing behind it.
use mathlib.Core.List.{append-nil}
use Rattle.store.proofs.place.alone.Goals as goal

pub returns-clause-placed : goal.returns-clause-placed
returns-clause-placed c = rw append-nil at c.beside.ensures.placed
