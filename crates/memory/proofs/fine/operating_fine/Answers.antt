use Rattle.model.specs.WellFormed.{operating_fine}
use Rattle.memory.proofs.fine.operating_fine.Goals as goal

pub returns-in-Single : goal.returns-in-Single
unfolding operating_fine
returns-in-Single c = rw (c.in-Single.is, c.is_kind.ensures, c.is_kind-in-Single.ensures)

pub returns-in-Pair : goal.returns-in-Pair
unfolding operating_fine
returns-in-Pair c = rw (c.in-Pair.is, c.is_kind-in-Pair.ensures, c.is_kind-in-Pair-2.ensures)
