use Rattle.model.specs.WellFormed.{enabled_fine}
use Rattle.memory.proofs.fine.enabled_fine.Goals as goal

pub returns : goal.returns
unfolding enabled_fine
returns c = rw (c.operating_fine.ensures, c.is_kind.ensures, c.is_kind-2.ensures)
