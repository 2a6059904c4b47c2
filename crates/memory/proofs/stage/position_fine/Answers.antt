use Rattle.model.specs.Stage.{position_fine}
use Rattle.memory.proofs.stage.position_fine.Goals as goal

pub returns : goal.returns
unfolding position_fine
returns c = rw (c.offsets_fine.ensures, c.angles_fine.ensures)
