use Rattle.std.proofs.Common.{◌∙◌, sym}
use Rattle.memory.specs.Fine.{stored_all_fine}
use Rattle.memory.proofs.fine.typed_fine.Goals as goal

pub returns-then-systems_fine : goal.returns-then-systems_fine
unfolding stored_all_fine
returns-then-systems_fine c = rw (← c.held-systems.ensures, sym c.systems_fine.ensures ∙ c.if-systems_fine.true) c.enabled_fine.ensures

pub returns-else-systems_fine : goal.returns-else-systems_fine
unfolding stored_all_fine
returns-else-systems_fine c = c.if-systems_fine.false ∙ rw (← c.held-systems.ensures, sym c.systems_fine.ensures ∙ c.if-systems_fine.false)
