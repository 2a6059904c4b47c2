use mathlib.Core.Path.{refl}
use Rattle.model.specs.Request as asked
use Rattle.model.specs.Refusals.{first, query_ladder}
use Rattle.engine.proofs.Taking.{list_taken}
use Rattle.engine.proofs.lists.systems_line.Goals as goal

pub returns : goal.returns
unfolding query_ladder first
returns c s e = list_taken s _ e asked.systems_all refl _ _ _ _ c.systems.ensures c.replied.ensures
