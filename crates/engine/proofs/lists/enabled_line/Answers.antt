use mathlib.Core.Path.{refl}
use Rattle.model.specs.Request as asked
use Rattle.model.specs.Refusals.{first, query_ladder}
use Rattle.engine.proofs.Taking.{list_taken}
use Rattle.engine.proofs.lists.enabled_line.Goals as goal

pub returns : goal.returns
unfolding query_ladder first
returns c s e = list_taken s _ e asked.enabled_ones refl _ _ _ _ c.enabled.ensures c.replied.ensures
