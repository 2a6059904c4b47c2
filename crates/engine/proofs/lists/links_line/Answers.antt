use mathlib.Core.Path.{refl}
use Rattle.model.specs.Request as asked
use Rattle.model.specs.Refusals.{first, query_ladder}
use Rattle.engine.proofs.Taking.{list_taken}
use Rattle.engine.proofs.lists.links_line.Goals as goal

pub returns : goal.returns
unfolding query_ladder first
returns c s e = list_taken s _ e asked.links refl _ _ _ _ c.links.ensures c.replied.ensures
