use Rattle.std.proofs.Common.{◌∙◌}
use Rattle.chains.proofs.Same.{links_no_ring}
use Rattle.memory.proofs.fine.ring_free.Goals as goal

pub returns : goal.returns
returns c = c.no_ring.ensures ∙ links_no_ring _ _ (c.flat.ensures ∙ c.links_of.ensures.links)
