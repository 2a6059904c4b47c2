use mathlib.Core.Path.{ap, ◌∙◌}
use native.Mathlib.Omega.{arith}
use lib.ListN.{length-take}
use Rattle.model.specs.Lists.{search as seek}
use Rattle.model.specs.Use.{looked_at}
use Rattle.model.specs.Stored.{memory_of}
use Rattle.model.proofs.Memories.Fine.{fine_of}
use Rattle.chains.specs.declared.used.Sought.{Sought}
use Rattle.chains.specs.Searches.{meets}
use Rattle.chains.proofs.Same.{links_looked}
use Rattle.memory.proofs.Seeking.{use_sought}
use Rattle.memory.proofs.used.use_of.Goals as goal

pub in_use-requires : goal.in_use-requires
in_use-requires c = rw c.flat.ensures (simp length-take (omega (arith, c.links_of-links.ensures.few)))

pub returns : goal.returns
returns c =
    let links = c.links_of-links in
    let sought = c.sought_for-sought in
    let found = c.found_named in
    let m = memory_of c.args.m in
    c.in_use.ensures
    ∙ ap (seek (meets sought.result)) (links_looked m.systems _ (c.flat.ensures ∙ links.ensures.links) m.enabled)
    ∙ ap (λ (x : Sought). seek (meets x) (looked_at m)) sought.ensures
    ∙ use_sought m (fine_of m c.requires.formed) c.args.name.now found.result found.ensures.told found.ensures.real
