-- `folder`: no '/', one as the first byte, or a later one.
use Prim.Native.Nat.{◌<◌}
use mathlib.Core.Path.{sym, ◌∙◌}
use borrow.Author.Rules.{rules}
use Rattle.store.specs.Place.{folder_of}
use Rattle.store.proofs.Placing.{folder_deep}
use Rattle.store.proofs.place.folder.Goals as goal

pub returns-in-0-clause-placed : goal.returns-in-0-clause-placed
unfolding folder_of
returns-in-0-clause-placed c = rw (sym c.slash_end.ensures.value ∙ c.in-0.is) c.alone.ensures.placed

pub returns-in-1-clause-placed : goal.returns-in-1-clause-placed
unfolding folder_of
returns-in-1-clause-placed c = rw (sym c.slash_end.ensures.value ∙ c.in-1.is) c.alone-in-1.ensures.placed

pub returns-in_default-clause-placed : goal.returns-in_default-clause-placed
unfolding folder_of
returns-in_default-clause-placed c =
    let end = c.slash_end.result in
    let deep : 1 < end = search rules in
    rw (← c.slash_end.ensures.value, folder_deep c.args.path.now end deep) c.alone-in_default.ensures.placed
