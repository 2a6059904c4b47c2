-- `begin`: the factory state, nothing counted, and nothing held.
use mathlib.Core.Path.{refl}
use Rattle.model.specs.Machine.{start_factory}
use Rattle.model.proofs.Histories.Kept.{well_formed_kept}
use Rattle.model.proofs.Views.{view_is}
use Rattle.session.proofs.feed.begin.Goals as goal

pub returns : goal.returns
returns c =
    let v = view_is c.start_factory.result start_factory c.start_factory.ensures in
    let b = c.begin_from.ensures in
    record {
      held = rw (b.0, b.2, v.1) refl;
      tally = b.1;
      fine = record { shape = rw b.0 v.0; formed = rw (b.0, v.1) well_formed_kept.factory };
    }
