-- `start_without`: at the factory.
use mathlib.Core.Path.{refl}
use Rattle.model.specs.Machine.{start_factory}
use Rattle.model.specs.Bench.{powered_on}
use Rattle.model.proofs.Histories.Kept.{well_formed_kept}
use Rattle.bench.proofs.Starting.{begun_held, begun_fine}
use Rattle.bench.proofs.start.start_without.Goals as goal

pub returns : goal.returns
unfolding powered_on
returns c =
    let s = c.start_factory in
    let b = c.begin_from in
    record {
      number = refl;
      held = begun_held s.result start_factory s.ensures b.result b.ensures;
      fine = begun_fine s.result start_factory s.ensures b.result b.ensures well_formed_kept.factory;
    }
