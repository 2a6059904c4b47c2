use mathlib.Core.Path.{refl}
use Rattle.model.specs.Lists.{all}
use Rattle.model.specs.Stored.{memory_shaped}
use Rattle.memory.proofs.factory.factory_memory.Goals as goal

pub returns : goal.returns
unfolding memory_shaped all
returns c = record {
  stands_for = refl;
  shaped = refl;
}
