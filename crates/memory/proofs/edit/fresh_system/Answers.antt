use mathlib.Core.Path.{refl}
use Rattle.model.specs.Effects.{fresh}
use Rattle.memory.proofs.edit.fresh_system.Goals as goal

pub returns : goal.returns
unfolding fresh
returns c = record {
  stands_for = λ l. rw (c.first_pred-pred.ensures, c.group_of-group.ensures);
  name_value = refl;
}
