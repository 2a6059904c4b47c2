use Rattle.model.specs.Effects.{enabled_fixed}
use Rattle.memory.proofs.enable.enabled_fixed.Goals as goal

pub returns-in-Operating : goal.returns-in-Operating
returns-in-Operating c = rw c.in-Operating.is c.enabled_zero.ensures

pub returns-in-Orientational : goal.returns-in-Orientational
unfolding enabled_fixed
returns-in-Orientational c = rw c.in-Orientational.is c.with_orientational.ensures

pub returns-in-Levelling : goal.returns-in-Levelling
unfolding enabled_fixed
returns-in-Levelling c = rw c.in-Levelling.is c.with_levelling.ensures
