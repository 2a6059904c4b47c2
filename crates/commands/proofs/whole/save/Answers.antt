use mathlib.Core.Path.{refl}
use Rattle.model.specs.Request.{save}
use Rattle.model.specs.Refusals.{first, change_ladder}
use Rattle.model.specs.Effects.{changed}
use Rattle.model.specs.Checklist.{asks_to_save}
use Rattle.commands.specs.declared.changed.Deed.TheVariants.{Save}
use Rattle.commands.specs.Done.{done, saving, settle, Fits}
use Rattle.commands.proofs.Carried.{decides_accepted}
use Rattle.commands.proofs.whole.save.Goals as goal

pub returns : goal.returns
unfolding change_ladder first changed done saving settle Fits asks_to_save
returns c = λ s. decides_accepted s save Save refl refl tt refl refl
