use mathlib.Core.Path.{refl}
use Rattle.model.specs.Request.{restore}
use Rattle.model.specs.Refusals.{change_ladder}
use Rattle.model.specs.Effects.{changed}
use Rattle.model.specs.Checklist.{asks_to_save}
use Rattle.commands.specs.declared.changed.Deed.TheVariants.{Restore}
use Rattle.commands.specs.Done.{done, saving, settle, Fits}
use Rattle.commands.proofs.Carried.{decides_at_level_1}
use Rattle.commands.proofs.whole.restore.Goals as goal

pub returns : goal.returns
unfolding change_ladder changed done saving settle Fits asks_to_save
returns c = λ s e. rw (c.at_level_1.ensures, ← e) (decides_at_level_1 s restore refl Restore refl tt refl refl)
