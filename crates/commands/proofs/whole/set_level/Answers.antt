use mathlib.Core.Path.{refl}
use Rattle.model.specs.Request.{set_level}
use Rattle.model.specs.Refusals.{first, change_ladder}
use Rattle.model.specs.Effects.{changed}
use Rattle.model.specs.Checklist.{asks_to_save}
use Rattle.commands.specs.declared.changed.Deed.TheVariants.{SetLevel}
use Rattle.commands.specs.Done.{done, saving, settle, Fits}
use Rattle.commands.proofs.Carried.{decides_accepted}
use Rattle.commands.proofs.whole.set_level.Goals as goal

pub returns : goal.returns
unfolding change_ladder first changed done saving settle Fits asks_to_save
returns c = let n = c.args.n in λ s. decides_accepted s (set_level n) (SetLevel n) refl refl tt refl refl
