use mathlib.Core.Path.{◌≡◌, ap, ◌∙◌}
use Rattle.std.specs.Prelude.{Result, Ok}
use Rattle.facts.specs.declared.refusals.Refusal.{Refusal}
use Rattle.commands.specs.declared.changed.Deed.{Deed}
use Rattle.commands.proofs.Deeds.{put_fits, remove_fits, applied_refused, applied_keep, applied_error, applied_put, applied_remove, applied_enable, applied_level, applied_save, applied_restore, applied_reset}
use Rattle.commands.proofs.changed.applied.Goals as goal

decided : {r : Result Deed Refusal} {d e : Deed} → r ≡ Ok d → d ≡ e → r ≡ Ok e
decided p q = p ∙ ap Ok q

pub put_at-r-requires : goal.put_at-r-requires
put_at-r-requires c = let fits = put_fits c.requires (decided c.in-Ok-Put.is (rw c.in-Ok-Put.is at c.in-Ok-Put.field-0-is)) in (fits.0, fits.1)

pub removed_at-r-requires : goal.removed_at-r-requires
removed_at-r-requires c = remove_fits c.requires (decided c.in-Ok-Remove.is (rw c.in-Ok-Remove.is at c.in-Ok-Remove.field-0-is))

pub returns-in-Err : goal.returns-in-Err
returns-in-Err c = applied_refused c.in-Err.is c.from.ensures

pub returns-in-Ok-Keep : goal.returns-in-Ok-Keep
returns-in-Ok-Keep c = applied_keep (decided c.in-Ok-Keep.is (rw c.in-Ok-Keep.is at c.in-Ok-Keep.field-0-is))

pub returns-in-Ok-SetError : goal.returns-in-Ok-SetError
returns-in-Ok-SetError c = applied_error (decided c.in-Ok-SetError.is (rw c.in-Ok-SetError.is at c.in-Ok-SetError.field-0-is))

pub returns-in-Ok-Put : goal.returns-in-Ok-Put
returns-in-Ok-Put c = applied_put (decided c.in-Ok-Put.is (rw c.in-Ok-Put.is at c.in-Ok-Put.field-0-is)) c.requires _ (c.put_at-r.ensures.stands_for, c.put_at-r.ensures.shaped)

pub returns-in-Ok-Remove : goal.returns-in-Ok-Remove
returns-in-Ok-Remove c = applied_remove (decided c.in-Ok-Remove.is (rw c.in-Ok-Remove.is at c.in-Ok-Remove.field-0-is)) _ (c.removed_at-r.ensures.stands_for, c.removed_at-r.ensures.shaped)

pub returns-in-Ok-Enable : goal.returns-in-Ok-Enable
returns-in-Ok-Enable c = applied_enable (decided c.in-Ok-Enable.is (rw c.in-Ok-Enable.is at c.in-Ok-Enable.field-0-is))

pub returns-in-Ok-SetLevel : goal.returns-in-Ok-SetLevel
returns-in-Ok-SetLevel c = applied_level (decided c.in-Ok-SetLevel.is (rw c.in-Ok-SetLevel.is at c.in-Ok-SetLevel.field-0-is))

pub returns-in-Ok-Save : goal.returns-in-Ok-Save
returns-in-Ok-Save c = applied_save (decided c.in-Ok-Save.is (rw c.in-Ok-Save.is at c.in-Ok-Save.field-0-is))

pub returns-in-Ok-Restore : goal.returns-in-Ok-Restore
returns-in-Ok-Restore c = applied_restore (decided c.in-Ok-Restore.is (rw c.in-Ok-Restore.is at c.in-Ok-Restore.field-0-is))

pub returns-in-Ok-Reset : goal.returns-in-Ok-Reset
returns-in-Ok-Reset c = applied_reset (decided c.in-Ok-Reset.is (rw c.in-Ok-Reset.is at c.in-Ok-Reset.field-0-is)) _ (c.factory_memory-r.ensures.stands_for, c.factory_memory-r.ensures.shaped)
