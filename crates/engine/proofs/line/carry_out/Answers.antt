-- `carry_out`: each case of the request is the definition's.
use mathlib.Core.Path.{ap}
use Rattle.model.specs.declared.Memory.{Memory as StoredMemory}
use Rattle.model.specs.Checklist.{asks_to_save}
use Rattle.engine.proofs.Taking.{seen_in, tells_in, change_taken}
use Rattle.engine.proofs.OneLine.{named_within}
use Rattle.engine.proofs.line.carry_out.Goals as goal

pub look-requires : goal.look-requires
look-requires c = c.requires.fine_memory.shape

pub locate-requires : goal.locate-requires
locate-requires c = record {
  fine_memory = c.requires.fine_memory;
  p_fine = c.requires.p_fine;
  links_of = c.look-in-Locate.ensures.links;
  name_len = c.requires.names_fit.0;
}

pub look-requires-in-Link : goal.look-requires-in-Link
look-requires-in-Link c = c.requires.fine_memory.shape

pub look-requires-in-Copy : goal.look-requires-in-Copy
look-requires-in-Copy c = c.requires.fine_memory.shape

pub look-requires-in-Remove : goal.look-requires-in-Remove
look-requires-in-Remove c = c.requires.fine_memory.shape

pub look-requires-in-Locate : goal.look-requires-in-Locate
look-requires-in-Locate c = c.requires.fine_memory.shape

pub resultant_line-requires : goal.resultant_line-requires
resultant_line-requires c = record {
  fine_memory = c.requires.fine_memory;
  room = c.requires.room;
  there = named_within c.args.m _ _ c.subject_of-in-ListResultant.ensures;
}

pub relative_line-requires : goal.relative_line-requires
relative_line-requires c =
    let seen = c.look-in-ListRelative.ensures in record {
      fine_memory = c.requires.fine_memory;
      room = c.requires.room;
      there = (named_within c.args.m _ _ seen.first, named_within c.args.m _ _ seen.second);
    }

pub returns-in-Define : goal.returns-in-Define
unfolding asks_to_save
returns-in-Define c s volatile position level error = rw c.in-Define.is (change_taken _ (c.define.ensures s _ level (seen_in volatile c.look.ensures)) c.silent.ensures)

pub returns-in-Locate : goal.returns-in-Locate
unfolding asks_to_save
returns-in-Locate c s volatile position level error = rw c.in-Locate.is (change_taken _ (c.locate.ensures s _ volatile position c.look-in-Locate.ensures) c.silent-in-Locate.ensures)

pub returns-in-Link : goal.returns-in-Link
unfolding asks_to_save
returns-in-Link c s volatile position level error = rw c.in-Link.is (change_taken _ (c.link.ensures s _ _ level (seen_in volatile c.look-in-Link.ensures)) c.silent-in-Link.ensures)

pub returns-in-Copy : goal.returns-in-Copy
unfolding asks_to_save
returns-in-Copy c s volatile position level error = rw c.in-Copy.is (change_taken _ (c.copy.ensures s _ level (seen_in volatile c.look-in-Copy.ensures)) c.silent-in-Copy.ensures)

pub returns-in-Remove : goal.returns-in-Remove
unfolding asks_to_save
returns-in-Remove c s volatile position level error = rw c.in-Remove.is (change_taken _ (c.remove.ensures s _ _ level (seen_in volatile c.look-in-Remove.ensures)) c.silent-in-Remove.ensures)

pub returns-in-Enable : goal.returns-in-Enable
unfolding asks_to_save
returns-in-Enable c s volatile position level error = rw c.in-Enable.is (change_taken _ (c.enable.ensures s _ level (ap (λ (v : StoredMemory). v.enabled) volatile) (tells_in volatile c.subject_of.ensures)) c.silent-in-Enable.ensures)

pub returns-in-SetLevel : goal.returns-in-SetLevel
unfolding asks_to_save
returns-in-SetLevel c s volatile position level error = rw c.in-SetLevel.is (change_taken _ (c.set_level.ensures s) c.silent-in-SetLevel.ensures)

pub returns-in-Save : goal.returns-in-Save
unfolding asks_to_save
returns-in-Save c s volatile position level error = rw c.in-Save.is (change_taken _ (c.save.ensures s) c.silent-in-Save.ensures)

pub returns-in-Restore : goal.returns-in-Restore
unfolding asks_to_save
returns-in-Restore c s volatile position level error = rw c.in-Restore.is (change_taken _ (c.restore.ensures s level) c.silent-in-Restore.ensures)

pub returns-in-Reset : goal.returns-in-Reset
unfolding asks_to_save
returns-in-Reset c s volatile position level error = rw c.in-Reset.is (change_taken _ (c.reset.ensures s level) c.silent-in-Reset.ensures)

pub returns-in-ListEnabled : goal.returns-in-ListEnabled
unfolding asks_to_save
returns-in-ListEnabled c s volatile position level error = rw c.in-ListEnabled.is (c.enabled_line.ensures s volatile)

pub returns-in-ListSystems : goal.returns-in-ListSystems
unfolding asks_to_save
returns-in-ListSystems c s volatile position level error = rw c.in-ListSystems.is (c.systems_line.ensures s volatile)

pub returns-in-ListLinks : goal.returns-in-ListLinks
unfolding asks_to_save
returns-in-ListLinks c s volatile position level error = rw c.in-ListLinks.is (c.links_line.ensures s volatile)

pub returns-in-ListResultants : goal.returns-in-ListResultants
unfolding asks_to_save
returns-in-ListResultants c s volatile position level error = rw c.in-ListResultants.is (c.resultants_line.ensures s volatile)

pub returns-in-ListResultant : goal.returns-in-ListResultant
unfolding asks_to_save
returns-in-ListResultant c s volatile position level error = rw c.in-ListResultant.is (c.resultant_line.ensures s _ volatile c.subject_of-in-ListResultant.ensures)

pub returns-in-ListRelative : goal.returns-in-ListRelative
unfolding asks_to_save
returns-in-ListRelative c s volatile position level error = rw c.in-ListRelative.is (c.relative_line.ensures s _ _ volatile c.look-in-ListRelative.ensures)

pub returns-in-LastError : goal.returns-in-LastError
unfolding asks_to_save
returns-in-LastError c s volatile position level error = rw c.in-LastError.is (c.error_line.ensures s error)
