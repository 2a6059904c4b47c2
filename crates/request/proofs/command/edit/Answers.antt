use mathlib.Core.Path.{◌∙◌}
use mathlib.Core.List.{◌++◌}
use Rattle.model.specs.Request.{edits, settings}
use Rattle.text.proofs.Choice.{untried, missed}
use Rattle.request.proofs.CommandLaws.{Tried, is_command, is_left}
use Rattle.request.proofs.command.edit.Goals as goal

pub returns-then-is_word : goal.returns-then-is_word
unfolding edits
returns-then-is_word c = is_command (untried (edits ++ settings) _) c.is_word.ensures c.if-is_word.true

pub returns-then-is_word-2 : goal.returns-then-is_word-2
unfolding edits
returns-then-is_word-2 c = is_command (missed (untried (edits ++ settings) _) c.is_word.ensures c.if-is_word.false) c.is_word-2.ensures c.if-is_word-2.true

pub returns-then-is_word-3 : goal.returns-then-is_word-3
unfolding edits
returns-then-is_word-3 c = is_command (missed (missed (untried (edits ++ settings) _) c.is_word.ensures c.if-is_word.false) c.is_word-2.ensures c.if-is_word-2.false) c.is_word-3.ensures c.if-is_word-3.true

pub returns-then-is_word-4 : goal.returns-then-is_word-4
unfolding edits
returns-then-is_word-4 c = is_command (missed (missed (missed (untried (edits ++ settings) _) c.is_word.ensures c.if-is_word.false) c.is_word-2.ensures c.if-is_word-2.false) c.is_word-3.ensures c.if-is_word-3.false) c.is_word-4.ensures c.if-is_word-4.true

pub returns : goal.returns
unfolding edits
returns c args = let t : Tried (edits ++ settings) = missed (missed (missed (missed (untried (edits ++ settings) _) c.is_word.ensures c.if-is_word.false) c.is_word-2.ensures c.if-is_word-2.false) c.is_word-3.ensures c.if-is_word-3.false) c.is_word-4.ensures c.if-is_word-4.false in c.setting.ensures args ∙ is_left t args
