use mathlib.Core.Path.{◌∙◌}
use Rattle.model.specs.Request.{definitions}
use Rattle.request.specs.Forms.{three_letters}
use Rattle.text.proofs.Choice.{untried, missed}
use Rattle.request.proofs.CommandLaws.{Tried, is_command, is_left}
use Rattle.request.proofs.command.definition.Goals as goal

pub returns-then-is_word : goal.returns-then-is_word
unfolding definitions
returns-then-is_word c = is_command (untried three_letters _) c.is_word.ensures c.if-is_word.true

pub returns-then-is_word-2 : goal.returns-then-is_word-2
unfolding definitions
returns-then-is_word-2 c = is_command (missed (untried three_letters _) c.is_word.ensures c.if-is_word.false) c.is_word-2.ensures c.if-is_word-2.true

pub returns-then-is_word-3 : goal.returns-then-is_word-3
unfolding definitions
returns-then-is_word-3 c = is_command (missed (missed (untried three_letters _) c.is_word.ensures c.if-is_word.false) c.is_word-2.ensures c.if-is_word-2.false) c.is_word-3.ensures c.if-is_word-3.true

pub returns-then-is_word-4 : goal.returns-then-is_word-4
unfolding definitions
returns-then-is_word-4 c = is_command (missed (missed (missed (untried three_letters _) c.is_word.ensures c.if-is_word.false) c.is_word-2.ensures c.if-is_word-2.false) c.is_word-3.ensures c.if-is_word-3.false) c.is_word-4.ensures c.if-is_word-4.true

pub returns-then-is_word-5 : goal.returns-then-is_word-5
unfolding definitions
returns-then-is_word-5 c = is_command (missed (missed (missed (missed (untried three_letters _) c.is_word.ensures c.if-is_word.false) c.is_word-2.ensures c.if-is_word-2.false) c.is_word-3.ensures c.if-is_word-3.false) c.is_word-4.ensures c.if-is_word-4.false) c.is_word-5.ensures c.if-is_word-5.true

pub returns-then-is_word-6 : goal.returns-then-is_word-6
unfolding definitions
returns-then-is_word-6 c = is_command (missed (missed (missed (missed (missed (untried three_letters _) c.is_word.ensures c.if-is_word.false) c.is_word-2.ensures c.if-is_word-2.false) c.is_word-3.ensures c.if-is_word-3.false) c.is_word-4.ensures c.if-is_word-4.false) c.is_word-5.ensures c.if-is_word-5.false) c.is_word-6.ensures c.if-is_word-6.true

pub returns : goal.returns
unfolding definitions
returns c args = let t : Tried three_letters = missed (missed (missed (missed (missed (missed (untried three_letters _) c.is_word.ensures c.if-is_word.false) c.is_word-2.ensures c.if-is_word-2.false) c.is_word-3.ensures c.if-is_word-3.false) c.is_word-4.ensures c.if-is_word-4.false) c.is_word-5.ensures c.if-is_word-5.false) c.is_word-6.ensures c.if-is_word-6.false in c.edit.ensures args ∙ is_left t args
