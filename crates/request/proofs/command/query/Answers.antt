use Rattle.model.specs.Request.{queries, read_by}
use Rattle.text.proofs.Choice.{untried, missed}
use Rattle.request.proofs.CommandLaws.{Tried, is_command, is_left}
use Rattle.request.proofs.command.query.Goals as goal

pub returns-then-is_word : goal.returns-then-is_word
unfolding queries read_by
returns-then-is_word c = is_command (untried queries _) c.is_word.ensures c.if-is_word.true

pub returns-then-is_word-2 : goal.returns-then-is_word-2
unfolding queries read_by
returns-then-is_word-2 c = is_command (missed (untried queries _) c.is_word.ensures c.if-is_word.false) c.is_word-2.ensures c.if-is_word-2.true

pub returns-then-is_word-3 : goal.returns-then-is_word-3
unfolding queries read_by
returns-then-is_word-3 c = is_command (missed (missed (untried queries _) c.is_word.ensures c.if-is_word.false) c.is_word-2.ensures c.if-is_word-2.false) c.is_word-3.ensures c.if-is_word-3.true

pub returns-then-is_word-4 : goal.returns-then-is_word-4
unfolding queries read_by
returns-then-is_word-4 c = is_command (missed (missed (missed (untried queries _) c.is_word.ensures c.if-is_word.false) c.is_word-2.ensures c.if-is_word-2.false) c.is_word-3.ensures c.if-is_word-3.false) c.is_word-4.ensures c.if-is_word-4.true

pub returns-then-is_word-5 : goal.returns-then-is_word-5
unfolding queries read_by
returns-then-is_word-5 c = is_command (missed (missed (missed (missed (untried queries _) c.is_word.ensures c.if-is_word.false) c.is_word-2.ensures c.if-is_word-2.false) c.is_word-3.ensures c.if-is_word-3.false) c.is_word-4.ensures c.if-is_word-4.false) c.is_word-5.ensures c.if-is_word-5.true

pub returns : goal.returns
unfolding queries read_by
returns c = let t : Tried queries = missed (missed (missed (missed (missed (untried queries _) c.is_word.ensures c.if-is_word.false) c.is_word-2.ensures c.if-is_word-2.false) c.is_word-3.ensures c.if-is_word-3.false) c.is_word-4.ensures c.if-is_word-4.false) c.is_word-5.ensures c.if-is_word-5.false in is_left t
