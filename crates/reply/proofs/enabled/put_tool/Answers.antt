use Rattle.print.proofs.Laws.{wrote_none}
use Rattle.reply.specs.EnabledText.{tool_text}
use Rattle.reply.proofs.enabled.put_tool.Goals as goal

pub returns-in-Single : goal.returns-in-Single
unfolding tool_text
returns-in-Single c = rw c.in-Single.is (wrote_none _ _)

pub put_next-requires : goal.put_next-requires
unfolding tool_text
put_next-requires c = rw c.in-Pair.is at c.requires

pub returns-in-Pair : goal.returns-in-Pair
unfolding tool_text
returns-in-Pair c = rw c.in-Pair.is c.put_next.ensures
