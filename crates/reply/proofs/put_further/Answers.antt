use Rattle.print.proofs.Laws.{wrote_then}
use Rattle.reply.proofs.put_further.Goals as goal

pub returns : goal.returns
returns c = wrote_then c.put_text-a.ensures c.put_text.ensures
