use Rattle.print.proofs.Laws.{wrote_then, wrote_part}
use Rattle.reply.proofs.enabled.put_next.Goals as goal

pub returns : goal.returns
returns c = wrote_part _ _ c.requires.1 (wrote_then c.put_text-a.ensures c.put_enabled.ensures)
