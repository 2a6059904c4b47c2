use Rattle.print.proofs.Laws.{wrote_then}
use Rattle.script.proofs.answer.put_head.Goals as goal

pub returns : goal.returns
returns c =
    wrote_then c.put_decimal-i.ensures c.put_byte.ensures
