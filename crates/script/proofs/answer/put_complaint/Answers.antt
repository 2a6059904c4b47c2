use Rattle.model.specs.Lists.{joined}
use Rattle.print.proofs.Laws.{wrote_then, wrote_end}
use Rattle.script.specs.Answer.{complaint}
use Rattle.script.proofs.answer.put_complaint.Goals as goal

pub returns : goal.returns
unfolding complaint joined
returns c =
    wrote_then c.put_text-i.ensures (wrote_then c.put_decimal-j.ensures (wrote_end c.put_byte.ensures))
