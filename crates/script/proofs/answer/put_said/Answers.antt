use Rattle.model.specs.Lists.{joined}
use Rattle.print.proofs.Laws.{wrote_then, wrote_end}
use Rattle.script.specs.Answer.{said}
use Rattle.script.proofs.answer.put_said.Goals as goal

pub returns : goal.returns
unfolding said joined
returns c =
    wrote_then c.put_head-i.ensures (wrote_then c.put_hex-k.ensures (wrote_end c.put_byte.ensures))
