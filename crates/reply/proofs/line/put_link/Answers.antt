use native.Mathlib.Omega.{arith}
use Rattle.model.specs.Lists.{joined}
use Rattle.model.specs.Stored.{system_of, bytes_of}
use Rattle.print.proofs.Laws.{wrote_then, wrote_end}
use Rattle.reply.specs.Lines.{link_text}
use Rattle.reply.proofs.LineLaws.{length_link}
use Rattle.reply.proofs.line.put_link.Goals as goal

pub put_name-a-requires : goal.put_name-a-requires
put_name-a-requires c = (c.requires.0, omega (arith, c.requires.2, length_link (system_of c.args.s) (bytes_of c.args.pred)))

pub put_text-b-requires : goal.put_text-b-requires
put_text-b-requires c = omega (arith, length_link (system_of c.args.s) (bytes_of c.args.pred))

pub put_pred-requires : goal.put_pred-requires
put_pred-requires c = (c.requires.1, omega (arith, length_link (system_of c.args.s) (bytes_of c.args.pred)))

pub returns : goal.returns
unfolding link_text joined
returns c =
    wrote_then c.put_name-a.ensures (wrote_then c.put_text-b.ensures (wrote_end c.put_pred.ensures))
