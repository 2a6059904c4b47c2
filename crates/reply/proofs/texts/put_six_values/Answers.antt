use native.Mathlib.Omega.{arith}
use Rattle.print.proofs.Laws.{wrote_then}
use Rattle.reply.proofs.ValueLaws.{six_split, length_six}
use Rattle.reply.proofs.texts.put_six_values.Goals as goal

pub put_offsets-i-requires : goal.put_offsets-i-requires
put_offsets-i-requires c = (c.requires.0, omega (arith, length_six c.args.t c.args.r))

pub put_turns-requires : goal.put_turns-requires
put_turns-requires c =
    (c.requires.1, omega (arith, length_six c.args.t c.args.r))

pub returns : goal.returns
returns c =
    rw (six_split c.args.t c.args.r) (wrote_then c.put_offsets-i.ensures c.put_turns.ensures)
