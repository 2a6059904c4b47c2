use native.Mathlib.Omega.{arith}
use Rattle.model.specs.Lists.{joined}
use Rattle.print.specs.Over.{millionths}
use Rattle.print.proofs.Laws.{length_millionths, wrote_then, wrote_end}
use Rattle.print.proofs.put_millionths.Goals as goal

pub put_decimal-i-requires : goal.put_decimal-i-requires
put_decimal-i-requires c = omega (arith, length_millionths c.args.m)

pub put_byte-j-requires : goal.put_byte-j-requires
put_byte-j-requires c = omega (arith, length_millionths c.args.m)

pub put_six-requires : goal.put_six-requires
put_six-requires c =
    omega (arith, length_millionths c.args.m, c.put_byte-j.ensures.place)

pub returns : goal.returns
unfolding millionths joined
returns c =
    wrote_then c.put_decimal-i.ensures (wrote_then c.put_byte-j.ensures (wrote_end c.put_six.ensures))
