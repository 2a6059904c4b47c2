use Rattle.std.proofs.Common.{arith}
use Rattle.print.proofs.Laws.{wrote_lead, length_lead}
use Rattle.print.proofs.+put_long.Goals as goal

pub put_long-i-requires : goal.put_long-i-requires
put_long-i-requires t c =
    let long = length_lead 4 c.args.n c.if-n-lt10000.false in
    (omega (arith, c.if-n-lt10000.false), omega (arith, c.requires, long))

pub put_four-requires : goal.put_four-requires
put_four-requires t c = omega (arith, c.requires, c.put_long-i.ensures.place, length_lead 4 c.args.n c.if-n-lt10000.false)

pub returns : goal.returns
returns t c = wrote_lead 4 c.args.n c.if-n-lt10000.false c.put_long-i.ensures c.put_four.ensures
