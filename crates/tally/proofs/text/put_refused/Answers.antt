-- `put_refused`: nothing, or its line.
use Rattle.print.proofs.Laws.{wrote_none}
use Rattle.tally.proofs.Parts.{line_none, line_there}
use Rattle.tally.proofs.text.put_refused.Goals as goal

pub returns-then-count-eq0 : goal.returns-then-count-eq0
returns-then-count-eq0 c = let a = c.args in rw (line_none a.number a.count c.if-count-eq0.true) (wrote_none a.out.now a.at)

pub put_line-requires : goal.put_line-requires
put_line-requires c =
    rw (← line_there c.args.number c.args.count c.if-count-eq0.false) c.requires

pub returns : goal.returns
returns c =
    let a = c.args in
    rw (line_there a.number a.count c.if-count-eq0.false) c.put_line.ensures
