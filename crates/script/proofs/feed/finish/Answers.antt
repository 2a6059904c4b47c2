-- `finish`: the line that is held, if there is one.
use Rattle.std.proofs.Common.{arith, length-take-le}
use Rattle.script.proofs.Running.{ends_none, ends_obeyed}
use Rattle.script.proofs.feed.finish.Goals as goal

pub returns-then-n-eq0 : goal.returns-then-n-eq0
returns-then-n-eq0 c = let a = c.args in ends_none a.s a.held.now a.rooms.now.out.now c.if-n-eq0.true

pub returns : goal.returns
returns c =
    let a = c.args in
    let long = length-take-le a.s.held a.held.now c.requires in
    ends_obeyed a.s a.held.now a.rooms.now.out.now _ c.obey-o.result (omega (arith, long, c.if-n-eq0.false)) c.obey-o.ensures
