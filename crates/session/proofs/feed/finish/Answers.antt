-- `finish`: the line that is held, if there is one.
use mathlib.Core.Path.{◌≡◌}
use native.Mathlib.Omega.{arith}
use borrow.Author.Rules.{rules}
use lib.ListN.{length}
use lib.Seq.{length-take-le}
use Rattle.session.specs.Feed.{enough}
use Rattle.session.proofs.Running.{ends_none, ends_answered}
use Rattle.session.proofs.feed.finish.Goals as goal

pub returns-then-s-eq0-clause-ends : goal.returns-then-s-eq0-clause-ends
returns-then-s-eq0-clause-ends c = rw c.nothing_due.ensures (ends_none c.args.k c.args.s c.args.out.now c.requires.fine_state c.if-s-eq0.true)

pub returns-clause-ends : goal.returns-clause-ends
returns-clause-ends c =
    let h = c.args.s.held in
    let long : length h.bytes ≡ enough = search rules in
    ends_answered c.args.k c.args.s c.args.out.now _ c.answer_line.result
    (omega (arith, length-take-le h.count h.bytes (omega (arith, h.few, long)), c.if-s-eq0.false)) (rw c.line.ensures at c.answer_line.ensures.answers)
