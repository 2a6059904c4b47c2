use Rattle.std.proofs.Common.{arith, rules}
use Rattle.model.proofs.Told.{told_value, refuses_none}
use Rattle.image.proofs.NumberLaws.{at_end, at_last, at_most, rest_refused, rest_zero, rest_read}
use Rattle.image.proofs.numbers.+read_number.Goals as goal

pub returns-in_err-split_off_first-clause-told : goal.returns-in_err-split_off_first-clause-told
returns-in_err-split_off_first-clause-told t c =
    rw c.from_residual.ensures (refuses_none 14 (at_end _ _ c.in_err-split_off_first.ensures.cases.0))

pub returns-then-group-lt128-clause-told : goal.returns-then-group-lt128-clause-told
returns-then-group-lt128-clause-told t c =
    let e = c.from-group.ensures in
    rw (c.then_some.ensures, c.in_ok-split_off_first.ensures.cases.0, e) (at_last _ c.args.most _ (rw e at c.if-group-lt128.true))

pub returns-then-most-lt128-clause-told : goal.returns-then-most-lt128-clause-told
returns-then-most-lt128-clause-told t c =
    rw c.in_ok-split_off_first.ensures.cases.0
    (refuses_none 14 (at_most _ _ _ (omega (arith, c.if-group-lt128.false, c.from-group.ensures)) c.if-most-lt128.true))

pub returns-in_err-high-clause-told : goal.returns-in_err-high-clause-told
returns-in_err-high-clause-told t c =
    rw (c.from_residual-in_err-high.ensures, c.in_ok-split_off_first.ensures.cases.0)
    (refuses_none 14 (rest_refused _ _ _ (omega (arith, c.if-group-lt128.false, c.from-group.ensures)) (told_value 14 _ _ c.in_err-high.ensures.told)))

pub returns-then-high-eq0-clause-told : goal.returns-then-high-eq0-clause-told
returns-then-high-eq0-clause-told t c =
    rw c.in_ok-split_off_first.ensures.cases.0
    (refuses_none 14
    (rest_zero _ _ _ (omega (arith, c.if-group-lt128.false, c.from-group.ensures)) _ _ (told_value 14 _ _ c.in_ok-high.ensures.told) c.if-high-eq0.true))

pub returns-clause-told : goal.returns-clause-told
returns-clause-told t c =
    let e = c.from-group.ensures in
    rw (c.then_some-2.ensures, c.in_ok-split_off_first.ensures.cases.0, e)
    (rest_read _ _ _ (omega (arith, c.if-group-lt128.false, e)) _ _ (told_value 14 _ _ c.in_ok-high.ensures.told) (search rules) (omega (arith, c.if-high-eq0.false)))
