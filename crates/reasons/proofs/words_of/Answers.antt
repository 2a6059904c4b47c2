-- `words_of`: each number has its text, and any other the last one.
use borrow.Author.Tests.{ne_eqb}
use Rattle.model.specs.Reasons.{later_reason, reason}
use Rattle.reasons.proofs.words_of.Goals as goal

pub returns-in_default : goal.returns-in_default
unfolding later_reason reason
returns-in_default c =
    let r = c.in_default.in_default-own.rest in
    let n = c.args.number in
    rw (
      ne_eqb n 1 r.0.0.0.0.0.0.0.0.0.0.0.0.0.0.0.1,
      ne_eqb n 2 r.0.0.0.0.0.0.0.0.0.0.0.0.0.0.1,
      ne_eqb n 3 r.0.0.0.0.0.0.0.0.0.0.0.0.0.1,
      ne_eqb n 4 r.0.0.0.0.0.0.0.0.0.0.0.0.1,
      ne_eqb n 5 r.0.0.0.0.0.0.0.0.0.0.0.1,
      ne_eqb n 6 r.0.0.0.0.0.0.0.0.0.0.1,
      ne_eqb n 7 r.0.0.0.0.0.0.0.0.0.1,
      ne_eqb n 8 r.0.0.0.0.0.0.0.0.1,
      ne_eqb n 9 r.0.0.0.0.0.0.0.1,
      ne_eqb n 10 r.0.0.0.0.0.0.1,
      ne_eqb n 11 r.0.0.0.0.0.1,
      ne_eqb n 12 r.0.0.0.0.1,
      ne_eqb n 13 r.0.0.0.1,
      ne_eqb n 14 r.0.0.1,
      ne_eqb n 15 r.0.1,
      ne_eqb n 20 r.1,
    )
