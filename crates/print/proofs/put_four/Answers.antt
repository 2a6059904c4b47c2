use native.Mathlib.Omega.{arith}
use Rattle.model.proofs.Digits.{length_digits}
use Rattle.print.proofs.Laws.{wrote_digits}
use Rattle.print.proofs.put_four.Goals as goal

pub put_two-requires : goal.put_two-requires
put_two-requires c = omega (arith, rw length_digits at c.put_two-i.ensures.place)

pub returns : goal.returns
returns c =
    let k = c in
    let j = k in
    wrote_digits 2 j.args.n 2 j.put_two-i.ensures k.put_two.ensures
