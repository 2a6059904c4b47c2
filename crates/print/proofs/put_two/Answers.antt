use native.Mathlib.Omega.{arith}
use Rattle.model.proofs.Digits.{length_digits}
use Rattle.print.proofs.Laws.{wrote_digits}
use Rattle.print.proofs.put_two.Goals as goal

pub put_one-requires : goal.put_one-requires
put_one-requires c = omega (arith, rw length_digits at c.put_one-i.ensures.place)

pub returns : goal.returns
returns c =
    let k = c in
    let j = k in
    wrote_digits 1 j.args.n 1 j.put_one-i.ensures k.put_one.ensures
