use native.Mathlib.Omega.{arith}
use Rattle.model.proofs.Digits.{length_digits}
use Rattle.print.proofs.Laws.{wrote_digits}
use Rattle.print.proofs.put_six.Goals as goal

pub put_three-requires : goal.put_three-requires
put_three-requires c = omega (arith, rw length_digits at c.put_three-i.ensures.place)

pub returns : goal.returns
returns c =
    let k = c in
    let j = k in
    wrote_digits 3 j.args.n 3 j.put_three-i.ensures k.put_three.ensures
