use mathlib.Core.Path.{◌≡◌}
use native.Mathlib.Omega.{arith}
use Rattle.model.specs.Reply.{decimal, last_digits}
use Rattle.model.proofs.Digits.{decimal_one, decimal_digits, length_decimal}
use Rattle.print.proofs.put_short.Goals.{Then-n-lt10}
use Rattle.print.proofs.put_short.Goals.{Then-n-lt100}
use Rattle.print.proofs.put_short.Goals.{Then-n-lt1000}
use Rattle.print.proofs.put_short.Goals.{Else-n-lt1000}
use Rattle.print.proofs.put_short.Goals as goal

one : (c : Then-n-lt10) → decimal c.args.n ≡ last_digits 1 c.args.n
one c = decimal_one _ (omega arith)

two : (c : Then-n-lt100) → decimal c.args.n ≡ last_digits 2 c.args.n
two c = decimal_digits 1 _ (omega arith) (omega arith)

three : (c : Then-n-lt1000) → decimal c.args.n ≡ last_digits 3 c.args.n
three c = decimal_digits 2 _ (omega arith) (omega arith)

four : (c : Else-n-lt1000) → decimal c.args.n ≡ last_digits 4 c.args.n
four c = decimal_digits 3 _ (omega arith) (omega arith)

pub put_one-requires : goal.put_one-requires
put_one-requires c = omega (arith, length_decimal 1 _ (one (goal.at.put_one-requires c).Then-n-lt10))

pub returns-then-n-lt10 : goal.returns-then-n-lt10
returns-then-n-lt10 c = let k = c in rw (one (goal.at.returns-then-n-lt10 c).Then-n-lt10) k.put_one.ensures

pub put_two-requires : goal.put_two-requires
put_two-requires c = omega (arith, length_decimal 2 _ (two (goal.at.put_two-requires c).Then-n-lt100))

pub returns-then-n-lt100 : goal.returns-then-n-lt100
returns-then-n-lt100 c = let k = c in rw (two (goal.at.returns-then-n-lt100 c).Then-n-lt100) k.put_two.ensures

pub put_three-requires : goal.put_three-requires
put_three-requires c = omega (arith, length_decimal 3 _ (three (goal.at.put_three-requires c).Then-n-lt1000))

pub returns-then-n-lt1000 : goal.returns-then-n-lt1000
returns-then-n-lt1000 c = let k = c in rw (three (goal.at.returns-then-n-lt1000 c).Then-n-lt1000) k.put_three.ensures

pub put_four-requires : goal.put_four-requires
put_four-requires c = omega (arith, length_decimal 4 _ (four (goal.at.put_four-requires c).Else-n-lt1000))

pub returns : goal.returns
returns c = let k = c in rw (four (goal.at.returns c).Else-n-lt1000) k.put_four.ensures
