use mathlib.Core.Path.{◌≡◌, ap}
use native.Mathlib.Omega.{arith}
use lib.ListN.{length}
use Rattle.model.specs.Ascii.{ascii}
use Rattle.model.specs.Lists.{joined, least}
use Rattle.model.specs.Reply.{last_digits, digits_of, decimal, value, degrees}
use Rattle.print.proofs.put_degrees.Goals.{In-0}
use Rattle.print.proofs.put_degrees.Goals.{In-1}
use Rattle.print.proofs.put_degrees.Goals.{In-2}
use Rattle.print.proofs.put_degrees.Goals.{In_default}
use Rattle.print.proofs.put_degrees.Goals as goal

zero : (c : In-0) → degrees c.args.quarters ≡ ascii "0.000000"
unfolding value joined decimal digits_of least last_digits
zero c = rw c.in-0.is

quarter : (c : In-1) → degrees c.args.quarters ≡ ascii "90.000000"
unfolding value joined decimal digits_of least last_digits
quarter c = rw c.in-1.is

half : (c : In-2) → degrees c.args.quarters ≡ ascii "180.000000"
unfolding value joined decimal digits_of least last_digits
half c = rw c.in-2.is

three_quarters : (c : In_default) → degrees c.args.quarters ≡ ascii "270.000000"
unfolding value joined decimal digits_of least last_digits
three_quarters c =
    let e : c.args.quarters ≡ 3 = omega (arith, c.in_default.in_default-own.rest.1, c.in_default.in_default-own.rest.0.1, c.in_default.in_default-own.rest.0.0.1) in
    rw e

pub put_text-requires : goal.put_text-requires
put_text-requires c = omega (arith, ap length (zero (goal.at.put_text-requires c).In-0))

pub put_text-requires-in-1 : goal.put_text-requires-in-1
put_text-requires-in-1 c = omega (arith, ap length (quarter (goal.at.put_text-requires-in-1 c).In-1))

pub put_text-requires-in-2 : goal.put_text-requires-in-2
put_text-requires-in-2 c = omega (arith, ap length (half (goal.at.put_text-requires-in-2 c).In-2))

pub put_text-requires-in_default : goal.put_text-requires-in_default
put_text-requires-in_default c = omega (arith, ap length (three_quarters (goal.at.put_text-requires-in_default c).In_default))

pub returns-in-0 : goal.returns-in-0
returns-in-0 c = rw (zero (goal.at.returns-in-0 c).In-0) c.put_text.ensures

pub returns-in-1 : goal.returns-in-1
returns-in-1 c = rw (quarter (goal.at.returns-in-1 c).In-1) c.put_text-in-1.ensures

pub returns-in-2 : goal.returns-in-2
returns-in-2 c = rw (half (goal.at.returns-in-2 c).In-2) c.put_text-in-2.ensures

pub returns-in_default : goal.returns-in_default
returns-in_default c = rw (three_quarters (goal.at.returns-in_default c).In_default) c.put_text-in_default.ensures
