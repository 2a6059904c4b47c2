-- `digits`: a number of 64 bits has at most 20 digits, and one below zero has none.
use Prim.Native.Nat.{◌≤◌, ◌<◌, ◌^◌}
use mathlib.Core.Path.{◌≡◌}
use native.Mathlib.Omega.{arith}
use borrow.Author.Rules.{rules}
use lib.IntN.{nat_abs}
use lib.ListN.{length}
use mir.Syntax.{w32, w64}
use mir.Facts.{to_z-of_z, Fits-nat_abs}
use Rattle.io.proofs.Counting.{prefix_len_of_le}
use Rattle.model.specs.Reply.{decimal}
use Rattle.print.proofs.Laws.{wrote_none}
use Rattle.store.specs.Mark.{number_text}
use Rattle.store.proofs.Marks.{number_fits, number_below}
use Rattle.store.proofs.mark.digits.Goals.{In-Ok, In-Err}
use Rattle.store.proofs.mark.digits.Goals as goal

fits : (c : In-Ok) → (number_text c.args.n ≡ decimal c.in-Ok.n) × (length (decimal c.in-Ok.n) ≤ 20)
fits c =
    let e = to_z-of_z c.ranges.n in
    let told = rw e at c.in-Ok.ensures in
    number_fits c.args.n c.in-Ok.n told.0 told.1

pub put_decimal-requires : goal.put_decimal-requires
put_decimal-requires c = omega (arith, c.told-out, (fits (goal.at.put_decimal-requires c).In-Ok).1)

pub returns-in-Ok : goal.returns-in-Ok
returns-in-Ok c =
    let f = fits (goal.at.returns-in-Ok c).In-Ok in
    let l : 20 ≡ length c.put_decimal.new.out = search rules in
    let r : c.put_decimal.result ≤ 20 = omega (arith, c.put_decimal.ensures.place, f.1) in record {
      wrote = rw f.0 c.put_decimal.ensures;
      prefix_len = prefix_len_of_le _ _ (omega (arith, l, r));
      upper_bound = r;
    }

pub returns-in-Err-clause-wrote : goal.returns-in-Err-clause-wrote
returns-in-Err-clause-wrote c =
    let e = to_z-of_z c.ranges.n in
    let small : nat_abs c.args.n < 2 ^ 64 = omega (arith, Fits-nat_abs {w = w32} {w' = w64} tt c.ranges.n) in
    let none = rw e at c.in-Err.ensures in
    rw (number_below c.args.n small none) (wrote_none _ 0)
