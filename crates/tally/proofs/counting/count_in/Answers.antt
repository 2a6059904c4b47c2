-- `count_in`: below the last total no count is full either, since the counts make it up.
use Prim.Native.Nat.{◌^◌, ◌<◌}
use native.Mathlib.Omega.{arith}
use borrow.Author.Rules.{rules}
use Rattle.model.specs.Limits.{most_counted}
use Rattle.tally.proofs.Trimming.{count_fits, count_one, count_none}
use Rattle.tally.proofs.counting.count_in.Goals.{Else-total-eq18446744073709551615}
use Rattle.tally.proofs.counting.count_in.Goals as goal

pub returns-then-total-eq18446744073709551615 : goal.returns-then-total-eq18446744073709551615
returns-then-total-eq18446744073709551615 c = let a = c.args in count_none a.counts.now a.total a.number c.if-total-eq18446744073709551615.true

-- the total is not full
below : (c : Else-total-eq18446744073709551615) → c.args.total < most_counted
below c = let fits : c.args.total < 2 ^ 64 = search rules in omega (arith, c.if-total-eq18446744073709551615.false)

pub overflow_add-counts : goal.overflow_add-counts
overflow_add-counts c = record { fits = omega (arith, below (goal.at.overflow_add-counts c).Else-total-eq18446744073709551615, count_fits c.args.counts.now c.args.total c.args.number c.requires.sums) }

pub returns : goal.returns
returns c =
    let byte : c.args.number < 256 = search rules in
    count_one c.args.counts.now c.args.total c.args.number (omega (arith, c.requires.counts_len)) (below (goal.at.returns c).Else-total-eq18446744073709551615)
