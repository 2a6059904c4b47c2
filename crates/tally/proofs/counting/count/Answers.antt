-- `count`: the counts make up the total still.
use mathlib.Core.List.{[], ◌∷◌}
use Rattle.model.specs.Tally.{counted_all}
use Rattle.model.proofs.Histories.Tally.{same_sums, counted_sums}
use Rattle.tally.specs.Counts.{tally_of}
use Rattle.tally.proofs.counting.count.Goals as goal

pub invariant_of-result : goal.invariant_of-result
unfolding counted_all
invariant_of-result c = let a = c.args in record { sums = same_sums c.count_in-total.ensures (counted_sums (a.number ∷ []) (tally_of a.t) a.t.sums) }
