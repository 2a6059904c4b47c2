use Rattle.std.proofs.Common.{◌≡◌, ◌-◌, ◌≤◌, max, eqb}
use Rattle.model.specs.Lists.{search, after}
use Rattle.chains.specs.Flat.{linked_by}
use Rattle.chains.specs.Searches.{down}
use Rattle.chains.proofs.links.look_down.Given as goal

-- what the rest of the walk gives, after those that were looked at, is the answer
abbrev pub invariant-loop-looked : goal.invariant-loop-looked
invariant-loop-looked l =
    (after l.looked (search (eqb l.k) (down (linked_by l.preds) (l.end - l.looked) l.at)) ≡ after l.before (search (eqb l.k) (down (linked_by l.preds) (l.end - l.before) l.q)))
    × (l.looked ≤ max l.end l.before)
