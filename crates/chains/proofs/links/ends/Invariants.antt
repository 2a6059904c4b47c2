use Rattle.std.proofs.Common.{◌≡◌, ◌-◌, length}
use Rattle.model.specs.Chain.{hop}
use Rattle.chains.specs.Flat.{linked_by}
use Rattle.chains.proofs.links.ends.Given as goal

-- as many links as are left lead from here to where all lead from the place
abbrev pub invariant-loop : goal.invariant-loop
invariant-loop l = hop (linked_by l.preds) (length l.preds - l.index) l.at ≡ hop (linked_by l.preds) (length l.preds) l.place
