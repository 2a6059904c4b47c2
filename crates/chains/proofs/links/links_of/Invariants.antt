use Rattle.std.proofs.Common.{◌≡◌, length, take}
use Rattle.model.specs.Limits.{max_systems}
use Rattle.chains.proofs.Copies.{preds_before}
use Rattle.chains.proofs.links.links_of.Given as goal

-- the predecessors' places of the systems passed are copied
abbrev pub invariant-loop-i : goal.invariant-loop-i
invariant-loop-i l = (length l.preds ≡ max_systems) × (take l.i l.preds ≡ preds_before l.fn.m.systems l.i)
