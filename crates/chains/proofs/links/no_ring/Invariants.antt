use Rattle.std.proofs.Common.{ℕ, ◌≡◌, ◌<◌, length}
use Rattle.model.specs.Chain.{hop}
use Rattle.chains.specs.Flat.{linked_by}
use Rattle.chains.proofs.links.no_ring.Given as goal

-- every place passed has a chain that ends
abbrev pub invariant-loop-place : goal.invariant-loop-place
invariant-loop-place l = (q : ℕ) → q < l.place → hop (linked_by l.preds) (length l.preds) q ≡ 0
