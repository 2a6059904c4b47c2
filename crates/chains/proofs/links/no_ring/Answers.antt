use Rattle.std.proofs.Common.{sym, ◌∙◌, arith, below_more}
use borrow.Author.Tests.{eqb-true, eqb-false}
use Rattle.chains.proofs.Walks.{no_ring_by, ring_by}
use Rattle.chains.proofs.links.no_ring.Goals as goal

pub returns-then-not-ends : goal.returns-then-not-ends
returns-then-not-ends c =
    sym (ring_by c.args.preds.now c.loop-place.place (omega arith) (eqb-false _ _ (sym c.ends.ensures ∙ c.if-not-ends.true)))

pub returns-else-not-ends : goal.returns-else-not-ends
returns-else-not-ends c =
    let passed = below_more _ _ c.loop-place.invariant (eqb-true _ _ (sym c.ends.ensures ∙ c.if-not-ends.false)) in
    sym (no_ring_by c.args.preds.now (λ q h. passed q (omega arith)))
