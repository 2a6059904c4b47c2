use Rattle.std.proofs.Common.{ℕ, ◌≡◌, ◌+◌, ◌-◌, length, sym, ap, ◌∙◌, arith, eqb, eq-eqb}
use Rattle.model.specs.Chain.{hop}
use Rattle.chains.specs.Flat.{linked_by}
use Rattle.chains.proofs.Walks.{hop_ended, hop_none, hop_one}
use Rattle.chains.proofs.links.ends.Goals as goal

pub returns-then-at-eq0 : goal.returns-then-at-eq0
returns-then-at-eq0 c =
    let s = c.args in
    sym (eq-eqb _ _ (sym c.loop.invariant ∙ hop_ended (linked_by s.preds.now) (length s.preds.now - c.loop.index) c.loop.at c.if-at-eq0.true))

pub loop-preserved : goal.loop-preserved
loop-preserved c =
    let l = linked_by c.args.preds.now in
    let left = length c.args.preds.now - c.loop.index in
    let less : length c.args.preds.now - (c.loop.index + 1) ≡ left - 1 = omega arith in
    rw less (ap (λ (p : ℕ). hop l (left - 1) p) c.pred_of-at.ensures ∙ sym (hop_one l left c.loop.at (omega arith)) ∙ c.loop.invariant)

pub returns : goal.returns
returns c =
    let s = c.args in
    ap (λ (p : ℕ). eqb p 0) (sym (hop_none (linked_by s.preds.now) (length s.preds.now - c.loop.index) c.loop.at (omega arith)) ∙ c.loop.invariant)
