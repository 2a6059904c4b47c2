use Rattle.std.proofs.Common.{ℕ, ◌≡◌, ◌+◌, ◌-◌, ◌∙◌, ap, arith, eqb}
use Rattle.model.specs.Lists.{search, after}
use Rattle.chains.specs.Flat.{linked_by}
use Rattle.chains.specs.Searches.{down}
use Rattle.chains.proofs.Searching.{walk_over, walk_hit, walk_end, walk_on}
use Rattle.chains.proofs.links.look_down.Goals as goal

pub returns-then-at-k : goal.returns-then-at-k
returns-then-at-k c =
    let s = c.args in
    let w = c.loop-looked in
    walk_hit (linked_by s.preds.now) s.k w.at w.looked s.end (omega arith) c.if-at-k.true ∙ w.invariant.0

pub returns-then-at-eq0 : goal.returns-then-at-eq0
returns-then-at-eq0 c =
    let s = c.args in
    let w = c.loop-looked in
    walk_end (linked_by s.preds.now) s.k w.at w.looked s.end (omega arith) c.if-at-k.false c.if-at-eq0.true ∙ w.invariant.0

pub loop-looked-preserved : goal.loop-looked-preserved
loop-looked-preserved c =
    let s = c.args in
    let w = c.loop-looked in
    let l = linked_by s.preds.now in (
      ap (λ (p : ℕ). after (w.looked + 1) (search (eqb s.k) (down l (s.end - (w.looked + 1)) p))) c.pred_of-at.ensures
          ∙ walk_on l s.k w.at w.looked s.end (omega arith) c.if-at-k.false c.if-at-eq0.false
          ∙ w.invariant.0,
      omega arith,
    )

pub returns : goal.returns
returns c =
    let s = c.args in
    let w = c.loop-looked in
    let n : c.max.result ≡ w.looked = omega arith in
    rw n (walk_over (linked_by s.preds.now) s.k w.at w.looked s.end (omega arith) ∙ w.invariant.0)
