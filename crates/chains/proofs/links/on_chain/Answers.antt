use Rattle.std.proofs.Common.{ℕ, ◌+◌, ◌-◌, ◌∙◌, length, eqb, refl, sym, ap}
use Rattle.model.specs.Lists.{any, Search}
use Rattle.chains.specs.Flat.{linked_by}
use Rattle.chains.specs.Searches.{down}
use Rattle.chains.proofs.Searching.{on_none, on_below}
use Rattle.chains.proofs.links.on_chain.Goals as goal

pub returns-then-q-ne0 : goal.returns-then-q-ne0
returns-then-q-ne0 c =
    let s = c.args in
    ap (λ (r : Search). r.found) c.look_down.ensures
    ∙ ap (λ (p : ℕ). any (eqb s.a) (down (linked_by s.preds.now) (length s.preds.now + 1 - 0) p)) c.pred_of.ensures
    ∙ on_below s.preds.now s.a s.q c.if-q-ne0.true

pub returns-else-q-ne0 : goal.returns-else-q-ne0
returns-else-q-ne0 c = let s = c.args in rw c.if-q-ne0.false (sym (on_none s.preds.now s.a 0 refl))
