use Rattle.std.proofs.Common.{sym, ◌∙◌}
use borrow.Author.Tests.{ltb-false}
use lib.ListN.{get_or-eq_default}
use Rattle.chains.specs.Flat.{linked_by}
use Rattle.chains.proofs.Walks.{pred_fixed, pred_user}
use Rattle.chains.proofs.links.pred_of.Goals as goal

pub returns-then-place-eq0 : goal.returns-then-place-eq0
returns-then-place-eq0 c = sym (pred_fixed (linked_by c.args.preds.now) _ c.if-place-eq0.true)

pub returns-in-Some : goal.returns-in-Some
returns-in-Some c = let s = c.args in c.in-Some.ensures.lookup.3.1 0 ∙ sym (pred_user s.preds.now s.place c.if-place-eq0.false)

pub returns-in-None : goal.returns-in-None
returns-in-None c =
    let s = c.args in
    sym (pred_user s.preds.now s.place c.if-place-eq0.false ∙ get_or-eq_default s.preds.now 0 (ltb-false _ _ (sym c.in-None.ensures.lookup.0)))
