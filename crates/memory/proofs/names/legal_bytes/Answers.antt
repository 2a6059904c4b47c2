use Rattle.std.proofs.Common.{◌≡◌, ◌-◌, ◌≤◌, ◌∙◌, length, take, drop, get_or, sym, true, false, arith, rules, tests}
use Rattle.std.proofs.Math.ListN.{length-drop}
use Rattle.std.proofs.Math.Seq.{take_all}
use Rattle.std.proofs.lemmas.Iterator.{cases_from_all, YieldsList-from_slice}
use borrow.Author.Tests.{lt-leb}
use Rattle.model.proofs.Basics.{true_false}
use Rattle.model.specs.Limits.{name_limit}
use Rattle.model.specs.Words.{capital, name_byte}
use Rattle.text.proofs.NameLaws.{legal_none, legal_long, legal_first, legal_rest}
use Rattle.memory.proofs.Tests.{all_told}
use Rattle.memory.proofs.names.legal_bytes.Goals.{then-t-le-NAME_LIMIT, else-t-le-NAME_LIMIT}
use Rattle.memory.proofs.names.legal_bytes.Goals as goal

pub returns-in-empty : goal.returns-in-empty
returns-in-empty c = sym (legal_none _ (omega arith))

pub returns-then-between : goal.returns-then-between
returns-then-between c =
    let t = c.args.t.now in
    let few : length t ≤ name_limit = elim c.if-t-le-NAME_LIMIT.branch [ then-t-le-NAME_LIMIT w ↦ w.if-t-le-NAME_LIMIT.true | else-t-le-NAME_LIMIT w ↦ true_false (sym c.if-between.true ∙ w.value-is ∙ lt-leb _ name_limit w.if-t-le-NAME_LIMIT.false) ] in
    let first : capital (get_or t 0 0) ≡ true =
    elim c.if-t-le-NAME_LIMIT.branch [ then-t-le-NAME_LIMIT w ↦ sym w.between.ensures ∙ sym w.value-is ∙ c.if-between.true | else-t-le-NAME_LIMIT w ↦ true_false (sym c.if-between.true ∙ w.value-is ∙ lt-leb _ name_limit w.if-t-le-NAME_LIMIT.false) ] in
    let rest : take (length t - 1) (drop 1 t) ≡ drop 1 t = take_all (length t - 1) (drop 1 t) (omega (arith, length-drop 1 t)) in
    rw (legal_rest t c.in-len1-up.len_at_least few first)
    (all_told name_byte (drop 1 t) _ (cases_from_all _ _ _ (λ b. name_byte b ≡ true) (λ b. name_byte b ≡ false) c.all.ensures.ran
    (YieldsList-from_slice (drop 1 t) (c.iter.ensures.rest ∙ rest)) (λ x q k. search (rules, tests)) (λ x q k. search (rules, tests))))

pub returns-else-between : goal.returns-else-between
returns-else-between c =
    let t = c.args.t.now in
    c.if-between.false ∙ elim c.if-t-le-NAME_LIMIT.branch [
      | then-t-le-NAME_LIMIT w ↦ sym (legal_first t (sym w.between.ensures ∙ sym w.value-is ∙ c.if-between.false))
      | else-t-le-NAME_LIMIT w ↦ sym (legal_long t w.if-t-le-NAME_LIMIT.false)
    ]
