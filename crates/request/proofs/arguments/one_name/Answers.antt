use Prim.Native.Nat.{ℕ}
use mathlib.Core.Path.{sym, ap, ◌∙◌}
use mathlib.Core.List.{List, []}
use Rattle.model.specs.Request.{Reading, malformed, one_name}
use Rattle.text.specs.Cursor.{word_of}
use Rattle.text.proofs.NameLaws.{name_legal, name_bytes, name_short, name_illegal, name_refused}
use Rattle.text.proofs.WordLaws.{word_within}
use Rattle.request.specs.Asked.{named}
use Rattle.request.proofs.Laws.{one_none, one_bad, one_more, one_good}
use Rattle.request.proofs.Says.{says_five, says_malformed, says_one}
use Rattle.request.proofs.Words.{at_word, either_way, legal_some}
use Rattle.request.proofs.arguments.one_name.Goals as goal

pub read_name-requires : goal.read_name-requires
read_name-requires c = word_within _ _ _ c.next_word-w.ensures c.requires

pub returns-in_err-first : goal.returns-in_err-first
returns-in_err-first c =
    let l = c.args.line.now in
    let v = word_of l c.next_word-w.result in
    let make : List ℕ → Reading = λ a. named c.args.asked a [] in
    says_five _ c.from_residual.ensures (name_refused v c.in_err-first.ensures)
    (either_way l _ _ c.next_word-w.ensures (one_name make) malformed (one_none make v) (one_bad make v (name_illegal v c.in_err-first.ensures)))

pub ended-requires : goal.ended-requires
ended-requires c = (word_within _ _ _ c.next_word-w.ensures c.requires).inside

pub returns-then-not-ended : goal.returns-then-not-ended
returns-then-not-ended c =
    let l = c.args.line.now in
    let v = word_of l c.next_word-w.result in
    let make : List ℕ → Reading = λ a. named c.args.asked a [] in
    let there = at_word l _ _ c.next_word-w.ensures (legal_some v (name_legal v c.in_ok-first.ensures)) in
    says_malformed (ap (one_name make) there ∙ one_more make v _ (sym c.ended.ensures ∙ c.if-not-ended.true))

pub returns : goal.returns
returns c =
    let l = c.args.line.now in
    let v = word_of l c.next_word-w.result in
    let make : List ℕ → Reading = λ a. named c.args.asked a [] in
    let good = name_legal v c.in_ok-first.ensures in
    let there = at_word l _ _ c.next_word-w.ensures (legal_some v good) in
    says_one _ _ _ c.ask.ensures (name_short v c.in_ok-first.ensures) c.no_name.ensures
    (ap (one_name make) there ∙ one_good make v _ good (sym c.ended.ensures ∙ c.if-not-ended.false) ∙ ap make (sym (name_bytes v c.in_ok-first.ensures)))
