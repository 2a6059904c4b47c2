use Prim.Native.Nat.{ℕ}
use mathlib.Core.Path.{sym, ap, ◌∙◌}
use mathlib.Core.List.{List, ◌∷◌}
use Rattle.model.specs.Request.{Reading, malformed, two_names}
use Rattle.text.specs.Cursor.{word_of}
use Rattle.text.proofs.NameLaws.{name_legal, name_bytes, name_short, name_illegal, name_refused}
use Rattle.text.proofs.WordLaws.{word_within}
use Rattle.request.specs.Asked.{named}
use Rattle.request.proofs.Laws.{two_none, two_bad, two_short, two_worse, two_more, two_good}
use Rattle.request.proofs.Says.{says_five, says_malformed, says_names}
use Rattle.request.proofs.Words.{at_word, either_way, legal_some}
use Rattle.request.proofs.arguments.two_names.Goals as goal

pub read_name-requires : goal.read_name-requires
read_name-requires c = word_within _ _ _ c.next_word-v.ensures c.requires

pub returns-in_err-first : goal.returns-in_err-first
returns-in_err-first c =
    let l = c.args.line.now in
    let v = word_of l c.next_word-v.result in
    let make : List ℕ → List ℕ → Reading = named c.args.asked in
    says_five _ c.from_residual.ensures (name_refused v c.in_err-first.ensures)
    (either_way l _ _ c.next_word-v.ensures (two_names make) malformed (two_none make v) (two_bad make v (name_illegal v c.in_err-first.ensures)))

pub next_word-w-requires : goal.next_word-w-requires
next_word-w-requires c = (word_within _ _ _ c.next_word-v.ensures c.requires).inside

pub read_name-requires-2 : goal.read_name-requires-2
read_name-requires-2 c = word_within _ _ _ c.next_word-w.ensures (word_within _ _ _ c.next_word-v.ensures c.requires).inside

pub returns-in_err-second : goal.returns-in_err-second
returns-in_err-second c =
    let l = c.args.line.now in
    let v = word_of l c.next_word-v.result in
    let make : List ℕ → List ℕ → Reading = named c.args.asked in
    let good = name_legal v c.in_ok-first.ensures in
    let there = at_word l _ _ c.next_word-v.ensures (legal_some v good) in
    let w = word_of l c.next_word-w.result in
    says_five _ c.from_residual-in_err-second.ensures (name_refused w c.in_err-second.ensures)
    (ap (two_names make) there ∙
    either_way l _ _ c.next_word-w.ensures (λ ws. two_names make (v ∷ ws)) malformed (two_short make v)
    (two_worse make v w good (name_illegal w c.in_err-second.ensures)))

pub ended-requires : goal.ended-requires
ended-requires c = (word_within _ _ _ c.next_word-w.ensures (word_within _ _ _ c.next_word-v.ensures c.requires).inside).inside

pub returns-then-not-ended : goal.returns-then-not-ended
returns-then-not-ended c =
    let l = c.args.line.now in
    let v = word_of l c.next_word-v.result in
    let w = word_of l c.next_word-w.result in
    let make : List ℕ → List ℕ → Reading = named c.args.asked in
    let there = at_word l _ _ c.next_word-v.ensures (legal_some v (name_legal v c.in_ok-first.ensures)) in
    let there_2 = there ∙ ap (λ (ws : List (List ℕ)). v ∷ ws) (at_word l _ _ c.next_word-w.ensures (legal_some w (name_legal w c.in_ok-second.ensures))) in
    says_malformed (ap (two_names make) there_2 ∙ two_more make v w _ (sym c.ended.ensures ∙ c.if-not-ended.true))

pub returns : goal.returns
returns c =
    let l = c.args.line.now in
    let v = word_of l c.next_word-v.result in
    let w = word_of l c.next_word-w.result in
    let make : List ℕ → List ℕ → Reading = named c.args.asked in
    let good = name_legal v c.in_ok-first.ensures in
    let good_2 = name_legal w c.in_ok-second.ensures in
    let there = at_word l _ _ c.next_word-v.ensures (legal_some v good) in
    let there_2 = there ∙ ap (λ (ws : List (List ℕ)). v ∷ ws) (at_word l _ _ c.next_word-w.ensures (legal_some w good_2)) in
    let a = name_bytes v c.in_ok-first.ensures in
    let b = name_bytes w c.in_ok-second.ensures in
    says_names _ _ _ c.ask.ensures (name_short v c.in_ok-first.ensures) (name_short w c.in_ok-second.ensures)
    (rw (a, b) (ap (two_names make) there_2 ∙ two_good make v w _ good good_2 (sym c.ended.ensures ∙ c.if-not-ended.false)))
