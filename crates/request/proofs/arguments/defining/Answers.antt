use Prim.Native.Nat.{ℕ}
use mathlib.Core.Path.{◌≡◌, refl, sym, ap, subst, ◌∙◌}
use mathlib.Core.Bool.{Bool, true, false, cond}
use mathlib.Core.List.{List}
use mathlib.Core.Option.{Option, none, some}
use native.Mathlib.Omega.{arith}
use Rattle.model.specs.declared.Kind.{Kind}
use Rattle.model.specs.declared.Turns.{Turns}
use Rattle.model.specs.declared.Vec3.{Vec3}
use Rattle.model.specs.Request.{Reading, malformed, definition, Values, in_range, offsets_of, turns_of}
use Rattle.model.specs.Request as model
use Rattle.model.specs.Words.{legal_name}
use Rattle.model.specs.Told.{Told, tells, refuses}
use Rattle.model.proofs.Basics.{none_some}
use Rattle.text.specs.declared.words.Word.{Word}
use Rattle.text.specs.Cursor.{next_word, word_of, words_from}
use Rattle.text.specs.Pairs.{pairs_read, answered, ranged}
use Rattle.text.specs.Readings as text
use Rattle.text.proofs.NameLaws.{name_legal, name_bytes, name_short, name_illegal, name_refused}
use Rattle.text.proofs.PairLaws.{defining, definition_read, definition_unnamed}
use Rattle.text.proofs.WordLaws.{word_within}
use Rattle.request.specs.Asked.{reading_told}
use Rattle.request.proofs.Laws.{define_none}
use Rattle.request.proofs.Says.{says_five, says_why}
use Rattle.request.proofs.Words.{at_word, either_way, legal_some}
use Rattle.request.proofs.arguments.defining.Goals as goal

pub read_name-requires : goal.read_name-requires
read_name-requires c = word_within _ _ _ c.next_word-w.ensures c.requires

pub returns-in_err-first : goal.returns-in_err-first
returns-in_err-first c =
    let l = c.args.line.now in
    let v = word_of l c.next_word-w.result in
    let k = c.args.kind in
    says_five _ c.from_residual.ensures (name_refused v c.in_err-first.ensures)
    (either_way l _ _ c.next_word-w.ensures (definition k) malformed (define_none k) (λ ws. definition_unnamed k v ws (name_illegal v c.in_err-first.ensures)))

pub read_pairs-requires : goal.read_pairs-requires
read_pairs-requires c = (word_within _ _ _ c.next_word-w.ensures c.requires).inside

-- the name is legal, and the line's reading is what its pairs say
by_pairs : (k : Kind) (l : List ℕ) (at : ℕ) (w : Word) → w ≡ next_word l at → legal_name (word_of l w) ≡ true → definition k (words_from l at) ≡ text.reading_told (defining k (word_of l w)) (pairs_read k (words_from l w.end))
by_pairs k l at w e good = ap (definition k) (at_word l at w e (legal_some (word_of l w) good)) ∙ definition_read k (word_of l w) _ good

-- pairs are refused with 5 or with 6
refused_read : (o : Option Values) (n : ℕ) → ◌≡◌ {A = Told (Vec3 × Turns)} (refuses n) (answered o) → reading_told (text.refused_with n) ≡ refuses n
unfolding answered ranged
refused_read none n e = subst (λ (k : ℕ). reading_told (text.refused_with k) ≡ refuses k) (sym (ap (λ (t : Told (Vec3 × Turns)). t.number) e)) refl
refused_read (some vs) n e = pick (in_range vs) e
  where
    pick : (t : Bool) → ◌≡◌ {A = Told (Vec3 × Turns)} (refuses n) (cond t (tells (offsets_of vs, turns_of vs)) (refuses 6)) → reading_told (text.refused_with n) ≡ refuses n
    pick true p = none_some (ap (λ (t : Told (Vec3 × Turns)). t.value) p)
    pick false p = subst (λ (k : ℕ). reading_told (text.refused_with k) ≡ refuses k) (sym (ap (λ (t : Told (Vec3 × Turns)). t.number) p)) refl

-- what the pairs told is what the line tells
abbrev told_of : Kind → List ℕ → Told (Vec3 × Turns) → Told model.Request
told_of k v t = reading_told (text.reading_told (defining k v) t)

pub returns-in_err-offset : goal.returns-in_err-offset
returns-in_err-offset c =
    let l = c.args.line.now in
    let v = word_of l c.next_word-w.result in
    let k = c.args.kind in
    let told = c.in_err-offset.ensures in
    says_why _ c.from_residual-in_err-offset.ensures
    (sym (ap reading_told (by_pairs k l _ _ c.next_word-w.ensures (name_legal v c.in_ok-first.ensures)) ∙ ap (told_of k v) (sym told) ∙ refused_read _ _ told))

pub returns : goal.returns
returns c =
    let l = c.args.line.now in
    let v = word_of l c.next_word-w.result in
    let k = c.args.kind in
    let e = c.in_ok-first.ensures in
    record {
      says = ap (λ (n : List ℕ). tells (model.change (model.define k n c.in_ok-offset.offset c.in_ok-offset.turns))) (name_bytes v e) ∙ sym (ap reading_told (by_pairs k l _ _ c.next_word-w.ensures (name_legal v e)) ∙ ap (told_of k v) (sym c.in_ok-offset.ensures));
      fits = (name_short v e, rw c.no_name.ensures (omega arith));
    }
