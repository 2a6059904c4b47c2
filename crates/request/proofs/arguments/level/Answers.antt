use Prim.Native.Nat.{ℕ}
use mathlib.Core.Path.{◌≡◌, sym, ap, ◌∙◌}
use mathlib.Core.List.{List, [], ◌∷◌}
use mathlib.Core.Bool.{Bool, true, false, cond}
use native.Mathlib.Omega.{arith}
use Rattle.model.specs.Ascii.{ascii}
use Rattle.model.specs.Lists.{same}
use Rattle.model.specs.Request.{Reading, malformed, asks_change, set_level, level_words}
use Rattle.text.specs.Cursor.{word_of, words_from}
use Rattle.text.proofs.WordLaws.{word_within}
use Rattle.request.proofs.Laws.{level_none, level_zero, level_one, level_other}
use Rattle.request.proofs.Says.{says_as, says_malformed}
use Rattle.request.proofs.Words.{at_word, either_way, same_long}
use Rattle.text.specs.declared.words.Word.{Word}
use Rattle.text.specs.Cursor.{next_word}
use Rattle.request.proofs.arguments.level.Goals as goal

-- a word that is this text is the first of those left
there : (l : List ℕ) (at : ℕ) (w : Word) → w ≡ next_word l at → (b : ℕ) → same (word_of l w) (b ∷ []) ≡ true → words_from l at ≡ word_of l w ∷ words_from l w.end
there l at w p b e = at_word l at w p (same_long (word_of l w) (b ∷ []) (omega arith) e)

abbrev level : ℕ → Bool → Reading
level k fine = cond fine (asks_change (set_level k)) malformed

pub is_word-requires : goal.is_word-requires
is_word-requires c = word_within _ _ _ c.next_word-w.ensures c.requires

pub ended-requires : goal.ended-requires
ended-requires c = (word_within _ _ _ c.next_word-w.ensures c.requires).inside

pub returns-then-is_word : goal.returns-then-is_word
returns-then-is_word c =
    let v = word_of c.args.line.now c.next_word-w.result in
    let e : same v (ascii "0") ≡ true = sym c.is_word.ensures ∙ c.if-is_word.true in
    says_as c.if_fine.ensures (ap (level 0) c.ended.ensures ∙ sym (ap level_words (there c.args.line.now _ _ c.next_word-w.ensures 48 e) ∙ level_zero v e _))

pub is_word-requires-2 : goal.is_word-requires-2
is_word-requires-2 c = word_within _ _ _ c.next_word-w.ensures c.requires

pub only_word-requires : goal.only_word-requires
only_word-requires c = ((word_within _ _ _ c.next_word-w.ensures c.requires).inside, omega arith)

pub returns-then-is_word-2 : goal.returns-then-is_word-2
returns-then-is_word-2 c =
    let v = word_of c.args.line.now c.next_word-w.result in
    let z : same v (ascii "0") ≡ false = sym c.is_word.ensures ∙ c.if-is_word.false in
    let e : same v (ascii "1") ≡ true = sym c.is_word-2.ensures ∙ c.if-is_word-2.true in
    says_as c.if_fine-then-is_word-2.ensures
    (ap (level 1) c.only_word.ensures ∙ sym (ap level_words (there c.args.line.now _ _ c.next_word-w.ensures 49 e) ∙ level_one v z e _))

pub returns : goal.returns
returns c =
    let v = word_of c.args.line.now c.next_word-w.result in
    let z : same v (ascii "0") ≡ false = sym c.is_word.ensures ∙ c.if-is_word.false in
    says_malformed (either_way _ _ _ c.next_word-w.ensures level_words malformed level_none (level_other v z (sym c.is_word-2.ensures ∙ c.if-is_word-2.false)))
