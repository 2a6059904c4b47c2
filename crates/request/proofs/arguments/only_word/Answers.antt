use mathlib.Core.Path.{◌≡◌, refl, sym, ap, ◌∙◌}
use mathlib.Core.List.{[], ◌∷◌}
use mathlib.Core.Bool.{true, false}
use Rattle.model.specs.Lists.{same}
use Rattle.model.specs.Request.{same_words}
use Rattle.text.specs.Cursor.{word_of}
use Rattle.text.proofs.WordLaws.{word_within}
use Rattle.request.proofs.Laws.{no_words, words_hit, words_miss}
use Rattle.request.proofs.Words.{at_word, either_way, same_long}
use Rattle.request.proofs.arguments.only_word.Goals as goal

pub is_word-requires : goal.is_word-requires
is_word-requires c = word_within _ _ _ c.next_word-w.ensures c.requires.0

pub ended-requires : goal.ended-requires
ended-requires c = (word_within _ _ _ c.next_word-w.ensures c.requires.0).inside

pub returns-then-is_word : goal.returns-then-is_word
returns-then-is_word c =
    let t = c.args.text.now in
    let v = word_of c.args.line.now c.next_word-w.result in
    let e : same v t ≡ true = sym c.is_word.ensures ∙ c.if-is_word.true in
    let l = same_long v t c.requires.1 e in
    sym (ap (same_words (t ∷ [])) (at_word _ _ _ c.next_word-w.ensures l) ∙ words_hit t [] v e _ ∙ no_words _ ∙ sym c.ended.ensures)

pub returns-else-is_word : goal.returns-else-is_word
unfolding same_words
returns-else-is_word c =
    let t = c.args.text.now in
    c.if-is_word.false ∙
    sym (either_way _ _ _ c.next_word-w.ensures (same_words (t ∷ [])) false refl
    (words_miss t [] (word_of c.args.line.now c.next_word-w.result) (sym c.is_word.ensures ∙ c.if-is_word.false)))
