use mathlib.Core.Path.{sym, ap, ◌∙◌}
use borrow.Author.Tests.{eqb-true, eqb-false}
use Rattle.model.specs.Request.{resultant_words}
use Rattle.text.specs.Cursor.{word_of}
use Rattle.text.proofs.WordLaws.{word_within, word_by_word}
use Rattle.request.specs.declared.Asked.TheVariants.{ListResultants}
use Rattle.request.proofs.Laws.{every_resultant, one_resultant, two_resultants}
use Rattle.request.proofs.Says.{says_as, says_plain}
use Rattle.request.proofs.arguments.resultants.Goals as goal

pub ended-requires : goal.ended-requires
ended-requires c = (word_within _ _ _ c.next_word-w.ensures c.requires).inside

pub returns-then-is_empty : goal.returns-then-is_empty
returns-then-is_empty c =
    says_plain ListResultants c.plain.ensures
    (ap resultant_words ((word_by_word c.args.line.now _ _ c.next_word-w.ensures).none (eqb-true _ _ (sym c.is_empty.ensures ∙ c.if-is_empty.true))) ∙ every_resultant)

pub returns-then-ended : goal.returns-then-ended
returns-then-ended c =
    let l = c.args.line.now in
    let there = (word_by_word l _ _ c.next_word-w.ensures).more (eqb-false _ _ (sym c.is_empty.ensures ∙ c.if-is_empty.false)) in
    says_as (rw there at c.one_name.ensures)
    (sym (ap resultant_words there ∙ one_resultant (word_of l c.next_word-w.result) _ (sym c.ended.ensures ∙ c.if-ended.true)))

pub returns : goal.returns
returns c =
    let l = c.args.line.now in
    let there = (word_by_word l _ _ c.next_word-w.ensures).more (eqb-false _ _ (sym c.is_empty.ensures ∙ c.if-is_empty.false)) in
    says_as (rw there at c.two_names.ensures)
    (sym (ap resultant_words there ∙ two_resultants (word_of l c.next_word-w.result) _ (sym c.ended.ensures ∙ c.if-ended.false)))
