use Prim.Native.Nat.{ℕ}
use mathlib.Core.Path.{◌≡◌, sym, ap, ◌∙◌}
use mathlib.Core.List.{List}
use mathlib.Core.Logic.{⊎_elim}
use native.Mathlib.Omega.{arith}
use Rattle.model.specs.Request.{commands, read_by, read_words, reading}
use Rattle.text.specs.Cursor.{next_word, word_of, words_from, Within}
use Rattle.text.proofs.WordLaws.{word_within}
use Rattle.request.proofs.CommandLaws.{by_none}
use Rattle.facts.specs.declared.refusals.Refusal.TheVariants.{Unknown}
use Rattle.facts.specs.Refusals.{outcome}
use Rattle.model.specs.Told.{refuses}
use Rattle.std.specs.Prelude.{Option}
use Rattle.std.specs.Result.{result_ok}
use Rattle.std.specs.Option.{ok_or}
use Rattle.request.specs.Asked.{reading_told}
use Rattle.request.specs.Forms.{asked_by}
use Rattle.request.specs.declared.command.Form.{Form}
use Rattle.request.proofs.Says.{says_as, says_why}
use Rattle.request.proofs.Words.{left}
use Rattle.text.specs.declared.words.Word.{Word}
use Rattle.request.proofs.read.Goals as goal

module _ (l : List ℕ) (w : Word) (p : w ≡ next_word l 0) where
  within : Within l w
  within = word_within l 0 w p (omega arith)

  -- a line is read by its first word, which is empty where there is none
  by_first : read_by commands (word_of l w) (words_from l w.end) ≡ reading l
  unfolding reading read_words
  by_first =
      let args = words_from l w.end in
      ⊎_elim (λ h. ap (λ (v : List ℕ). read_by commands v args) h.1 ∙ by_none args ∙ sym (ap read_words h.0)) (λ h. sym (ap read_words h)) (left l 0 w p)

pub form_of-requires : goal.form_of-requires
form_of-requires c = within c.args.line.now _ c.next_word-w.ensures

pub returns-in_err-form : goal.returns-in_err-form
returns-in_err-form c =
    let l = c.args.line.now in
    let args = words_from l c.next_word-w.result.end in
    let none = c.ok_or.ensures.ok_part ∙ ap result_ok c.in_err-form.was in
    let four = ap outcome (sym c.in_err-form.was ∙ c.ok_or.ensures.value ∙ ap (λ (o : Option Form). ok_or o Unknown) none) in
    says_why _ c.from_residual.ensures
    (ap (λ (n : ℕ). refuses n) four ∙ ap reading_told (sym (ap (λ (o : Option Form). asked_by o args) none) ∙ c.form_of.ensures args ∙ by_first l _ c.next_word-w.ensures))

pub arguments-requires : goal.arguments-requires
arguments-requires c = (within c.args.line.now _ c.next_word-w.ensures).inside

pub returns : goal.returns
returns c =
    let l = c.args.line.now in
    let some = c.ok_or.ensures.ok_part ∙ ap result_ok c.in_ok-form.was in
    let args = words_from l c.next_word-w.result.end in
    says_as c.arguments.ensures (sym (ap (λ (o : Option Form). asked_by o args) some) ∙ c.form_of.ensures args ∙ by_first l _ c.next_word-w.ensures)
