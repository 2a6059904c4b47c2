use Prim.Native.Nat.{ℕ, ◌-◌}
use mathlib.Core.Path.{◌≡◌, sym, ◌∙◌}
use mathlib.Core.List.{List}
use native.Mathlib.Omega.{arith}
use lib.ListN.{length}
use Rattle.text.specs.declared.words.Word.{Word}
use Rattle.text.specs.Cursor.{word_of, Within}
use Rattle.text.proofs.WordLaws.{length_word}
use Rattle.request.proofs.CommandLaws.{by_four, by_three, by_other}
use Rattle.request.proofs.command.form_of.Goals as goal

-- the length of a word
long : (l : List ℕ) (w : Word) → Within l w → length (word_of l w) ≡ w.end - w.start
long l w r = length_word l w.start (w.end - w.start) (omega (arith, r.ordered, r.inside))

pub returns-then-n-eq4 : goal.returns-then-n-eq4
returns-then-n-eq4 c args = c.query.ensures args ∙ sym (by_four _ args (long c.args.line.now c.args.w c.requires ∙ c.if-n-eq4.true))

pub returns-then-n-eq3 : goal.returns-then-n-eq3
returns-then-n-eq3 c args = c.definition.ensures args ∙ sym (by_three _ args (long c.args.line.now c.args.w c.requires ∙ c.if-n-eq3.true))

pub returns : goal.returns
returns c args =
    let l = long c.args.line.now c.args.w c.requires in
    sym (by_other (word_of c.args.line.now c.args.w) args (λ e. c.if-n-eq4.false (sym l ∙ e)) (λ e. c.if-n-eq3.false (sym l ∙ e)))
