-- `read_mark`: a first number, a second one, and nothing behind it.
use mathlib.Core.Path.{◌≡◌, sym, ◌∙◌}
use borrow.Author.Rules.{rules}
use Rattle.std.proofs.Common.{None}
use Rattle.store.proofs.Ends.{no_first, no_second, more_behind, both_ends}
use Rattle.store.proofs.mark.read_mark.Goals as goal

pub returns-in_err-a-clause-value : goal.returns-in_err-a-clause-value
returns-in_err-a-clause-value c = let none : c.from_residual.result ≡ None = search rules in none ∙ no_first c.args.text.now (sym c.in_err-a.was ∙ c.number_end.ensures.value)

pub returns-in_err-b-clause-value : goal.returns-in_err-b-clause-value
returns-in_err-b-clause-value c =
    let none : c.from_residual-in_err-b.result ≡ None = search rules in
    none ∙ no_second c.args.text.now c.in_ok-a.a (sym c.in_ok-a.was ∙ c.number_end.ensures.value) (sym c.in_err-b.was ∙ c.number_end-2.ensures.value)

pub returns-then-b-text-clause-value : goal.returns-then-b-text-clause-value
returns-then-b-text-clause-value c =
    both_ends c.args.text.now c.in_ok-a.a (sym c.in_ok-a.was ∙ c.number_end.ensures.value) c.in_ok-b.b (sym c.in_ok-b.was ∙ c.number_end-2.ensures.value) c.if-b-text.true

pub returns-else-b-text-clause-value : goal.returns-else-b-text-clause-value
returns-else-b-text-clause-value c =
    more_behind c.args.text.now c.in_ok-a.a (sym c.in_ok-a.was ∙ c.number_end.ensures.value) c.in_ok-b.b (sym c.in_ok-b.was ∙ c.number_end-2.ensures.value) c.if-b-text.false
