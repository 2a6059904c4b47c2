-- `number_end`: the tests, in the order of the definition.
use Prim.Native.Nat.{◌+◌, ◌-◌, ◌≤◌, ◌<◌}
use mathlib.Core.Path.{◌≡◌, ap, ◌∙◌}
use native.Mathlib.Omega.{arith}
use borrow.Author.Rules.{rules}
use lib.ListN.{length, drop, get_or, length-drop}
use lib.Seq.{take_all}
use Rattle.store.specs.Mark.{leading_digits}
use Rattle.store.proofs.Ends.{no_digit, too_long, nothing_behind, other_byte, number_found}
use Rattle.store.proofs.mark.number_end.Goals.{After-leading_digits-n, then-n-eq0-via-then-n-eq0, then-n-eq0-via-else-n-eq0+then-n-gt-DIGITS}
use Rattle.store.proofs.mark.number_end.Goals as goal

-- how many digits stand at the place
digits : (c : After-leading_digits-n) → c.leading_digits-n.result ≡ leading_digits (drop c.args.from c.args.text.now)
digits c =
    let text = c.args.text.now in
    let whole = take_all (length text - c.args.from) (drop c.args.from text) (omega (arith, length-drop c.args.from text)) in
    c.leading_digits-n.ensures.value ∙ ap leading_digits whole

pub returns-then-n-eq0-clause-value : goal.returns-then-n-eq0-clause-value
returns-then-n-eq0-clause-value c =
    let d = digits (goal.at.returns-then-n-eq0-clause-value c).After-leading_digits-n in
    elim c.then-n-eq0.branch [
      | then-n-eq0-via-then-n-eq0 w ↦ no_digit c.args.text.now c.args.from c.args.stop _ d w.if-n-eq0.true
      | then-n-eq0-via-else-n-eq0+then-n-gt-DIGITS w ↦ too_long c.args.text.now c.args.from c.args.stop _ d w.if-n-eq0.false w.if-n-gt-DIGITS.true
    ]

pub returns-in_err-get-clause-value : goal.returns-in_err-get-clause-value
returns-in_err-get-clause-value c =
    let d = digits (goal.at.returns-in_err-get-clause-value c).After-leading_digits-n in
    let out : length c.args.text.now ≤ c.args.from + c.leading_digits-n.result = search rules in
    let within : c.args.from + c.leading_digits-n.result ≤ length c.args.text.now = search rules in
    c.from_residual.ensures ∙ nothing_behind c.args.text.now c.args.from c.args.stop _ d c.if-n-eq0.false c.if-n-gt-DIGITS.false out within

pub returns-then-branch-stop-clause-value : goal.returns-then-branch-stop-clause-value
returns-then-branch-stop-clause-value c =
    let d = digits (goal.at.returns-then-branch-stop-clause-value c).After-leading_digits-n in
    let more : c.args.from + c.leading_digits-n.result < length c.args.text.now = search rules in
    let byte : get_or c.args.text.now (c.args.from + c.leading_digits-n.result) 0 ≡ c.args.stop = search rules in
    number_found c.args.text.now c.args.from c.args.stop _ d c.if-n-eq0.false c.if-n-gt-DIGITS.false more byte

pub returns-else-branch-stop-clause-value : goal.returns-else-branch-stop-clause-value
returns-else-branch-stop-clause-value c =
    let d = digits (goal.at.returns-else-branch-stop-clause-value c).After-leading_digits-n in
    let more : c.args.from + c.leading_digits-n.result < length c.args.text.now = search rules in
    let byte : c.in_ok-get.field-0.now ≡ get_or c.args.text.now (c.args.from + c.leading_digits-n.result) 0 = search rules in
    other_byte c.args.text.now c.args.from c.args.stop _ d c.if-n-eq0.false c.if-n-gt-DIGITS.false more (rw byte at c.if-branch-stop.false)
