use Rattle.std.proofs.Common.{◌≡◌, ℕ, ◌^◌, ◌<◌, List, sym, ap, ◌∙◌, arith, w64, to_z, of_z, rules}
use mathlib.Core.Option.{some}
use mir.Facts.{to_z_pos}
use Rattle.model.specs.Words.{positive, negative}
use Rattle.script.specs.Numbers.{whole_of, highest, deepest}
use Rattle.script.proofs.NumberLaws.{whole_bound, number_none, number_minus, number_plain}
use Rattle.script.proofs.numbers.read_number.Goals as goal

pub returns-in-empty : goal.returns-in-empty
returns-in-empty c = sym (number_none c.args.word.now (omega arith))

-- ---- behind a minus

pub below_zero-requires : goal.below_zero-requires
below_zero-requires c = whole_bound deepest _ _ (sym c.in_ok-read_whole-in-45.ensures)

pub returns-in_ok-read_whole-in-45 : goal.returns-in_ok-read_whole-in-45
unfolding negative
returns-in_ok-read_whole-in-45 c =
    let f : to_z w64 (of_z w64 c.below_zero.result) ≡ c.below_zero.result = search rules in
    ap some (f ∙ c.below_zero.ensures) ∙ ap negative c.in_ok-read_whole-in-45.ensures ∙ sym (number_minus c.args.word.now (omega arith) (omega arith))

pub returns-in_err-read_whole-in-45 : goal.returns-in_err-read_whole-in-45
unfolding negative
returns-in_err-read_whole-in-45 c =
    rw c.from_residual.ensures (ap negative c.in_err-read_whole-in-45.ensures ∙ sym (number_minus c.args.word.now (omega arith) (omega arith)))

-- ---- without one

small : (w : List ℕ) {v : ℕ} → some v ≡ whole_of highest w → v < 2 ^ 63
small w {v} e = let h = whole_bound highest w v (sym e) in omega arith

pub overflow_cast-result : goal.overflow_cast-result
overflow_cast-result c = record { sfits = small c.args.word.now c.in_ok-read_whole-in_default.ensures }

pub returns-in_ok-read_whole-in_default : goal.returns-in_ok-read_whole-in_default
unfolding positive
returns-in_ok-read_whole-in_default c =
    let w = c.args.word.now in
    let e = c.in_ok-read_whole-in_default.ensures in
    ap some (to_z_pos w64 (small w e)) ∙ ap positive e ∙ sym (number_plain w (λ h g. omega arith))

pub returns-in_err-read_whole-in_default : goal.returns-in_err-read_whole-in_default
unfolding positive
returns-in_err-read_whole-in_default c =
    rw c.from_residual-in_err-read_whole-in_default.ensures
    (ap positive c.in_err-read_whole-in_default.ensures ∙ sym (number_plain c.args.word.now (λ h g. omega arith)))
