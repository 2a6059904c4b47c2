use Rattle.std.proofs.Common.{◌≡◌, ℕ, ◌+◌, ◌-◌, ◌*◌, get_or, drop, sym, refl, ◌∙◌, arith}
use Rattle.script.specs.Numbers.{whole_of}
use Rattle.script.proofs.NumberLaws.{a_decimal, no_decimal, whole_from, whole_none, whole_some, whole_above, whole_next, whole_stop, whole_end}
use Rattle.script.proofs.numbers.read_whole.Goals.{In_ok-digit}
use Rattle.script.proofs.numbers.read_whole.Goals as goal

pub returns-then-is_empty : goal.returns-then-is_empty
returns-then-is_empty c = sym (whole_none c.args.most c.args.word.now (sym c.is_empty.ensures ∙ c.if-is_empty.true))

pub loop-b-init : goal.loop-b-init
loop-b-init c = (omega arith, whole_some c.args.most c.args.word.now (sym c.is_empty.ensures ∙ c.if-is_empty.false))

pub returns-in_err-digit : goal.returns-in_err-digit
returns-in_err-digit c =
    let l = c.loop-b in
    rw c.from_residual.ensures
    (sym (l.invariant.1 ∙ whole_stop c.args.most c.args.word.now l.v l.b-index c.loop-b-test.true (no_decimal (get_or c.args.word.now l.b-index 0) (rw c.from.ensures at c.in_err-digit.ensures.value))))

-- one digit more
more : (c : In_ok-digit) {v : ℕ} → v ≡ c.loop-b.v * 10 + c.in_ok-digit.digit →
    whole_of c.args.most c.args.word.now ≡ whole_from c.args.most v (drop (c.loop-b.b-index + 1) c.args.word.now)
more c e =
    let l = c.loop-b in
    let w = c.args.word.now in
    let d = a_decimal (get_or w l.b-index 0) c.in_ok-digit.digit (rw c.from.ensures at c.in_ok-digit.ensures.value) in
    let n : 10 * l.v + (get_or w l.b-index 0 - 48) ≡ c.loop-b.v * 10 + c.in_ok-digit.digit = omega (arith, d.1) in
    rw (e, ← n) (l.invariant.1 ∙ whole_next c.args.most w l.v l.b-index c.loop-b-test.true d.0)

-- more than fits is too much
pub returns-in_err-checked_mul : goal.returns-in_err-checked_mul
returns-in_err-checked_mul c =
    rw c.from_residual-in_err-checked_mul.ensures
    (sym (more (goal.at.returns-in_err-checked_mul c).In_ok-digit refl ∙ whole_above c.args.most _ _ (omega (arith, c.ranges.most, c.in_err-checked_mul.ensures))))

pub returns-in_err-v : goal.returns-in_err-v
returns-in_err-v c =
    rw c.from_residual-in_err-v.ensures
    (sym (more (goal.at.returns-in_err-v c).In_ok-digit refl
    ∙ whole_above c.args.most _ _ (omega (arith, c.ranges.most, c.in_ok-checked_mul.ensures, c.from-in-loop-b.ensures, c.in_err-v.ensures))))

pub returns-then-most-v : goal.returns-then-most-v
returns-then-most-v c =
    sym (more (goal.at.returns-then-most-v c).In_ok-digit (omega (arith, c.in_ok-checked_mul.ensures, c.from-in-loop-b.ensures, c.in_ok-v.ensures))
    ∙ whole_above c.args.most _ _ c.if-most-v.true)

pub loop-b-preserved : goal.loop-b-preserved
loop-b-preserved c =
    (c.if-most-v.false, more (goal.at.loop-b-preserved c).In_ok-digit (omega (arith, c.in_ok-checked_mul.ensures, c.from-in-loop-b.ensures, c.in_ok-v.ensures)))

pub returns : goal.returns
returns c = let l = c.loop-b in sym (l.invariant.1 ∙ whole_end c.args.most c.args.word.now l.v l.b-index c.loop-b-test.false l.invariant.0)
