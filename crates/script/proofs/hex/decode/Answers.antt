use Rattle.std.proofs.Common.{◌≡◌, ◌+◌, ◌*◌, ◌&&◌, false, get_or, arith, length-drop}
use Rattle.model.proofs.Basics.{and_false}
use Rattle.script.specs.Hex.{digit?}
use Rattle.script.proofs.HexLaws.{a_digit, no_digit, two, left_next, left_stop, left_one, left_end}
use Rattle.script.proofs.hex.decode.Goals as goal

pub returns-in_err-digit_value : goal.returns-in_err-digit_value
returns-in_err-digit_value c =
    let t = c.args.text.now in
    let i = c.loop-i.i in
    let none : digit? (get_or t (2 * i) 0) && digit? (get_or t (2 * i + 1) 0) ≡ false = rw (no_digit (get_or t (2 * i) 0) c.in_err-digit_value.ensures) in
    rw c.from_residual.ensures (left_stop c.loop-i.invariant _ _ _ (two t i c.loop-i-test.true) none)

pub returns-in_err-out : goal.returns-in_err-out
returns-in_err-out c =
    let t = c.args.text.now in
    let i = c.loop-i.i in
    let none : digit? (get_or t (2 * i) 0) && digit? (get_or t (2 * i + 1) 0) ≡ false =
    rw (no_digit (get_or t (2 * i + 1) 0) c.in_err-out.ensures) (and_false (digit? (get_or t (2 * i) 0))) in
    rw c.from_residual-in_err-out.ensures (left_stop c.loop-i.invariant _ _ _ (two t i c.loop-i-test.true) none)

pub loop-i-preserved : goal.loop-i-preserved
loop-i-preserved c =
    let t = c.args.text.now in
    let i = c.loop-i.i in
    let high = a_digit (get_or t (2 * i) 0) _ c.in_ok-digit_value.ensures in
    let low = a_digit (get_or t (2 * i + 1) 0) _ c.in_ok-out.ensures in
    rw (high.1, low.1) (left_next c.loop-i.invariant _ _ _ (two t i c.loop-i-test.true) high.0 low.0)

-- one byte is left
pub returns-then-pairs-text : goal.returns-then-pairs-text
returns-then-pairs-text c =
    left_one c.loop-i.invariant (rw length-drop (omega (arith, c.loop-i-test.false, c.if-pairs-text.true)))

pub returns : goal.returns
returns c = left_end c.loop-i.invariant (rw length-drop (omega (arith, c.loop-i-test.false, c.if-pairs-text.false)))
