use Prim.Native.Nat.{◌+◌, ◌/◌, ◌%◌}
use mathlib.Core.Path.{refl}
use mathlib.Core.List.{[], ◌∷◌}
use native.Mathlib.Nat.{mod-lt}
use native.Mathlib.Omega.{arith}
use Rattle.model.specs.Image.{whole}
use Rattle.model.proofs.Image.Wholes.{less, whole_last, whole_more}
use Rattle.print.proofs.Left.{Left, left_all, left_byte, left_done}
use Rattle.image.proofs.numbers.write_number.Goals.{In-loop-left}
use Rattle.image.proofs.numbers.write_number.Goals.{After-loop-left}
use Rattle.image.proofs.numbers.write_number.Goals as goal

-- the next group, before those that are left after it
next_left : (c : In-loop-left) → (
    let l = c.loop-left in
    Left (whole c.args.n) c.args.at c.args.out.now ((l.left % 128 + 128) ∷ whole (l.left / 128)) l.i l.out
    )
next_left c = rw (whole_more c.loop-left.left c.loop-left-test.true) at c.loop-left.invariant.1

-- the last group
last_left : (c : After-loop-left) → (
    let l = c.loop-left in
    Left (whole c.args.n) c.args.at c.args.out.now (l.left ∷ []) l.i l.out
    )
last_left c = rw (whole_last c.loop-left.left c.loop-left-test.false) at c.loop-left.invariant.1

pub loop-left-init : goal.loop-left-init
loop-left-init c = (omega arith, left_all refl c.requires)

pub overflow_add-out : goal.overflow_add-out
overflow_add-out c = record { fits = omega (arith, mod-lt c.loop-left.left {m = 128} (omega arith)) }

pub overflow_cast-out : goal.overflow_cast-out
overflow_cast-out c = record { fits = omega (arith, mod-lt c.loop-left.left {m = 128} (omega arith)) }

pub bounds-out-i : goal.bounds-out-i
bounds-out-i c = omega (arith, (next_left (goal.at.bounds-out-i c).In-loop-left).room)

pub overflow_add-i : goal.overflow_add-i
overflow_add-i c = omega (arith, (next_left (goal.at.overflow_add-i c).In-loop-left).room)

pub loop-left-smaller : goal.loop-left-smaller
loop-left-smaller c = less c.loop-left.left c.loop-left-test.true

pub loop-left-preserved : goal.loop-left-preserved
loop-left-preserved c =
    let l = c.loop-left in
    (omega (arith, l.invariant.0, less l.left c.loop-left-test.true), left_byte (next_left (goal.at.loop-left-preserved c).In-loop-left))

pub overflow_cast-out-2 : goal.overflow_cast-out-2
overflow_cast-out-2 c = record { fits = omega (arith, c.loop-left-test.false) }

pub bounds-out-i-2 : goal.bounds-out-i-2
bounds-out-i-2 c = omega (arith, (last_left (goal.at.bounds-out-i-2 c).After-loop-left).room)

pub overflow_add-result : goal.overflow_add-result
overflow_add-result c = omega (arith, (last_left (goal.at.overflow_add-result c).After-loop-left).room)

pub returns : goal.returns
returns c = left_done (left_byte (last_left (goal.at.returns c).After-loop-left))
