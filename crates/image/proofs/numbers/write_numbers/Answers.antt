use Rattle.std.proofs.Common.{◌+◌, ◌++◌, refl, drop, get_or}
use Rattle.model.specs.Image.{whole, numbers}
use Rattle.print.proofs.Left.{Left, left_all, left_done, left_wrote, left_fits}
use Rattle.image.proofs.NumbersLeft.{numbers_turn, numbers_end}
use Rattle.image.proofs.numbers.write_numbers.Goals.{In-loop-value}
use Rattle.image.proofs.numbers.write_numbers.Goals as goal

-- the next number, before those that are left after it
next_left : (c : In-loop-value) → (
    let l = c.loop-value in
    let v = c.args.values.now in
    Left (numbers v) c.args.at c.args.out.now (whole (get_or v l.value-index 0) ++ numbers (drop (l.value-index + 1) v)) l.next l.out
    )
next_left c = rw (numbers_turn c.args.values.now c.loop-value.value-index c.loop-value-test.true) at c.loop-value.invariant

pub loop-value-init : goal.loop-value-init
loop-value-init c = left_all refl c.requires

pub write_number-next-requires : goal.write_number-next-requires
write_number-next-requires c =
    let i = c.loop-value.value-index in
    let v = c.args.values.now in
    left_fits (whole (get_or v i 0)) (numbers (drop (i + 1) v)) (next_left (goal.at.write_number-next-requires c).In-loop-value)

pub loop-value-preserved : goal.loop-value-preserved
loop-value-preserved c = left_wrote (next_left (goal.at.loop-value-preserved c).In-loop-value) c.write_number-next.ensures

pub returns : goal.returns
returns c = left_done (rw (numbers_end c.args.values.now c.loop-value.value-index c.loop-value-test.false) at c.loop-value.invariant)
