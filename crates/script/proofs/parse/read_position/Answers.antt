use Rattle.std.proofs.Common.{◌≡◌, get_or, pos, rules, w64, to_z, of_z}
use Rattle.script.specs.Fields.{fields_from}
use Rattle.script.specs.Numbers.{numbers_of}
use Rattle.script.proofs.OrderLaws.{position_wrong, position_other, position_taken}
use Rattle.script.proofs.parse.read_position.Goals as goal

pub returns-in_err-count : goal.returns-in_err-count
returns-in_err-count c =
    λ b. rw c.from_residual.ensures (position_wrong (numbers_of (fields_from c.args.text.now c.args.from)) b c.in_err-count.ensures.told)

pub returns-then-count-ne-AXES : goal.returns-then-count-ne-AXES
returns-then-count-ne-AXES c =
    let reads = c.in_ok-count.ensures in
    λ b. position_other (numbers_of (fields_from c.args.text.now c.args.from)) b _ _ reads.told reads.inside c.if-count-ne-AXES.true

pub returns : goal.returns
returns c =
    let reads = c.in_ok-count.ensures in
    let run = c.read_numbers.new.numbers in
    let f0 : to_z w64 (of_z w64 (get_or run 0 (pos 0))) ≡ get_or run 0 (pos 0) = search rules in
    let f1 : to_z w64 (of_z w64 (get_or run 1 (pos 0))) ≡ get_or run 1 (pos 0) = search rules in
    let f2 : to_z w64 (of_z w64 (get_or run 2 (pos 0))) ≡ get_or run 2 (pos 0) = search rules in
    let f3 : to_z w64 (of_z w64 (get_or run 3 (pos 0))) ≡ get_or run 3 (pos 0) = search rules in
    let f4 : to_z w64 (of_z w64 (get_or run 4 (pos 0))) ≡ get_or run 4 (pos 0) = search rules in
    let f5 : to_z w64 (of_z w64 (get_or run 5 (pos 0))) ≡ get_or run 5 (pos 0) = search rules in
    λ b. rw (f0, f1, f2, f3, f4, f5) (position_taken (numbers_of (fields_from c.args.text.now c.args.from)) b run _ reads.told reads.inside c.if-count-ne-AXES.false)
