use Rattle.std.proofs.Common.{drop}
use Rattle.model.specs.Image.{numbers}
use Rattle.print.proofs.Left.{Left}
use Rattle.image.proofs.numbers.write_numbers.Given as goal

abbrev pub invariant-loop-value : goal.invariant-loop-value
invariant-loop-value l = Left (numbers l.values) l.at l.initial.out (numbers (drop l.value-index l.values)) l.next l.out
