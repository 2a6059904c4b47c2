use Rattle.model.specs.Sheet.{sheet}
use Rattle.print.proofs.Left.{Left}
use Rattle.sheet.proofs.Parts.{lines_from}
use Rattle.sheet.proofs.put_sheet.Given as goal

abbrev pub invariant-loop-k : goal.invariant-loop-k
invariant-loop-k l = Left sheet 0 l.initial.out (lines_from l.k) l.at l.out
