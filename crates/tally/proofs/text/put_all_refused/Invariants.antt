use lib.ListN.{drop}
use Rattle.model.specs.Tally.{refused_lines}
use Rattle.print.proofs.Left.{Left}
use Rattle.tally.proofs.Parts.{lines_from}
use Rattle.tally.proofs.text.put_all_refused.Given as goal

abbrev pub invariant-loop-before : goal.invariant-loop-before
invariant-loop-before l = Left (refused_lines 1 (drop 1 l.fn.t.counts)) l.at l.initial.out (lines_from l.count-items l.before) l.end l.out
