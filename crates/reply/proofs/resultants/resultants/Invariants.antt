use Rattle.model.specs.Reply.{resultant_line}
use Rattle.chains.specs.Frames.{framed}
use Rattle.reply.proofs.KeptLaws.{Kept}
use Rattle.reply.proofs.ListLaws.{Going}
use Rattle.reply.proofs.PlanLaws.{line_at}
use Rattle.reply.proofs.resultants.resultants.Given as goal

-- the lines of the systems passed are written, and what is reached from each of them is kept
abbrev pub invariant-loop-i : goal.invariant-loop-i
invariant-loop-i l =
    Going (line_at resultant_line l.fn.m) l.fn.m.count l.initial.reply l.initial.at l.reply l.at l.i × Kept (framed l.xs l.ts l.ps) l.known l.i
