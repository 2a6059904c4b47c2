use Rattle.model.specs.Reply.{link_line}
use Rattle.reply.proofs.ListLaws.{Going}
use Rattle.reply.proofs.PlanLaws.{line_at}
use Rattle.reply.proofs.links.Given as goal

abbrev pub invariant-loop-s : goal.invariant-loop-s
invariant-loop-s l = Going (line_at link_line l.fn.m) l.fn.m.count l.initial.reply l.initial.at l.reply l.at l.s-index
