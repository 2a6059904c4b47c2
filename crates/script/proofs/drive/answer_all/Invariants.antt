use Rattle.std.proofs.Common.{◌≤◌, length}
use Rattle.script.proofs.drive.answer_all.Given as goal

abbrev pub invariant-loop : goal.invariant-loop
invariant-loop l = l.script.held ≤ length l.held
