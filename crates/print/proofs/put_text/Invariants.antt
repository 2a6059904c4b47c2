use Rattle.std.proofs.Common.{◌+◌, ◌≡◌, drop}
use Rattle.print.specs.Over.{over}
use Rattle.print.proofs.put_text.Given as goal

abbrev pub invariant-loop-i : goal.invariant-loop-i
invariant-loop-i l = over l.initial.out l.at l.text ≡ over l.out (l.at + l.i) (drop l.i l.text)
