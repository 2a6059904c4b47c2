-- `line_end`: what the search finds in the rest of the block.
use native.Mathlib.Omega.{arith}
use Rattle.lines.proofs.Laws.{found_from}
use Rattle.lines.proofs.line_end.Goals as goal

pub returns-in-Some : goal.returns-in-Some
returns-in-Some c = omega (arith, found_from c.args.block.now c.args.at c.in-Some.ensures)

pub returns-in-None : goal.returns-in-None
returns-in-None c = omega (arith, found_from c.args.block.now c.args.at c.in-None.ensures, c.requires)
