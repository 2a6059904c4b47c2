-- `put_all_refused`: number by number, what is left of the lines gets shorter.
use Prim.Native.Nat.{◌+◌}
use Rattle.model.specs.Tally.{refused_line}
use Rattle.print.proofs.Left.{left_wrote, left_fits, left_done}
use Rattle.tally.proofs.Parts.{lines_from, lines_turn, lines_end}
use Rattle.tally.proofs.text.put_all_refused.Goals as goal

pub put_refused-end-requires : goal.put_refused-end-requires
put_refused-end-requires c =
    let l = c.loop-before in
    left_fits (refused_line (l.before + 1) _) (lines_from _ (l.before + 1)) (rw (lines_turn _ l.before c.loop-before-test.true) at l.invariant)

pub loop-before-preserved : goal.loop-before-preserved
loop-before-preserved c =
    let l = c.loop-before in left_wrote (rw (lines_turn _ l.before c.loop-before-test.true) at l.invariant) c.put_refused-end.ensures

pub returns : goal.returns
returns c = let l = c.loop-before in left_done (rw (lines_end _ l.before c.loop-before-test.false) at l.invariant)
