-- `put_sheet`: line by line, what is left of the sheet gets shorter.
use Prim.Native.Nat.{◌+◌}
use mathlib.Core.List.{◌++◌}
use native.Mathlib.Omega.{arith}
use Rattle.model.specs.Pose.{triple}
use Rattle.model.specs.Sheet.{sheet_line, sheet}
use Rattle.print.proofs.Left.{Left, left_all, left_wrote, left_fits, left_done}
use Rattle.sheet.proofs.Parts.{lines_from, lines_all, lines_turn, lines_end}
use Rattle.sheet.proofs.put_sheet.Goals.{In-loop-k}
use Rattle.sheet.proofs.put_sheet.Goals as goal

-- the next line, before those that are left after it
next_left : (c : In-loop-k) → Left sheet 0 c.args.out.now (sheet_line (triple c.loop-k.k) ++ lines_from (c.loop-k.k + 1)) c.loop-k.at c.loop-k.out
next_left c = rw (lines_turn c.loop-k.k (omega (arith, c.loop-k-test.true))) at c.loop-k.invariant

pub loop-k-init : goal.loop-k-init
loop-k-init c = left_all lines_all (omega (arith, c.requires))

pub put_line-at-requires : goal.put_line-at-requires
put_line-at-requires c =
    rw c.triple_at.ensures (left_fits (sheet_line (triple c.loop-k.k)) (lines_from (c.loop-k.k + 1)) (next_left (goal.at.put_line-at-requires c).In-loop-k))

pub loop-k-preserved : goal.loop-k-preserved
loop-k-preserved c =
    left_wrote (next_left (goal.at.loop-k-preserved c).In-loop-k) (rw c.triple_at.ensures at c.put_line-at.ensures)

pub returns : goal.returns
returns c = left_done (rw (lines_end c.loop-k.k (omega (arith, c.loop-k-test.false))) at c.loop-k.invariant)
