-- `run`: the sheet fits in a buffer, and what is written out is the sheet.
use Prim.Native.Nat.{◌≤◌}
use mathlib.Core.Path.{◌≡◌, sym}
use native.Mathlib.Omega.{arith}
use lib.ListN.{length, take}
use lib.Seq.{length-take-le}
use Rattle.model.specs.Sheet.{sheet}
use Rattle.print.proofs.Laws.{wrote_first}
use Rattle.sheet.proofs.Parts.{sheet_short}
use Rattle.sheet.proofs.run.Goals.{After-put_sheet-n}
use Rattle.sheet.proofs.run.Goals as goal

pub put_sheet-n-requires : goal.put_sheet-n-requires
put_sheet-n-requires c = omega (arith, sheet_short)

-- what the first bytes of the buffer are
first : (c : After-put_sheet-n) → let w = c.put_sheet-n in (w.result ≤ length w.new.out) × (take w.result w.new.out ≡ sheet)
first c = wrote_first (omega (arith, sheet_short)) c.put_sheet-n.ensures

pub slice_bounds-out-end : goal.slice_bounds-out-end
slice_bounds-out-end c = (first (goal.at.slice_bounds-out-end c).After-put_sheet-n).0

pub slice_bounds-write_sheet-end : goal.slice_bounds-write_sheet-end
slice_bounds-write_sheet-end c = sym (length-take-le _ _ (first (goal.at.slice_bounds-write_sheet-end c).After-put_sheet-n).0)

pub write_sheet-requires : goal.write_sheet-requires
write_sheet-requires c = (first (goal.at.write_sheet-requires c).After-put_sheet-n).1
