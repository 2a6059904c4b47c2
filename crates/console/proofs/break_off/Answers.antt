-- `break_off`: the tally fits in the buffer.
use Prim.Native.Nat.{◌≤◌}
use mathlib.Core.Path.{◌≡◌, sym}
use native.Mathlib.Omega.{arith}
use lib.ListN.{length, take}
use lib.Seq.{length-take-le}
use Rattle.model.specs.Tally.{tally_text}
use Rattle.print.proofs.Laws.{wrote_first}
use Rattle.tally.specs.Counts.{tally_of}
use Rattle.console.proofs.break_off.Goals.{After-put_tally-size}
use Rattle.console.proofs.break_off.Goals as goal

-- what the first bytes of the buffer are
first : (c : After-put_tally-size) → let w = c.put_tally-size in
    (w.result ≤ length w.new.out) × (take w.result w.new.out ≡ tally_text (tally_of c.args.s.tally))
first c = let w = c.put_tally-size.ensures in wrote_first (omega (arith, w.wrote.place, w.upper_bound, c.requires)) w.wrote

pub slice_bounds-write_tally_until_now-end : goal.slice_bounds-write_tally_until_now-end
slice_bounds-write_tally_until_now-end c = (first (goal.at.slice_bounds-write_tally_until_now-end c).After-put_tally-size).0

pub slice_bounds-write_tally_until_now-end-2 : goal.slice_bounds-write_tally_until_now-end-2
slice_bounds-write_tally_until_now-end-2 c = sym (length-take-le _ _ (first (goal.at.slice_bounds-write_tally_until_now-end-2 c).After-put_tally-size).0)

pub write_tally_until_now-requires : goal.write_tally_until_now-requires
write_tally_until_now-requires c = (first (goal.at.write_tally_until_now-requires c).After-put_tally-size).1
