use Rattle.std.proofs.Common.{◌≤◌, length, sym, arith, length-take-le}
use Rattle.script.proofs.Cutting.{wrote_first, wrote_long}
use Rattle.script.proofs.drive.answer_all.Goals.{After-finish-n}
use Rattle.script.proofs.drive.answer_all.Goals as goal

-- the last answer lies in its room
within : (c : After-finish-n) → c.finish-n.result ≤ length c.finish-n.new.rooms.out.now
within c = omega (arith, c.finish-n.ensures.room, wrote_long c.finish-n.ensures.puts)

pub slice_bounds-write_last-end-2 : goal.slice_bounds-write_last-end-2
slice_bounds-write_last-end-2 c = within (goal.at.slice_bounds-write_last-end-2 c).After-finish-n

pub slice_bounds-write_last-end-3 : goal.slice_bounds-write_last-end-3
slice_bounds-write_last-end-3 c = sym (length-take-le _ _ (within (goal.at.slice_bounds-write_last-end-3 c).After-finish-n))

pub write_last-requires : goal.write_last-requires
write_last-requires c = wrote_first c.finish-n.ensures.puts c.finish-n.ensures.room
