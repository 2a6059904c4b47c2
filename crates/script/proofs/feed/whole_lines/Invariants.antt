use Rattle.std.proofs.Common.{◌-◌, length}
use Rattle.model.specs.Stored.{view_of}
use Rattle.script.specs.Run.{place}
use Rattle.script.proofs.Running.{Run}
use Rattle.script.proofs.feed.whole_lines.Given as goal

abbrev pub invariant-loop-rooms : goal.invariant-loop-rooms
invariant-loop-rooms l = Run (place (view_of l.initial.state) l.initial.number) l.block l.initial.rooms.out.now l.rooms.out.now l.state l.number l.at l.written

abbrev pub decreases-loop-rooms : goal.decreases-loop-rooms
decreases-loop-rooms l = length l.block - l.at
