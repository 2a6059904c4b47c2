use Rattle.std.proofs.Common.{◌+◌, ◌≡◌, ◌++◌, refl, sym, map, length, take, drop, get_or, arith, rules}
use lib.Seq.{length-take-le}
use Rattle.model.specs.Limits.{max_systems}
use Rattle.model.specs.Lists.{joined}
use Rattle.model.specs.Image.{system_bytes}
use Rattle.model.specs.Stored.{system_of, systems_of, name_shaped}
use Rattle.model.proofs.Basics.{all_at}
use Rattle.model.proofs.Shape.{shaped_count, shaped_names}
use Rattle.chains.proofs.Copies.{length_mapped, unset}
use Rattle.print.proofs.Left.{Left, left_all, left_wrote, left_fits, left_done}
use Rattle.image.proofs.MemoryLeft.{systems_turn, systems_end, offsets_small}
use Rattle.image.proofs.memories.write_systems.Goals.{In-loop-system}
use Rattle.image.proofs.memories.write_systems.Goals as goal

-- the next system, before those that are left after it
next_left : (c : In-loop-system) → (
    let m = c.args.m in
    let l = c.loop-system in
    Left (joined (map system_bytes (systems_of m))) c.args.at c.args.out.now
    (system_bytes (system_of (get_or (take m.count m.systems) l.system-index unset)) ++ joined (map system_bytes (drop (l.system-index + 1) (systems_of m)))) l.next l.out
    )
next_left c = rw (systems_turn c.args.m c.loop-system.system-index unset c.loop-system-test.true) at c.loop-system.invariant

pub shared_ref_as_front-systems : goal.shared_ref_as_front-systems
shared_ref_as_front-systems c = shaped_count c.args.m c.requires.fine_memory.shape

pub slice_bounds-systems-end : goal.slice_bounds-systems-end
slice_bounds-systems-end c =
    let m = c.args.m in
    let long : length m.systems ≡ max_systems = search (length_mapped, rules) in
    sym (length-take-le m.count m.systems (omega (arith, long, shaped_count m c.requires.fine_memory.shape)))

pub loop-system-init : goal.loop-system-init
loop-system-init c = left_all refl c.requires.room

pub write_system-next-requires-clause-shaped : goal.write_system-next-requires-clause-shaped
write_system-next-requires-clause-shaped c =
    let m = c.args.m in
    all_at name_shaped (take m.count m.systems) unset c.loop-system.system-index (shaped_names m c.requires.fine_memory.shape) c.loop-system-test.true

pub write_system-next-requires-clause-room : goal.write_system-next-requires-clause-room
write_system-next-requires-clause-room c =
    left_fits _ _ (next_left (goal.at.write_system-next-requires-clause-room c).In-loop-system)

pub write_system-next-requires-clause-small : goal.write_system-next-requires-clause-small
write_system-next-requires-clause-small c = offsets_small c.args.m c.loop-system.system-index c.requires.fine_memory.formed unset c.loop-system-test.true

pub loop-system-preserved : goal.loop-system-preserved
loop-system-preserved c = left_wrote (next_left (goal.at.loop-system-preserved c).In-loop-system) c.write_system-next.ensures

pub returns : goal.returns
returns c = left_done (rw (systems_end c.args.m c.loop-system.system-index c.loop-system-test.false) at c.loop-system.invariant)
