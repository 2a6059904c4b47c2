use Prim.Native.Nat.{◌+◌, ◌≤◌}
use mathlib.Core.Path.{◌≡◌, ap}
use native.Mathlib.Omega.{arith}
use lib.ListN.{length, get_or, length-append}
use Rattle.model.specs.Use.{in_group}
use Rattle.model.specs.Reply.{listing, relative_line}
use Rattle.model.specs.Stored.{systems_of}
use Rattle.chains.specs.Walk.{walk_of}
use Rattle.chains.proofs.Copies.{length_mapped, unset}
use Rattle.print.proofs.Laws.{wrote_then}
use Rattle.reply.specs.Reached.{relative_text}
use Rattle.reply.proofs.ListLaws.{replied}
use Rattle.reply.proofs.RelativeLaws.{in_array, name_room, seen_near, relative_fits, relative_is}
use borrow.Author.Rules.{rules}
use Rattle.reply.proofs.relative.relative_at.Goals.{Start}
use Rattle.reply.proofs.relative.relative_at.Goals.{After-slot-2}
use Rattle.reply.proofs.relative.relative_at.Goals as goal

long : (c : Start) → length c.args.m.systems ≡ 16
long c = search (length_mapped, rules)

pub bounds-m-slot : goal.bounds-m-slot
bounds-m-slot c = in_array c.args.m c.requires.fine_memory (long (goal.at.bounds-m-slot c).Start) c.args.place _ c.slot.ensures c.requires.there.0

pub bounds-m-slot-2 : goal.bounds-m-slot-2
bounds-m-slot-2 c = in_array c.args.m c.requires.fine_memory (long (goal.at.bounds-m-slot-2 c).Start) c.args.from _ c.slot-2.ensures c.requires.there.1

-- the same as the writer has it, of the names at the two indices
written : (c : After-slot-2) →
    relative_line (systems_of c.args.m) (in_group c.args.g c.args.place) (in_group c.args.g c.args.from)
    ≡ relative_text c.args.g c.args.place (get_or c.args.m.systems c.slot.result unset).name
    c.args.from (get_or c.args.m.systems c.slot-2.result unset).name (walk_of c.seen_at-r.result)
written c =
    relative_is c.args.m c.requires.fine_memory (search (length_mapped, rules)) c.args.g c.args.place c.args.from c.requires.there.0 c.requires.there.1
    c.seen_at-r.ensures _ _ c.slot.ensures c.slot-2.ensures

fits : (c : After-slot-2) → length (relative_line (systems_of c.args.m) (in_group c.args.g c.args.place) (in_group c.args.g c.args.from)) + 1 ≤ length c.args.reply.now
fits c =
    omega (
      arith,
      c.requires.room,
      relative_fits c.args.m c.requires.fine_memory (search (length_mapped, rules)) c.args.g c.args.place c.args.from c.requires.there.0 c.requires.there.1 c.seen_at-r.ensures,
    )

pub put_relative-at-requires : goal.put_relative-at-requires
put_relative-at-requires c =
    let m = c.args.m in (
      record {
        name_fits = name_room m c.requires.fine_memory (long (goal.at.put_relative-at-requires c).Start) c.args.place _ c.slot.ensures c.requires.there.0;
        end_fits = name_room m c.requires.fine_memory (long (goal.at.put_relative-at-requires c).Start) c.args.from _ c.slot-2.ensures c.requires.there.1;
        near = seen_near m c.requires.fine_memory (long (goal.at.put_relative-at-requires c).Start) c.args.g c.args.place c.args.from c.requires.there.0 c.requires.there.1 c.seen_at-r.ensures;
      },
      omega (arith, fits (goal.at.put_relative-at-requires c).After-slot-2, ap length (written (goal.at.put_relative-at-requires c).After-slot-2)),
    )

pub put_byte-requires : goal.put_byte-requires
put_byte-requires c =
    omega (arith, fits (goal.at.put_byte-requires c).After-slot-2, ap length (written (goal.at.put_byte-requires c).After-slot-2), c.put_relative-at.ensures.place, c.put_relative-at.auto.out)

pub returns : goal.returns
unfolding listing
returns c =
    replied (rw length-append (fits (goal.at.returns c).After-slot-2)) (rw (written (goal.at.returns c).After-slot-2) (wrote_then c.put_relative-at.ensures c.put_byte.ensures))
