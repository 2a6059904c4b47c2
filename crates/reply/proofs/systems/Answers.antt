use Prim.Native.Nat.{suc, ◌-◌, ◌<◌}
use mathlib.Core.Path.{◌≡◌, ap}
use native.Mathlib.Omega.{arith}
use lib.ListN.{length, take, drop, length-take}
use borrow.Author.Rules.{rules}
use Rattle.model.specs.Reply.{system_line}
use Rattle.model.proofs.Shape.{shaped_count}
use Rattle.chains.proofs.Copies.{length_mapped}
use Rattle.print.specs.Over.{Wrote}
use Rattle.print.proofs.Laws.{wrote_then}
use Rattle.reply.specs.Lines.{further}
use Rattle.reply.proofs.FixedLaws.{fixed_systems}
use Rattle.reply.proofs.ListLaws.{plan_start, plan_end, going_on, going_room, going_within, going_turn}
use Rattle.reply.proofs.PlanLaws.{line_at, systems_plan}
use Rattle.reply.proofs.StoredLaws.{lent_count, lent_at, writable}
use Rattle.reply.proofs.TurnLaws.{system_turn}
use Rattle.reply.proofs.systems.Goals.{Start, In-loop-s, After-put_system-at}
use Rattle.reply.proofs.systems.Goals as goal

long : (c : Start) → length c.args.m.systems ≡ 16
long c = search (length_mapped, rules)

-- a system that is lent is one of those that count
below : (c : In-loop-s) → c.loop-s.s-index < c.args.m.count
below c = omega (arith, length-take c.args.m.count c.args.m.systems, c.loop-s-test.true)

pub shared_ref_as_front-s-items : goal.shared_ref_as_front-s-items
shared_ref_as_front-s-items c = shaped_count c.args.m c.requires.fine_memory.shape

pub loop-s-init : goal.loop-s-init
loop-s-init c =
    plan_start (systems_plan c.args.m c.requires.fine_memory c.args.reply.now c.requires.room (long (goal.at.loop-s-init c).Start)) (rw fixed_systems c.put_fixed-at.ensures)

pub put_text-a-requires : goal.put_text-a-requires
put_text-a-requires c = omega (arith, going_room c.loop-s.invariant (below (goal.at.put_text-a-requires c).In-loop-s))

pub put_system-at-requires : goal.put_system-at-requires
put_system-at-requires c =
    let m = c.args.m in
    let fine = c.requires.fine_memory in
    let full = long (goal.at.put_system-at-requires c).Start in
    let i = c.loop-s.s-index in
    let h = below (goal.at.put_system-at-requires c).In-loop-s in (
      rw (lent_at m fine.shape full i h) (writable m fine.shape full fine.formed i h),
      omega (arith, going_room c.loop-s.invariant h, ap length (system_turn m fine.shape full i h), c.put_text-a.ensures.place, c.put_text-a.auto.out),
    )

-- what is written is the line of the next place
wrote : (c : After-put_system-at) → let l = c.loop-s in
    Wrote (further (line_at system_line c.args.m (suc l.s-index))) (take (length l.reply - l.at) (drop l.at l.reply)) 0 c.put_system-at.new.out c.put_system-at.result
wrote c =
    rw (system_turn c.args.m c.requires.fine_memory.shape (search (length_mapped, rules)) c.loop-s.s-index (omega (arith, length-take c.args.m.count c.args.m.systems, c.loop-s-test.true)))
    (wrote_then c.put_text-a.ensures c.put_system-at.ensures)

pub overflow_add-at : goal.overflow_add-at
overflow_add-at c =
    let n = going_on c.loop-s.invariant (below (goal.at.overflow_add-at c).In-loop-s) (wrote (goal.at.overflow_add-at c).After-put_system-at).place in record { fits = grind (arith, n) }

pub loop-s-preserved : goal.loop-s-preserved
loop-s-preserved c = going_turn c.loop-s.invariant (below (goal.at.loop-s-preserved c).In-loop-s) (wrote (goal.at.loop-s-preserved c).After-put_system-at)

pub put_byte-requires : goal.put_byte-requires
put_byte-requires c = going_within c.loop-s.invariant

pub returns : goal.returns
returns c =
    let full = long (goal.at.returns c).Start in
    plan_end (systems_plan c.args.m c.requires.fine_memory c.args.reply.now c.requires.room full) (rw fixed_systems c.put_fixed-at.ensures) c.loop-s.invariant
    (omega (arith, lent_count c.args.m c.requires.fine_memory.shape full, c.loop-s-test.false)) c.put_byte.ensures
