use Prim.Native.Nat.{suc, ◌-◌, ◌<◌}
use mathlib.Core.Path.{◌≡◌, ap}
use native.Mathlib.Omega.{arith}
use lib.ListN.{length, take, drop, length-take}
use borrow.Author.Rules.{rules}
use Rattle.model.specs.Reply.{link_line}
use Rattle.model.proofs.Shape.{shaped_count}
use Rattle.chains.proofs.Copies.{length_mapped}
use Rattle.print.specs.Over.{Wrote}
use Rattle.print.proofs.Laws.{wrote_then}
use Rattle.reply.specs.Lines.{further}
use Rattle.reply.proofs.FixedLaws.{fixed_links}
use Rattle.reply.proofs.ListLaws.{plan_start, plan_end, going_on, going_room, going_within, going_turn}
use Rattle.reply.proofs.PlanLaws.{line_at, links_plan}
use Rattle.reply.proofs.StoredLaws.{lent_count, lent_at, name_fits, pred_fits}
use Rattle.reply.proofs.TurnLaws.{link_turn}
use Rattle.reply.proofs.links.Goals.{Start, In-loop-s, After-slot, After-put_link-at}
use Rattle.reply.proofs.links.Goals as goal

long : (c : Start) → length c.args.m.systems ≡ 16
long c = search (length_mapped, rules)

-- a system that is lent is one of those that count
below : (c : In-loop-s) → c.loop-s.s-index < c.args.m.count
below c = omega (arith, length-take c.args.m.count c.args.m.systems, c.loop-s-test.true)

pub shared_ref_as_front-s-items : goal.shared_ref_as_front-s-items
shared_ref_as_front-s-items c = shaped_count c.args.m c.requires.fine_memory.shape

pub loop-s-init : goal.loop-s-init
loop-s-init c =
    plan_start (links_plan c.args.m c.requires.fine_memory c.args.reply.now c.requires.room (long (goal.at.loop-s-init c).Start)) (rw fixed_links c.put_fixed-at.ensures)

-- and so is the predecessor
slot_below : (c : After-slot) → c.slot.result < c.args.m.count
slot_below c =
    let m = c.args.m in
    let fine = c.requires.fine_memory in
    let i = c.loop-s.s-index in
    let h : i < m.count = omega (arith, length-take m.count m.systems, c.loop-s-test.true) in
    let p = pred_fits m fine.shape (search (length_mapped, rules)) fine.formed i h in
    omega (arith, h, p, rw (lent_at m fine.shape (search (length_mapped, rules)) i h) at c.slot.ensures)

pub bounds-m-slot : goal.bounds-m-slot
bounds-m-slot c = omega (arith, slot_below (goal.at.bounds-m-slot c).After-slot, shaped_count c.args.m c.requires.fine_memory.shape)

pub put_text-a-requires : goal.put_text-a-requires
put_text-a-requires c = omega (arith, going_room c.loop-s.invariant (below (goal.at.put_text-a-requires c).In-loop-s))

pub put_link-at-requires : goal.put_link-at-requires
put_link-at-requires c =
    let m = c.args.m in
    let fine = c.requires.fine_memory in
    let full = long (goal.at.put_link-at-requires c).Start in
    let i = c.loop-s.s-index in
    let h = below (goal.at.put_link-at-requires c).In-loop-s in (
      rw (lent_at m fine.shape full i h) (name_fits m fine.shape full i h),
      name_fits m fine.shape full c.slot.result (slot_below (goal.at.put_link-at-requires c).After-slot),
      rw c.slot.ensures (omega (arith, going_room c.loop-s.invariant h, ap length (link_turn m fine.shape full fine.formed i h), c.put_text-a.ensures.place, c.put_text-a.auto.out)),
    )

-- what is written is the line of the next place
wrote : (c : After-put_link-at) → let l = c.loop-s in
    Wrote (further (line_at link_line c.args.m (suc l.s-index))) (take (length l.reply - l.at) (drop l.at l.reply)) 0 c.put_link-at.new.out c.put_link-at.result
wrote c =
    let fine = c.requires.fine_memory in
    rw (link_turn c.args.m fine.shape (search (length_mapped, rules)) fine.formed c.loop-s.s-index (omega (arith, length-take c.args.m.count c.args.m.systems, c.loop-s-test.true)))
    (wrote_then c.put_text-a.ensures (rw c.slot.ensures at c.put_link-at.ensures))

pub overflow_add-at : goal.overflow_add-at
overflow_add-at c =
    let n = going_on c.loop-s.invariant (below (goal.at.overflow_add-at c).In-loop-s) (wrote (goal.at.overflow_add-at c).After-put_link-at).place in record { fits = grind (arith, n) }

pub loop-s-preserved : goal.loop-s-preserved
loop-s-preserved c = going_turn c.loop-s.invariant (below (goal.at.loop-s-preserved c).In-loop-s) (wrote (goal.at.loop-s-preserved c).After-put_link-at)

pub put_byte-requires : goal.put_byte-requires
put_byte-requires c = going_within c.loop-s.invariant

pub returns : goal.returns
returns c =
    let full = long (goal.at.returns c).Start in
    plan_end (links_plan c.args.m c.requires.fine_memory c.args.reply.now c.requires.room full) (rw fixed_links c.put_fixed-at.ensures) c.loop-s.invariant
    (omega (arith, lent_count c.args.m c.requires.fine_memory.shape full, c.loop-s-test.false)) c.put_byte.ensures
