use Prim.Native.Nat.{suc, ◌-◌, ◌<◌}
use mathlib.Core.Path.{◌≡◌, refl, ap, ◌∙◌}
use mathlib.Core.Logic.{inl}
use native.Mathlib.Numerals.{add-one}
use native.Mathlib.Omega.{arith}
use lib.ListN.{length, take, drop, get_or, length-take}
use borrow.Author.Rules.{rules}
use Rattle.model.specs.Reply.{resultant_line}
use Rattle.model.specs.Stored.{bytes_of}
use Rattle.model.proofs.Shape.{shaped_count}
use Rattle.chains.specs.Walk.{walk_of}
use Rattle.chains.proofs.Copies.{length_mapped, unset}
use Rattle.chains.proofs.Flattened.{FlatOf, can_walk, deep_enough, held, taken}
use Rattle.print.specs.Over.{Wrote}
use Rattle.print.proofs.Laws.{wrote_then}
use Rattle.reply.specs.Lines.{further}
use Rattle.reply.specs.Reached.{reached_text}
use Rattle.reply.proofs.FixedLaws.{fixed_resultants}
use Rattle.reply.proofs.KeptLaws.{kept_start, kept_on}
use Rattle.reply.proofs.ListLaws.{plan_start, plan_end, going_on, going_room, going_within, going_turn}
use Rattle.reply.proofs.PlanLaws.{line_at, resultants_plan}
use Rattle.reply.proofs.ReachLaws.{reached_within, reached_line}
use Rattle.reply.proofs.StoredLaws.{lent_count, lent_at, name_fits}
use Rattle.reply.proofs.resultants.resultants.Goals.{Start, After-flat-ps, In-loop-i, After-group_of}
use Rattle.reply.proofs.resultants.resultants.Goals as goal

long : (c : Start) → length c.args.m.systems ≡ 16
long c = search (length_mapped, rules)

-- the memory's numbers are laid flat
flat : (c : After-flat-ps) → FlatOf c.args.m c.flat-ps.result.now c.frames_of-frames.result.offsets c.frames_of-frames.result.turns
flat c = record {
  good = c.requires.fine_memory;
  long = search (length_mapped, rules);
  links = c.flat-ps.ensures ∙ c.links_of-links.ensures.links;
  frames = c.frames_of-frames.ensures;
  wide = search rules;
  broad = search rules;
}

-- a system that is lent is one of those that count
below : (c : In-loop-i) → c.loop-i.i < c.args.m.count
below c = omega (arith, length-take c.args.m.count c.args.m.systems, c.loop-i-test.true)

pub shared_ref_as_front-s-items : goal.shared_ref_as_front-s-items
shared_ref_as_front-s-items c = shaped_count c.args.m c.requires.fine_memory.shape

pub loop-i-init : goal.loop-i-init
loop-i-init c = (
  plan_start (resultants_plan c.args.m c.requires.fine_memory c.args.reply.now c.requires.room (long (goal.at.loop-i-init c).Start)) (rw fixed_resultants c.put_fixed-at.ensures),
  kept_start _ _ _ refl c.unmoved-start.ensures,
)

pub bounds-ps-i : goal.bounds-ps-i
bounds-ps-i c = omega (arith, taken (flat (goal.at.bounds-ps-i c).After-flat-ps), below (goal.at.bounds-ps-i c).In-loop-i)

-- a place that comes first is one of those kept
pub bounds-known-stop : goal.bounds-known-stop
bounds-known-stop c =
    omega (arith, c.loop-i.invariant.1.room, c.reached_before-stop.ensures, held (flat (goal.at.bounds-known-stop c).After-flat-ps), below (goal.at.bounds-known-stop c).In-loop-i)

pub reach-r-requires : goal.reach-r-requires
reach-r-requires c =
    let f = flat (goal.at.reach-r-requires c).After-flat-ps in
    let h = below (goal.at.reach-r-requires c).In-loop-i in record {
      laid = can_walk f;
      known = inl (c.loop-i.invariant.1.each _ c.reached_before-stop.ensures);
      enough = deep_enough f _ (omega (arith, h));
    }

pub bounds-known-i : goal.bounds-known-i
bounds-known-i c = omega (arith, c.loop-i.invariant.1.room, held (flat (goal.at.bounds-known-i c).After-flat-ps), below (goal.at.bounds-known-i c).In-loop-i)

pub put_text-a-requires : goal.put_text-a-requires
put_text-a-requires c = omega (arith, going_room c.loop-i.invariant.0 (below (goal.at.put_text-a-requires c).In-loop-i))

-- what is reached is what the line of the next place shows
line_is : (c : After-group_of) → line_at resultant_line c.args.m (suc c.loop-i.i)
    ≡ reached_text (bytes_of (get_or (take c.args.m.count c.args.m.systems) c.loop-i.i unset).name) c.group_of.result (walk_of c.reach-r.result)
line_is c =
    let m = c.args.m in
    let i = c.loop-i.i in
    let h : i < m.count = omega (arith, length-take m.count m.systems, c.loop-i-test.true) in
    let f : FlatOf m c.flat-ps.result.now c.frames_of-frames.result.offsets c.frames_of-frames.result.turns = record {
      good = c.requires.fine_memory;
      long = search (length_mapped, rules);
      links = c.flat-ps.ensures ∙ c.links_of-links.ensures.links;
      frames = c.frames_of-frames.ensures;
      wide = search rules;
      broad = search rules;
    } in
    rw (c.group_of.ensures, lent_at m c.requires.fine_memory.shape f.long i h) (reached_line f (add-one i) h (c.reach-r.ensures.walk (c.loop-i.invariant.1.each _ c.reached_before-stop.ensures)))

pub put_reached-at-requires : goal.put_reached-at-requires
put_reached-at-requires c =
    let m = c.args.m in
    let shape = c.requires.fine_memory.shape in
    let full = long (goal.at.put_reached-at-requires c).Start in
    let i = c.loop-i.i in
    let h = below (goal.at.put_reached-at-requires c).In-loop-i in (
      record {
        name_fits = rw (lent_at m shape full i h) (name_fits m shape full i h);
        near = reached_within (flat (goal.at.put_reached-at-requires c).After-flat-ps) (add-one i) h (c.reach-r.ensures.walk (c.loop-i.invariant.1.each _ c.reached_before-stop.ensures));
      },
      omega (arith, going_room c.loop-i.invariant.0 h, ap length (line_is (goal.at.put_reached-at-requires c).After-group_of), c.put_text-a.ensures.place, c.put_text-a.auto.out),
    )

pub overflow_add-at : goal.overflow_add-at
overflow_add-at c =
    let w : Wrote (further (line_at resultant_line c.args.m (suc c.loop-i.i))) (take (length c.loop-i.reply - c.loop-i.at) (drop c.loop-i.at c.loop-i.reply)) 0 c.put_reached-at.new.out c.put_reached-at.result =
    rw (line_is (goal.at.overflow_add-at c).After-group_of) (wrote_then c.put_text-a.ensures c.put_reached-at.ensures) in
    let n = going_on c.loop-i.invariant.0 (below (goal.at.overflow_add-at c).In-loop-i) w.place in
    record { fits = grind (arith, n) }

pub loop-i-preserved : goal.loop-i-preserved
loop-i-preserved c =
    let h = below (goal.at.loop-i-preserved c).In-loop-i in
    let w : Wrote (further (line_at resultant_line c.args.m (suc c.loop-i.i))) (take (length c.loop-i.reply - c.loop-i.at) (drop c.loop-i.at c.loop-i.reply)) 0 c.put_reached-at.new.out c.put_reached-at.result =
    rw (line_is (goal.at.loop-i-preserved c).After-group_of) (wrote_then c.put_text-a.ensures c.put_reached-at.ensures) in (
      going_turn c.loop-i.invariant.0 h w,
      kept_on c.loop-i.invariant.1 (omega (arith, held (flat (goal.at.loop-i-preserved c).After-flat-ps), h)) (c.reach-r.ensures.walk (c.loop-i.invariant.1.each _ c.reached_before-stop.ensures)),
    )

pub put_byte-requires : goal.put_byte-requires
put_byte-requires c = going_within c.loop-i.invariant.0

pub returns : goal.returns
returns c =
    let full = long (goal.at.returns c).Start in
    plan_end (resultants_plan c.args.m c.requires.fine_memory c.args.reply.now c.requires.room full) (rw fixed_resultants c.put_fixed-at.ensures) c.loop-i.invariant.0
    (omega (arith, lent_count c.args.m c.requires.fine_memory.shape full, c.loop-i-test.false)) c.put_byte.ensures
