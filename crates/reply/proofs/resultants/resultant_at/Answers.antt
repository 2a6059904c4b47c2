use Prim.Native.Nat.{ℕ, suc, ◌+◌, ◌≤◌, ◌<◌}
use mathlib.Core.Path.{◌≡◌, refl, sym, ap, ◌∙◌}
use mathlib.Core.List.{List}
use mathlib.Core.Logic.{inl}
use native.Mathlib.Omega.{arith}
use lib.ListN.{length, get_or, length-append}
use Rattle.model.specs.Memory.{user_ref}
use Rattle.model.specs.Reply.{listing, resultant_line}
use Rattle.model.specs.Limits.{buffer_limit}
use Rattle.model.specs.Stored.{bytes_of, systems_of, memory_of, FineMemory}
use Rattle.model.proofs.Memories.Fine.{fine_of}
use Rattle.chains.specs.Walk.{walk_of}
use Rattle.chains.proofs.Copies.{length_mapped, unset}
use Rattle.chains.proofs.Reaching.{walked_fixed}
use Rattle.chains.proofs.Ready.{walkable}
use Rattle.print.proofs.Laws.{wrote_then}
use Rattle.model.proofs.Shape.{shaped_count, systems_of_count}
use Rattle.reply.specs.Types.{Group, StoredMemory}
use Rattle.reply.specs.Reached.{reached_text, ref_at}
use Rattle.reply.proofs.FixedLaws.{fixed_resultant}
use Rattle.reply.proofs.ListLaws.{replied}
use Rattle.chains.proofs.Flattened.{FlatOf, can_walk, deep_enough}
use Rattle.reply.proofs.ReachLaws.{ref_place, ref_fixed, ref_user, reached_within, reached_line}
use Rattle.reply.proofs.ShortLaws.{resultant_short}
use Rattle.reply.proofs.StoredLaws.{name_fits}
use borrow.Author.Rules.{rules}
use Rattle.reply.proofs.resultants.resultant_at.Goals.{Start, After-flat, After-group_of}
use Rattle.reply.proofs.resultants.resultant_at.Goals as goal

long : (c : Start) → length c.args.m.systems ≡ 16
long c = search (length_mapped, rules)

abbrev line : StoredMemory → Group → ℕ → List ℕ
line m g place = resultant_line (systems_of m) (ref_at (systems_of m) g place)

-- the line and its end fit
fits : (m : StoredMemory) → FineMemory m → length m.systems ≡ 16 → (g : Group) (place : ℕ) → place ≤ m.count → (n : ℕ) → buffer_limit ≤ n → length (line m g place) + 1 ≤ n
fits m fine long g place below n room =
    let l = systems_of m in
    let r = ref_at l g place in
    let within : r.place ≤ length l = rw (ref_place l g place, systems_of_count m fine.shape long) below in
    omega (arith, room, resultant_short l (fine_of (memory_of m) fine.formed).systems (walkable (memory_of m) fine.formed) r within)

-- ---- a fixed system
pub returns-then-place-eq0 : goal.returns-then-place-eq0
unfolding listing
returns-then-place-eq0 c =
    replied
    (rw length-append (fits c.args.m c.requires.fine_memory (long (goal.at.returns-then-place-eq0 c).Start) c.args.g c.args.place c.requires.there _ c.requires.room))
    (rw (ref_fixed (systems_of c.args.m) c.args.g c.args.place c.if-place-eq0.true ∙ fixed_resultant c.args.g) (wrote_then c.put_by_group-at.ensures c.put_byte.ensures))

-- ---- a user system
flat : (c : After-flat) → FlatOf c.args.m c.flat.result.now c.frames_of-frames.result.offsets c.frames_of-frames.result.turns
flat c = record {
  good = c.requires.fine_memory;
  long = search (length_mapped, rules);
  links = c.flat.ensures ∙ c.links_of-links.ensures.links;
  frames = c.frames_of-frames.ensures;
  wide = search rules;
  broad = search rules;
}

pub bounds-m-slot : goal.bounds-m-slot
bounds-m-slot c = omega (arith, c.if-place-eq0.false, c.slot.ensures, c.requires.there, shaped_count c.args.m c.requires.fine_memory.shape)

pub reach-r-requires : goal.reach-r-requires
reach-r-requires c =
    let f = flat (goal.at.reach-r-requires c).After-flat in record {
      laid = can_walk f;
      known = inl (c.unmoved.ensures ∙ walked_fixed _ 0 refl);
      enough = deep_enough f _ c.requires.there;
    }

-- as the writer of a line has it, for a place that is a user system's
shown : (c : After-group_of) → line c.args.m c.args.g c.args.place ≡ reached_text (bytes_of (get_or c.args.m.systems c.slot.result unset).name) c.group_of.result (walk_of c.reach-r.result)
shown c =
    let l = systems_of c.args.m in
    let n = c.if-place-eq0.false in
    let f : FlatOf c.args.m c.flat.result.now c.frames_of-frames.result.offsets c.frames_of-frames.result.turns = record {
      good = c.requires.fine_memory;
      long = search (length_mapped, rules);
      links = c.flat.ensures ∙ c.links_of-links.ensures.links;
      frames = c.frames_of-frames.ensures;
      wide = search rules;
      broad = search rules;
    } in
    let place : c.args.place ≡ suc c.slot.result = omega (arith, n, c.slot.ensures) in
    let below : c.slot.result < c.args.m.count = omega (arith, n, c.slot.ensures, c.requires.there) in
    ap (resultant_line l) (ref_user l c.args.g c.args.place n ∙ ap (λ (i : ℕ). user_ref l (suc i)) (sym c.slot.ensures))
    ∙ rw c.group_of.ensures (reached_line f place below (c.reach-r.ensures.walk (c.unmoved.ensures ∙ walked_fixed _ 0 refl)))

pub put_reached-at-requires : goal.put_reached-at-requires
put_reached-at-requires c =
    let n = c.if-place-eq0.false in
    let f = flat (goal.at.put_reached-at-requires c).After-flat in
    let place : c.args.place ≡ suc c.slot.result = omega (arith, n, c.slot.ensures) in
    let below : c.slot.result < c.args.m.count = omega (arith, n, c.slot.ensures, c.requires.there) in (
      record {
        name_fits = name_fits c.args.m c.requires.fine_memory.shape (long (goal.at.put_reached-at-requires c).Start) c.slot.result below;
        near = reached_within f place below (c.reach-r.ensures.walk (c.unmoved.ensures ∙ walked_fixed _ 0 refl));
      },
      omega (
        arith,
        fits c.args.m c.requires.fine_memory (long (goal.at.put_reached-at-requires c).Start) c.args.g c.args.place c.requires.there _ c.requires.room,
        ap length (shown (goal.at.put_reached-at-requires c).After-group_of),
      ),
    )

pub put_byte-requires-2 : goal.put_byte-requires-2
put_byte-requires-2 c =
    omega (
      arith,
      fits c.args.m c.requires.fine_memory (long (goal.at.put_byte-requires-2 c).Start) c.args.g c.args.place c.requires.there _ c.requires.room,
      ap length (shown (goal.at.put_byte-requires-2 c).After-group_of),
      c.put_reached-at.ensures.place,
      c.put_reached-at.auto.out,
    )

pub returns : goal.returns
unfolding listing
returns c =
    replied
    (rw length-append (fits c.args.m c.requires.fine_memory (long (goal.at.returns c).Start) c.args.g c.args.place c.requires.there _ c.requires.room))
    (rw (shown (goal.at.returns c).After-group_of) (wrote_then c.put_reached-at.ensures c.put_byte-2.ensures))
