-- `relink`: the link's text fits behind what is kept of the path, or it does not.
use Prim.Native.Nat.{◌+◌, ◌≤◌}
use mathlib.Core.Path.{sym}
use native.Mathlib.Omega.{arith}
use borrow.Author.Rules.{rules}
use lib.ListN.{length}
use lib.Seq.{length-take-le}
use Rattle.store.specs.Place.{target_of}
use Rattle.store.proofs.Placing.{placed_behind, unplaced_behind, wrote_counts}
use Rattle.store.proofs.place.relink.Goals.{Else-path-start}
use Rattle.store.proofs.place.relink.Goals as goal

pub slice_bounds-link_start-end-2 : goal.slice_bounds-link_start-end-2
slice_bounds-link_start-end-2 c = sym (length-take-le _ _ c.requires)

pub returns-then-path-start : goal.returns-then-path-start
unfolding target_of
returns-then-path-start c = record {
  placed = rw (← c.link_start-start.ensures.value) (unplaced_behind c.args.path.now c.args.text.now c.args.n c.link_start-start.result c.requires (omega (arith, c.link_start-start.ensures.upper_bound, length-take-le c.args.n c.args.path.now c.requires)) c.if-path-start.true);
  prefix_len = search rules;
}

room : (c : Else-path-start) → c.link_start-start.result + length c.args.text.now ≤ length c.args.path.now
room c =
    let part : c.link_start-start.result ≤ c.args.n = omega (arith, c.link_start-start.ensures.upper_bound, length-take-le c.args.n c.args.path.now c.requires) in
    omega (arith, part, c.requires, c.if-path-start.false)

pub put_text-requires : goal.put_text-requires
put_text-requires c = room (goal.at.put_text-requires c).Else-path-start

pub returns : goal.returns
unfolding target_of
returns c =
    let w = c.put_text.ensures in record {
      placed = rw (← c.link_start-start.ensures.value) (placed_behind c.args.path.now c.args.text.now c.args.n c.link_start-start.result c.requires (omega (arith, c.link_start-start.ensures.upper_bound, length-take-le c.args.n c.args.path.now c.requires)) (room (goal.at.returns c).Else-path-start) w);
      prefix_len = wrote_counts (room (goal.at.returns c).Else-path-start) w;
    }
