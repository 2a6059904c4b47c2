-- `serve`: up to each place of the block the session holds what it gives for that much of it.
use Prim.Native.Nat.{ℕ, ◌+◌, ◌≤◌, ◌<◌}
use mathlib.Core.Path.{◌≡◌, refl, sym, ap, ◌∙◌}
use mathlib.Core.List.{List}
use native.Mathlib.Omega.{arith}
use borrow.Author.Rules.{rules}
use lib.ListN.{length}
use lib.Seq.{length-take-le, take_all}
use Rattle.lines.proofs.Places.{rest_long}
use Rattle.model.specs.Tally.{counted_all}
use Rattle.tally.specs.Counts.{tally_of}
use Rattle.console.specs.Serve.{given, outcomes_given}
use Rattle.console.proofs.Serving.{given_nothing, counted_nothing, part_handed, part_held, part_counted}
use Rattle.console.proofs.serve.Goals.{After-feed-fed}
use Rattle.console.proofs.serve.Goals as goal

-- the part that was fed lies in the block
used : (c : After-feed-fed) → c.loop-at.at + c.feed-fed.result.used ≤ length c.args.block.now
used c = omega (arith, c.feed-fed.ensures.feeds.within, rest_long c.args.block.now c.loop-at.at, c.loop-at.invariant.within)

-- the buffer is as long as it was
kept_long : (c : After-feed-fed) → length c.feed-fed.new.out ≡ length c.loop-at.out
kept_long c = search rules

pub loop-at-init : goal.loop-at-init
loop-at-init c = record {
  within = omega arith;
  fine = c.requires.fine_state;
  long = refl;
  held = given_nothing c.args.s;
  tally = counted_nothing c.args.s;
}

pub feed-fed-requires : goal.feed-fed-requires
feed-fed-requires c =
    let l = c.loop-at in record {
      fine_state = l.invariant.fine;
      buffer_limit_in_bounds = omega (arith, l.invariant.long, c.requires.buffer_limit_in_bounds);
    }

pub overflow_add-end : goal.overflow_add-end
overflow_add-end c = omega (arith, used (goal.at.overflow_add-end c).After-feed-fed)

pub slice_bounds-write_answers-start : goal.slice_bounds-write_answers-start
slice_bounds-write_answers-start c = omega (arith, used (goal.at.slice_bounds-write_answers-start c).After-feed-fed)

pub slice_bounds-write_answers-end : goal.slice_bounds-write_answers-end
slice_bounds-write_answers-end c = omega (arith, used (goal.at.slice_bounds-write_answers-end c).After-feed-fed)

pub slice_bounds-write_answers-end-in-loop-at : goal.slice_bounds-write_answers-end-in-loop-at
slice_bounds-write_answers-end-in-loop-at c =
    omega (arith, c.feed-fed.ensures.feeds.room, kept_long (goal.at.slice_bounds-write_answers-end-in-loop-at c).After-feed-fed, c.loop-at.invariant.long)

pub slice_bounds-write_answers-end-in-loop-at-2 : goal.slice_bounds-write_answers-end-in-loop-at-2
slice_bounds-write_answers-end-in-loop-at-2 c =
    sym (length-take-le _ _ (omega (arith, c.feed-fed.ensures.feeds.room, kept_long (goal.at.slice_bounds-write_answers-end-in-loop-at-2 c).After-feed-fed, c.loop-at.invariant.long)))

pub write_answers-requires : goal.write_answers-requires
write_answers-requires c =
    let l = c.loop-at in
    part_handed c.args.s c.args.block.now l.session l.at l.invariant.held l.invariant.tally _ _ c.feed-fed.result _ c.feed-fed.ensures.feeds (l.at + c.feed-fed.result.used) refl

pub loop-at-smaller : goal.loop-at-smaller
loop-at-smaller c =
    let moved : 0 < c.feed-fed.result.used = c.feed-fed.ensures.feeds.moves (omega (arith, rest_long c.args.block.now c.loop-at.at, c.loop-at-test.true)) in
    omega (arith, used (goal.at.loop-at-smaller c).After-feed-fed, moved)

pub loop-at-preserved : goal.loop-at-preserved
loop-at-preserved c =
    let l = c.loop-at in
    let f = c.feed-fed.ensures.feeds in record {
      within = used (goal.at.loop-at-preserved c).After-feed-fed;
      fine = f.fine;
      long = kept_long (goal.at.loop-at-preserved c).After-feed-fed ∙ l.invariant.long;
      held = part_held c.args.s c.args.block.now l.session l.at l.invariant.held l.invariant.tally _ _ c.feed-fed.result _ f (l.at + c.feed-fed.result.used) refl;
      tally = part_counted c.args.s c.args.block.now l.session l.at l.invariant.held l.invariant.tally _ _ c.feed-fed.result _ f (l.at + c.feed-fed.result.used) refl;
    }

pub returns : goal.returns
returns c =
    let l = c.loop-at in
    record {
      held = l.invariant.held ∙ ap (λ (t : List ℕ). (given c.args.s t).held) (take_all l.at c.args.block.now c.loop-at-test.false);
      tally = l.invariant.tally ∙ ap (λ (t : List ℕ). counted_all (tally_of c.args.s.tally) (outcomes_given c.args.s t)) (take_all l.at c.args.block.now c.loop-at-test.false);
      fine = l.invariant.fine;
    }
