-- `serve`: up to each place of the block the session holds what it gives for that much of it, and all that is due for it was handed out.
use Prim.Native.Nat.{◌+◌}
use mathlib.Core.Path.{refl}
use native.Mathlib.Omega.{arith}
use borrow.Author.Rules.{rules}
use Rattle.lines.proofs.Places.{rest_long}
use Rattle.bench.proofs.Serving.{given_nothing, part_handed, part_held}
use Rattle.bench.proofs.serve.serve.Goals as goal

pub loop-at-init : goal.loop-at-init
loop-at-init c =
    record {
      within = omega arith;
      fine = c.requires.fine_state;
      answers_long = refl;
      image_long = refl;
      held = given_nothing c.args.k c.args.session.now;
      handed = c.nothing_handed-receipt.ensures;
    }

pub hand_out_part-requires : goal.hand_out_part-requires
hand_out_part-requires c =
    let a = c.args in
    let l = c.loop-at in
    rw l.invariant.handed (part_handed a.k a.session.now a.block.now l.session l.at l.invariant.held _ _ c.feed-f.result c.feed-f.ensures.feeds (l.at + c.feed-f.result.used) refl _ _ c.put_image-size.ensures)

pub loop-at-preserved : goal.loop-at-preserved
loop-at-preserved c =
    let a = c.args in
    let l = c.loop-at in
    let f = c.feed-f in record {
      within = omega (arith, f.ensures.feeds.within, rest_long a.block.now l.at, l.invariant.within);
      fine = f.ensures.feeds.fine;
      answers_long = search rules;
      image_long = search rules;
      held = part_held a.k a.session.now a.block.now l.session l.at l.invariant.held _ _ f.result f.ensures.feeds (l.at + f.result.used) refl;
      handed = search rules;
    }
