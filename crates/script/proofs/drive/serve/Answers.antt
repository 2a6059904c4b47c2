-- `serve`: up to each place of the block the script holds what it gives for that much of it.
use Rattle.std.proofs.Common.{◌≡◌, ◌+◌, length, sym, refl, arith, length-take-le}
use Rattle.lines.proofs.Places.{rest_long}
use Rattle.script.proofs.Cutting.{wrote_long}
use Rattle.script.proofs.Serving.{given_nothing, kept_front, part_handed, part_held}
use Rattle.script.proofs.drive.serve.Goals as goal

pub loop-at-init : goal.loop-at-init
loop-at-init c = (omega arith, c.requires.held_in_bounds.0, given_nothing c.args.s c.args.held.now)

pub slice_bounds-write_answers-end-in-loop-at : goal.slice_bounds-write_answers-end-in-loop-at
slice_bounds-write_answers-end-in-loop-at c = sym (length-take-le _ _ (omega (arith, c.feed-f.ensures.room, wrote_long c.feed-f.ensures.puts)))

pub write_answers-requires : goal.write_answers-requires
write_answers-requires c =
    let l = c.loop-at in
    let a = c.args in
    part_handed a.s a.held.now a.block.now l.script l.held l.at l.invariant.2 _ _ _ c.feed-f.result c.feed-f.ensures (l.at + c.feed-f.result.used) refl

pub loop-at-preserved : goal.loop-at-preserved
loop-at-preserved c =
    let l = c.loop-at in
    let a = c.args in
    let f = c.feed-f in
    let same : length l.held ≡ length f.new.line = omega (arith, l.auto.held, l.auto.line, f.auto.line, c.requires.held_in_bounds.1) in
    let next = wrote_long c.keep.ensures.wrote in (
      omega (arith, f.ensures.within, rest_long a.block.now l.at, l.invariant.0),
      omega (arith, f.ensures.few, same, next),
      part_held a.s a.held.now a.block.now l.script l.held l.at l.invariant.2 _ _ _ f.result f.ensures (l.at + f.result.used) refl _
          (kept_front _ f.result.script.held f.ensures.few same c.keep.ensures.wrote),
    )
