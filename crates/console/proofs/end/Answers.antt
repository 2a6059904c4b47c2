-- `end`: what is held is answered and counted, and the tally fits in the buffer.
use Prim.Native.Nat.{◌≤◌}
use mathlib.Core.Path.{◌≡◌, sym, ap, ◌∙◌}
use native.Mathlib.Omega.{arith}
use borrow.Author.Rules.{rules}
use lib.ListN.{length, take}
use lib.Seq.{length-take-le}
use Rattle.model.specs.Tally.{tally_text}
use Rattle.print.proofs.Laws.{wrote_first}
use Rattle.tally.specs.Counts.{tally_of}
use Rattle.session.specs.Feed.{closing}
use Rattle.session.specs.Blocks.{held_of}
use Rattle.session.proofs.Rest.{replied_first}
use Rattle.console.proofs.end.Goals.{After-finish-last}
use Rattle.console.proofs.end.Goals.{After-put_tally-size}
use Rattle.console.proofs.end.Goals as goal

-- the buffer is as long as it was, and the last answer lies in it
kept : (c : After-finish-last) → length c.finish-last.new.out ≡ length c.args.out.now
kept c = search rules

within : (c : After-finish-last) → c.finish-last.result.written ≤ length c.finish-last.new.out
within c =
    let e : length c.finish-last.new.out ≡ length c.args.out.now = search rules in
    omega (arith, e, c.finish-last.ensures.ends.room)

pub slice_bounds-write_last-end-2 : goal.slice_bounds-write_last-end-2
slice_bounds-write_last-end-2 c = sym (length-take-le _ _ (within (goal.at.slice_bounds-write_last-end-2 c).After-finish-last))

pub write_last-requires : goal.write_last-requires
write_last-requires c = replied_first c.finish-last.ensures.ends.puts

pub put_tally-size-requires : goal.put_tally-size-requires
put_tally-size-requires c = omega (arith, kept (goal.at.put_tally-size-requires c).After-finish-last, c.requires.longest_tally_in_bounds)

-- what its first bytes are then
first : (c : After-put_tally-size) →
    let w = c.put_tally-size in
    let s = c.args.s in
    (w.result ≤ length w.new.out) × (take w.result w.new.out ≡ tally_text (closing (tally_of s.tally) (held_of s)))
first c =
    let w = c.put_tally-size.ensures in
    let e : length c.finish-last.new.out ≡ length c.args.out.now = search rules in
    let p = wrote_first (omega (arith, w.wrote.place, w.upper_bound, e, c.requires.longest_tally_in_bounds)) w.wrote in
    (p.0, p.1 ∙ ap tally_text c.finish-last.ensures.ends.tally)

pub slice_bounds-write_tally-end : goal.slice_bounds-write_tally-end
slice_bounds-write_tally-end c = (first (goal.at.slice_bounds-write_tally-end c).After-put_tally-size).0

pub slice_bounds-write_tally-end-2 : goal.slice_bounds-write_tally-end-2
slice_bounds-write_tally-end-2 c = sym (length-take-le _ _ (first (goal.at.slice_bounds-write_tally-end-2 c).After-put_tally-size).0)

pub write_tally-requires : goal.write_tally-requires
write_tally-requires c = (first (goal.at.write_tally-requires c).After-put_tally-size).1
