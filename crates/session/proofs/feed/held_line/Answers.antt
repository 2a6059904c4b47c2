-- `held_line`: the line goes on past the block, or ends in it and is answered.
use Prim.Native.Nat.{◌<◌, ◌^◌}
use mathlib.Core.Path.{sym, ◌∙◌}
use native.Mathlib.Omega.{arith}
use borrow.Author.Rules.{rules}
use lib.ListN.{length}
use lib.Seq.{length-take-le}
use Rattle.lines.proofs.Laws.{end_inside}
use Rattle.session.proofs.Running.{held_on, held_ends}
use Rattle.session.proofs.feed.held_line.Goals.{Else-end-block}
use Rattle.session.proofs.feed.held_line.Goals as goal

pub slice_bounds-keep-end : goal.slice_bounds-keep-end
slice_bounds-keep-end c =
    sym (length-take-le _ c.args.block.now (end_inside c.args.block.now 0 _ (omega arith) c.line_end-end.ensures))

pub returns-then-end-block-clause-feeds : goal.returns-then-end-block-clause-feeds
returns-then-end-block-clause-feeds c =
    let end = c.line_end-end in
    rw c.nothing_due.ensures (held_on c.args.k c.args.s c.args.block.now c.args.out.now end.result c.keep-held.result c.requires.fine_state end.ensures c.if-end-block.true c.keep-held.ensures)

-- it ends within the block
inside : (c : Else-end-block) → c.line_end-end.result < length c.args.block.now
inside c = omega (arith, end_inside _ 0 _ (omega arith) c.line_end-end.ensures, c.if-end-block.false)

pub overflow_add-result : goal.overflow_add-result
overflow_add-result c =
    let long : length c.args.block.now < 2 ^ 64 = search rules in
    record { fits = omega (arith, long, inside (goal.at.overflow_add-result c).Else-end-block) }

pub returns-clause-feeds : goal.returns-clause-feeds
returns-clause-feeds c =
    let end = c.line_end-end in
    let answered = c.answer_line-answered in
    held_ends c.args.k c.args.s c.args.block.now c.args.out.now _ _ end.result answered.result end.ensures
    (inside (goal.at.returns-clause-feeds c).Else-end-block) (c.line.ensures ∙ c.keep-held.ensures) answered.ensures.answers
