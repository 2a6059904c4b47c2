-- `whole_lines`: the run over the block, and what it left.
use Prim.Native.Nat.{◌-◌}
use native.Mathlib.Omega.{arith}
use lib.ListN.{length, drop, length-drop}
use Rattle.lines.proofs.Laws.{end_inside}
use Rattle.session.proofs.Running.{run_whole, run_stop, keeps_rest}
use Rattle.session.proofs.feed.whole_lines.Goals as goal

pub line_end-end-requires : goal.line_end-end-requires
line_end-end-requires c = c.run_lines-fed.ensures.runs.run.within

pub returns-then-end-block-clause-feeds : goal.returns-then-end-block-clause-feeds
returns-then-end-block-clause-feeds c =
    let fed = c.run_lines-fed in
    let block = c.args.block.now in
    let at = fed.result.used in
    run_whole c.args.k c.args.s block c.args.out.now _ fed.result fed.ensures.runs c.requires.nothing_held _ c.line_end-end.ensures c.if-end-block.true c.keep-held.result
    (keeps_rest c.args.s.held c.keep-held.result (drop at block) (length block - at) c.requires.nothing_held (rw (length-drop at block) (omega arith)) c.keep-held.ensures)

pub returns-clause-feeds : goal.returns-clause-feeds
returns-clause-feeds c =
    let fed = c.run_lines-fed in
    let end = c.line_end-end in
    run_stop c.args.k c.args.s c.args.block.now c.args.out.now _ fed.result fed.ensures.runs c.requires.nothing_held _ end.ensures
    (omega (arith, end_inside _ _ _ fed.ensures.runs.run.within end.ensures, c.if-end-block.false)) c.requires.buffer_limit_in_bounds
