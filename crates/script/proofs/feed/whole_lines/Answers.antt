-- `whole_lines`: up to each place the lines were obeyed as they order.
use Rattle.std.proofs.Common.{◌≡◌, ℕ, suc, ◌-◌, ◌<◌, ◌≤◌, length, take, drop, ap, ◌∙◌, arith, length-drop, take_all}
use Rattle.model.specs.Stored.{view_of}
use Rattle.lines.specs.Before.{before}
use Rattle.lines.proofs.Laws.{end_inside}
use Rattle.script.specs.Run.{place}
use Rattle.script.proofs.Cutting.{keeps_part, wrote_long}
use Rattle.script.proofs.Running.{run_start, run_turn, run_whole, run_stop}
use Rattle.script.proofs.feed.whole_lines.Goals.{After-line_end-end}
use Rattle.script.proofs.feed.whole_lines.Goals as goal

-- the line ends in the block
ends : (c : After-line_end-end) → c.line_end-end.result ≤ length c.args.block.now
ends c = end_inside c.args.block.now c.loop-rooms.at c.line_end-end.result c.loop-rooms.invariant.within c.line_end-end.ensures

pub overflow_sub-rooms : goal.overflow_sub-rooms
overflow_sub-rooms c = omega (arith, c.loop-rooms.invariant.room, wrote_long c.loop-rooms.invariant.puts)

pub loop-rooms-init : goal.loop-rooms-init
loop-rooms-init c = let a = c.args in run_start a.s.state a.s.line a.block.now a.rooms.now.out.now

pub returns-then-end-block : goal.returns-then-end-block
returns-then-end-block c =
    let l = c.loop-rooms in
    let a = c.args in
    let block = a.block.now in
    let rest : take (length block - l.at) (drop l.at block) ≡ drop l.at block =
    take_all (length block - l.at) (drop l.at block) (rw (length-drop l.at block) (omega arith)) in
    let keeps = keeps_part c.keep-held.ensures.wrote c.keep-held.ensures.within in
    let long : length c.keep-held.new.line ≡ suc 262144 = wrote_long c.keep-held.ensures.wrote ∙ l.auto.line ∙ c.requires in
    run_whole (place (view_of a.s.state) a.s.line) block a.rooms.now.out.now l.rooms.out.now l.state l.number l.at l.written l.invariant c.line_end-end.result c.line_end-end.ensures
    c.if-end-block.true _ _ long (rw rest at keeps)

pub slice_bounds-obey-end : goal.slice_bounds-obey-end
slice_bounds-obey-end c = ends (goal.at.slice_bounds-obey-end c).After-line_end-end

pub overflow_add-at : goal.overflow_add-at
overflow_add-at c =
    let inside : c.line_end-end.result < length c.args.block.now =
    omega (arith, ends (goal.at.overflow_add-at c).After-line_end-end, c.if-end-block.false) in
    record { fits = omega arith }

pub loop-rooms-preserved : goal.loop-rooms-preserved
loop-rooms-preserved c =
    let l = c.loop-rooms in
    let a = c.args in
    let block = a.block.now in
    let end = c.line_end-end.result in
    let inside : end < length block = omega (arith, ends (goal.at.loop-rooms-preserved c).After-line_end-end, c.if-end-block.false) in
    let n : end - l.at ≡ before (drop l.at block) = omega (arith, c.line_end-end.ensures) in
    run_turn (place (view_of a.s.state) a.s.line) block a.rooms.now.out.now l.rooms.out.now l.state l.number l.at l.written l.invariant end c.line_end-end.ensures inside _
    (ap (λ (j : ℕ). take j (drop l.at block)) n) _ c.obey-o.result c.obey-o.ensures (wrote_long l.invariant.puts)

pub returns : goal.returns
returns c =
    let l = c.loop-rooms in
    let a = c.args in
    run_stop (place (view_of a.s.state) a.s.line) a.block.now a.rooms.now.out.now l.rooms.out.now l.state l.number l.at l.written l.invariant l.line
    a.rooms.now.answers (wrote_long l.invariant.puts) c.loop-rooms-test.false
