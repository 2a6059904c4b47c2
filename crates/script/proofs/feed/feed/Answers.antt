-- `feed`: the held line first, then whole lines.
use Rattle.std.proofs.Common.{◌≡◌, suc, ◌<◌, ◌≤◌, length, take, sym, refl, ◌∙◌, arith, length-take, length-take-le, rules}
use Rattle.lines.proofs.Laws.{end_inside}
use Rattle.script.specs.Directive.{longest_line}
use Rattle.script.specs.Run.{place_of}
use Rattle.script.proofs.Running.{held_on, held_ends}
use Rattle.script.proofs.feed.feed.Goals.{After-line_end-end, After-join-n}
use Rattle.script.proofs.feed.feed.Goals as goal

-- the end of the first line
ends : (c : After-line_end-end) → c.line_end-end.result ≤ length c.args.block.now
ends c = end_inside c.args.block.now 0 c.line_end-end.result (omega arith) c.line_end-end.ensures

held_few : (c : After-line_end-end) → length (take c.args.s.held c.args.held.now) ≤ suc longest_line
held_few c = omega (arith, length-take c.args.s.held c.args.held.now, c.requires.line_long, c.requires.held_in_bounds.1)

line_long : (c : After-join-n) → length c.join-n.new.line ≡ suc longest_line
line_long c = let e : length c.join-n.new.line ≡ length c.args.line.now = search rules in e ∙ c.requires.line_long

pub slice_bounds-join-end-2 : goal.slice_bounds-join-end-2
slice_bounds-join-end-2 c = sym (length-take-le _ c.args.block.now (ends (goal.at.slice_bounds-join-end-2 c).After-line_end-end))

pub returns-then-end-block : goal.returns-then-end-block
returns-then-end-block c =
    let a = c.args in
    held_on (place_of a.s) (take a.s.held a.held.now) a.block.now (held_few (goal.at.returns-then-end-block c).After-line_end-end) c.line_end-end.result c.line_end-end.ensures c.join-n.new.line
    c.join-n.result (line_long (goal.at.returns-then-end-block c).After-join-n) c.join-n.ensures a.s.state a.s.line refl a.rooms.now.out.now c.if-end-block.true

pub overflow_add-result : goal.overflow_add-result
overflow_add-result c =
    let inside : c.line_end-end.result < length c.args.block.now =
    omega (arith, ends (goal.at.overflow_add-result c).After-line_end-end, c.if-end-block.false) in
    record { fits = omega arith }

pub returns : goal.returns
returns c =
    let a = c.args in
    let inside : c.line_end-end.result < length a.block.now = omega (arith, ends (goal.at.returns c).After-line_end-end, c.if-end-block.false) in
    held_ends (place_of a.s) (take a.s.held a.held.now) a.block.now (held_few (goal.at.returns c).After-line_end-end) c.line_end-end.result c.line_end-end.ensures c.join-n.new.line c.join-n.result
    (line_long (goal.at.returns c).After-join-n) c.join-n.ensures a.rooms.now.out.now _ c.obey-o.result _ refl c.obey-o.ensures inside
