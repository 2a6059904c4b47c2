-- `explain`: the line of the reason, from the buffer in which it stands first.
use Prim.Native.Nat.{◌<◌, ◌≤◌}
use mathlib.Core.Path.{◌≡◌, sym}
use lib.ListN.{length, take}
use lib.Seq.{length-take-le}
use borrow.Author.Rules.{rules}
use Rattle.model.specs.Reasons.{reason_line}
use Rattle.reasons.proofs.Short.{line_first}
use Rattle.bench.proofs.edge.explain.Goals.{After-put_reason-n}
use Rattle.bench.proofs.edge.explain.Goals as goal

first : (c : After-put_reason-n) →
    let n = c.args.number in
    (c.put_reason-n.result ≤ length c.put_reason-n.new.out) × (take c.put_reason-n.result c.put_reason-n.new.out ≡ reason_line n)
first c =
    let byte : c.args.number < 256 = search rules in
    let long : 4096 ≤ length c.buffer-text.result = search rules in
    line_first c.args.number byte c.buffer-text.result _ c.put_reason-n.result long c.put_reason-n.ensures

pub slice_bounds-text-end : goal.slice_bounds-text-end
slice_bounds-text-end c = (first (goal.at.slice_bounds-text-end c).After-put_reason-n).0

pub slice_bounds-write_reason-end : goal.slice_bounds-write_reason-end
slice_bounds-write_reason-end c = sym (length-take-le _ _ (first (goal.at.slice_bounds-write_reason-end c).After-put_reason-n).0)

pub write_reason-requires : goal.write_reason-requires
write_reason-requires c = (first (goal.at.write_reason-requires c).After-put_reason-n).1
