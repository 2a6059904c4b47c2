use Prim.Native.Nat.{◌+◌}
use mathlib.Core.Path.{◌≡◌}
use native.Mathlib.Omega.{arith}
use lib.ListN.{length}
use Rattle.model.specs.Kinds.{of_group}
use Rattle.model.specs.Lists.{joined}
use Rattle.model.specs.Stored.{bytes_of}
use Rattle.print.proofs.Laws.{wrote_then}
use Rattle.reply.specs.Lines.{pose_text, resultant_text}
use Rattle.reply.proofs.LineLaws.{length_resultant}
use Rattle.reply.proofs.line.put_resultant.Goals.{Start}
use Rattle.reply.proofs.line.put_resultant.Goals as goal

long : (c : Start) → length (resultant_text (bytes_of c.args.name) (of_group c.args.g).end c.args.t c.args.shown c.args.steps)
    ≡ 26 + length (bytes_of c.args.name) + length (of_group c.args.g).end + length (pose_text c.args.t c.args.shown c.args.steps)
long c = length_resultant (bytes_of c.args.name) (of_group c.args.g).end c.args.t c.args.shown c.args.steps

pub put_text-a-requires : goal.put_text-a-requires
put_text-a-requires c = omega (arith, long (goal.at.put_text-a-requires c).Start)

pub put_name-b-requires : goal.put_name-b-requires
put_name-b-requires c = (c.requires.0, omega (arith, long (goal.at.put_name-b-requires c).Start))

pub put_text-c-requires : goal.put_text-c-requires
put_text-c-requires c = omega (arith, long (goal.at.put_text-c-requires c).Start)

pub put_end-d-requires : goal.put_end-d-requires
put_end-d-requires c = omega (arith, long (goal.at.put_end-d-requires c).Start)

pub put_pose-requires : goal.put_pose-requires
put_pose-requires c = (c.requires.1, c.requires.2, omega (arith, long (goal.at.put_pose-requires c).Start))

pub returns : goal.returns
unfolding resultant_text pose_text joined
returns c =
    let a = c in
    wrote_then a.put_text-a.ensures (wrote_then c.put_name-b.ensures (wrote_then c.put_text-c.ensures
    (wrote_then c.put_end-d.ensures c.put_pose.ensures)))
