use Prim.Native.Nat.{◌+◌}
use mathlib.Core.Path.{◌≡◌}
use native.Mathlib.Omega.{arith}
use lib.ListN.{length}
use Rattle.model.specs.Lists.{joined}
use Rattle.model.specs.Reply.{decimal, six_values}
use Rattle.print.proofs.Laws.{wrote_then, wrote_end}
use Rattle.reply.specs.Lines.{pose_text}
use Rattle.reply.proofs.LineLaws.{length_pose}
use Rattle.reply.proofs.line.put_pose.Goals.{Start}
use Rattle.reply.proofs.line.put_pose.Goals as goal

long : (c : Start) → length (pose_text c.args.t c.args.shown c.args.steps) ≡ 7 + length (six_values c.args.t c.args.shown) + length (decimal c.args.steps)
long c = length_pose c.args.t c.args.shown c.args.steps

pub put_six_values-a-requires : goal.put_six_values-a-requires
put_six_values-a-requires c = (c.requires.0, c.requires.1, omega (arith, long (goal.at.put_six_values-a-requires c).Start, c.requires.2))

pub put_text-b-requires : goal.put_text-b-requires
put_text-b-requires c = omega (arith, long (goal.at.put_text-b-requires c).Start, c.requires.2)

pub put_decimal-requires : goal.put_decimal-requires
put_decimal-requires c = omega (arith, long (goal.at.put_decimal-requires c).Start, c.requires.2)

pub returns : goal.returns
unfolding pose_text joined
returns c =
    wrote_then c.put_six_values-a.ensures (wrote_then c.put_text-b.ensures (wrote_end c.put_decimal.ensures))
