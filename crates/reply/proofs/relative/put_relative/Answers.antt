use Prim.Native.Nat.{ℕ, ◌+◌}
use mathlib.Core.Path.{◌≡◌}
use native.Mathlib.Omega.{arith}
use lib.ListN.{length}
use Rattle.model.specs.Lists.{joined}
use Rattle.model.specs.Pose.{shown}
use Rattle.model.specs.Stored.{bytes_of}
use Rattle.model.specs.declared.Name.{Name}
use Rattle.chains.specs.declared.frames.Reached.{Reached}
use Rattle.reply.specs.Types.{Group}
use Rattle.model.proofs.Poses.Showing.{shown_fine}
use Rattle.chains.specs.Walk.{walk_of}
use Rattle.print.proofs.Laws.{wrote_then}
use Rattle.reply.specs.Lines.{name_text, pose_text, resultant_text}
use Rattle.reply.specs.Reached.{relative_text}
use Rattle.reply.proofs.LineLaws.{length_resultant}
use Rattle.reply.proofs.relative.put_relative.Goals as goal

long : (g : Group) (place : ℕ) (name : Name) (from : ℕ) (end : Name) (r : Reached) →
    length (relative_text g place name from end (walk_of r)) ≡ 26 + length (name_text g place (bytes_of name)) + length (name_text g from (bytes_of end)) + length (pose_text r.at (shown r.rot) r.steps)
long g place name from end r = length_resultant (name_text g place (bytes_of name)) (name_text g from (bytes_of end)) r.at (shown r.rot) r.steps

pub put_text-a-requires : goal.put_text-a-requires
put_text-a-requires c = omega (arith, long c.args.g c.args.place c.args.name c.args.from c.args.end c.args.r, c.requires.1)

pub put_system_name-b-requires : goal.put_system_name-b-requires
put_system_name-b-requires c = (c.requires.0.name_fits, omega (arith, long c.args.g c.args.place c.args.name c.args.from c.args.end c.args.r, c.requires.1))

pub put_text-c-requires : goal.put_text-c-requires
put_text-c-requires c = omega (arith, long c.args.g c.args.place c.args.name c.args.from c.args.end c.args.r, c.requires.1)

pub put_system_name-d-requires : goal.put_system_name-d-requires
put_system_name-d-requires c =
    (c.requires.0.end_fits, omega (arith, long c.args.g c.args.place c.args.name c.args.from c.args.end c.args.r, c.requires.1, c.put_text-c.ensures.place, c.put_system_name-b.ensures.place, c.put_text-a.ensures.place))

pub put_pose-requires : goal.put_pose-requires
put_pose-requires c =
    rw c.shown_of-shown.ensures (
      c.requires.0.near,
      shown_fine c.args.r.rot,
      omega (
        arith,
        long c.args.g c.args.place c.args.name c.args.from c.args.end c.args.r,
        c.requires.1,
        c.put_system_name-d.ensures.place,
        c.put_text-c.ensures.place,
        c.put_system_name-b.ensures.place,
        c.put_text-a.ensures.place,
      ),
    )

pub returns : goal.returns
unfolding resultant_text pose_text joined
returns c =
    wrote_then c.put_text-a.ensures
    (wrote_then c.put_system_name-b.ensures
    (wrote_then c.put_text-c.ensures
    (wrote_then c.put_system_name-d.ensures (rw c.shown_of-shown.ensures at c.put_pose.ensures))))
