use mathlib.Core.Path.{◌≡◌}
use native.Mathlib.Omega.{arith}
use mir.Syntax.{w64}
use mir.Val.{to_z, of_z}
use Rattle.print.proofs.Laws.{wrote_then}
use Rattle.signed.proofs.Sizes.{back}
use Rattle.pose.specs.Poses.{Within, reach}
use Rattle.reply.specs.Types.{Vec3}
use Rattle.reply.specs.Values.{offsets_text}
use Rattle.reply.proofs.ValueLaws.{length_offsets}
use Rattle.reply.proofs.texts.put_offsets.Goals as goal

-- each coordinate is read back as itself
x_back : (t : Vec3) → Within reach t → to_z w64 (of_z w64 t.x) ≡ t.x
x_back t w = back t.x (omega (arith, w.x_within))

y_back : (t : Vec3) → Within reach t → to_z w64 (of_z w64 t.y) ≡ t.y
y_back t w = back t.y (omega (arith, w.y_within))

z_back : (t : Vec3) → Within reach t → to_z w64 (of_z w64 t.z) ≡ t.z
z_back t w = back t.z (omega (arith, w.z_within))

pub put_text-a-requires : goal.put_text-a-requires
put_text-a-requires c = omega (arith, c.requires.1, length_offsets c.args.t)

pub put_value-b-requires : goal.put_value-b-requires
put_value-b-requires c =
    rw (x_back c.args.t c.requires.0) (omega (arith, c.requires.0.x_within), omega (arith, c.requires.1, length_offsets c.args.t, c.put_text-a.ensures.place, c.put_text-a.auto.out))

pub put_text-c-requires : goal.put_text-c-requires
put_text-c-requires c =
    omega (arith, c.requires.1, length_offsets c.args.t, c.put_text-a.ensures.place, c.put_text-a.auto.out, rw (x_back c.args.t c.requires.0) at c.put_value-b.ensures.place, c.put_value-b.auto.out)

pub put_value-d-requires : goal.put_value-d-requires
put_value-d-requires c =
    rw (y_back c.args.t c.requires.0) (omega (arith, c.requires.0.y_within), omega (arith, c.requires.1, length_offsets c.args.t, c.put_text-a.ensures.place, c.put_text-a.auto.out, rw (x_back c.args.t c.requires.0) at c.put_value-b.ensures.place, c.put_value-b.auto.out, c.put_text-c.ensures.place, c.put_text-c.auto.out))

pub put_text-e-requires : goal.put_text-e-requires
put_text-e-requires c =
    omega (arith, c.requires.1, length_offsets c.args.t, c.put_text-a.ensures.place, c.put_text-a.auto.out, rw (x_back c.args.t c.requires.0) at c.put_value-b.ensures.place, c.put_value-b.auto.out, c.put_text-c.ensures.place, c.put_text-c.auto.out, rw (y_back c.args.t c.requires.0) at c.put_value-d.ensures.place, c.put_value-d.auto.out)

pub put_value-requires : goal.put_value-requires
put_value-requires c =
    rw (z_back c.args.t c.requires.0) (omega (arith, c.requires.0.z_within), omega (arith, c.requires.1, length_offsets c.args.t, c.put_text-a.ensures.place, c.put_text-a.auto.out, rw (x_back c.args.t c.requires.0) at c.put_value-b.ensures.place, c.put_value-b.auto.out, c.put_text-c.ensures.place, c.put_text-c.auto.out, rw (y_back c.args.t c.requires.0) at c.put_value-d.ensures.place, c.put_value-d.auto.out, c.put_text-e.ensures.place, c.put_text-e.auto.out))

pub returns : goal.returns
unfolding offsets_text
returns c =
    wrote_then (wrote_then c.put_text-a.ensures (rw (x_back c.args.t c.requires.0) at c.put_value-b.ensures))
    (wrote_then (wrote_then c.put_text-c.ensures (rw (y_back c.args.t c.requires.0) at c.put_value-d.ensures)) (wrote_then c.put_text-e.ensures (rw (z_back c.args.t c.requires.0) at c.put_value.ensures)))
