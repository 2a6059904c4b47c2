-- `put_angles`: three numbers with a space between, one after the other.
use native.Mathlib.Omega.{arith}
use Rattle.print.proofs.Laws.{wrote_then}
use Rattle.sheet.proofs.Parts.{angles_parts, length_angles}
use Rattle.sheet.proofs.put_angles.Goals as goal

pub put_whole_degrees-u-requires : goal.put_whole_degrees-u-requires
put_whole_degrees-u-requires c = omega (arith, length_angles c.args.t)

pub put_byte-i-requires : goal.put_byte-i-requires
put_byte-i-requires c = omega (arith, length_angles c.args.t)

pub put_whole_degrees-v-requires : goal.put_whole_degrees-v-requires
put_whole_degrees-v-requires c =
    omega (arith, length_angles c.args.t, c.put_whole_degrees-u.ensures.place, c.put_byte-i.ensures.place)

pub put_byte-j-requires : goal.put_byte-j-requires
put_byte-j-requires c =
    omega (arith, length_angles c.args.t, c.put_whole_degrees-u.ensures.place, c.put_byte-i.ensures.place, c.put_whole_degrees-v.ensures.place)

pub put_whole_degrees-requires : goal.put_whole_degrees-requires
put_whole_degrees-requires c =
    omega (arith, length_angles c.args.t, c.put_whole_degrees-u.ensures.place, c.put_byte-i.ensures.place, c.put_whole_degrees-v.ensures.place, c.put_byte-j.ensures.place)

pub returns : goal.returns
returns c =
    let u = c in
    rw (angles_parts u.args.t)
    (wrote_then u.put_whole_degrees-u.ensures (wrote_then c.put_byte-i.ensures (wrote_then c.put_whole_degrees-v.ensures (wrote_then c.put_byte-j.ensures c.put_whole_degrees.ensures))))
