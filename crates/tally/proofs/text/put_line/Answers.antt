-- `put_line`: the label, two numbers with a space between, and LF, one after the other.
use native.Mathlib.Omega.{arith}
use Rattle.print.proofs.Laws.{wrote_then}
use Rattle.tally.proofs.Parts.{line_parts, length_line}
use Rattle.tally.proofs.text.put_line.Goals as goal

pub put_text-a-requires : goal.put_text-a-requires
put_text-a-requires c = omega (arith, length_line c.args.label.now c.args.first c.args.second)

pub put_decimal-b-requires : goal.put_decimal-b-requires
put_decimal-b-requires c =
    omega (arith, length_line c.args.label.now c.args.first c.args.second, c.put_text-a.ensures.place)

pub put_byte-c-requires : goal.put_byte-c-requires
put_byte-c-requires c =
    omega (arith, length_line c.args.label.now c.args.first c.args.second, c.put_text-a.ensures.place, c.put_decimal-b.ensures.place)

pub put_decimal-d-requires : goal.put_decimal-d-requires
put_decimal-d-requires c =
    omega (arith, length_line c.args.label.now c.args.first c.args.second, c.put_text-a.ensures.place, c.put_decimal-b.ensures.place, c.put_byte-c.ensures.place)

pub put_byte-requires : goal.put_byte-requires
put_byte-requires c =
    omega (arith, length_line c.args.label.now c.args.first c.args.second, c.put_text-a.ensures.place, c.put_decimal-b.ensures.place, c.put_byte-c.ensures.place, c.put_decimal-d.ensures.place)

pub returns : goal.returns
returns c =
    rw (line_parts c.args.label.now c.args.first c.args.second)
    (wrote_then c.put_text-a.ensures (wrote_then c.put_decimal-b.ensures (wrote_then c.put_byte-c.ensures (wrote_then c.put_decimal-d.ensures c.put_byte.ensures))))
