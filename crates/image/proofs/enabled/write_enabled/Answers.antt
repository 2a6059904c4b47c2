use Rattle.image.proofs.EnabledBytes.{single_bytes, pair_bytes}
use Rattle.image.proofs.enabled.write_enabled.Goals as goal

pub write_numbers-requires : goal.write_numbers-requires
write_numbers-requires c =
    rw (c.from.ensures, c.from-o.ensures, c.from-l.ensures) (rw (single_bytes c.args.e c.in-Single.p c.in-Single.is) at c.requires)

pub write_numbers-requires-in-Pair : goal.write_numbers-requires-in-Pair
write_numbers-requires-in-Pair c =
    rw (c.from-in-Pair.ensures, c.from-in-Pair-2.ensures, c.from-o.ensures, c.from-l.ensures)
    (rw (pair_bytes c.args.e c.in-Pair.w c.in-Pair.t c.in-Pair.is) at c.requires)

pub returns-in-Single : goal.returns-in-Single
returns-in-Single c =
    rw (single_bytes c.args.e c.in-Single.p c.in-Single.is) (rw (c.from.ensures, c.from-o.ensures, c.from-l.ensures) at c.write_numbers.ensures)

pub returns-in-Pair : goal.returns-in-Pair
returns-in-Pair c =
    rw (pair_bytes c.args.e c.in-Pair.w c.in-Pair.t c.in-Pair.is)
    (rw (c.from-in-Pair.ensures, c.from-in-Pair-2.ensures, c.from-o.ensures, c.from-l.ensures) at c.write_numbers-in-Pair.ensures)
