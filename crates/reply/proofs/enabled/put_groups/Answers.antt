use native.Mathlib.Omega.{arith}
use Rattle.model.specs.Stored.{system_of}
use Rattle.print.proofs.Laws.{wrote_then}
use Rattle.reply.specs.EnabledText.{groups_text}
use Rattle.reply.proofs.EnabledLaws.{length_groups}
use Rattle.reply.proofs.enabled.put_groups.Goals as goal

pub put_next-i-requires : goal.put_next-i-requires
put_next-i-requires c =
    (c.requires.0.orientational_fits, omega (arith, c.requires.1, length_groups c.args.e (system_of c.args.o) (system_of c.args.l)))

pub put_next-j-requires : goal.put_next-j-requires
put_next-j-requires c =
    (c.requires.0.levelling_fits, omega (arith, c.requires.1, length_groups c.args.e (system_of c.args.o) (system_of c.args.l), c.put_next-i.ensures.place, c.put_next-i.auto.reply))

pub put_byte-requires : goal.put_byte-requires
put_byte-requires c =
    omega (arith, c.requires.1, length_groups c.args.e (system_of c.args.o) (system_of c.args.l), c.put_next-i.ensures.place, c.put_next-i.auto.reply, c.put_next-j.ensures.place, c.put_next-j.auto.reply)

pub returns : goal.returns
unfolding groups_text
returns c =
    wrote_then c.put_next-i.ensures (wrote_then c.put_next-j.ensures c.put_byte.ensures)
