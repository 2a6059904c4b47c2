use native.Mathlib.Omega.{arith}
use Rattle.model.specs.Lists.{joined}
use Rattle.model.specs.Stored.{system_of}
use Rattle.print.proofs.Laws.{wrote_then, wrote_end}
use Rattle.reply.specs.Lines.{system_text}
use Rattle.reply.proofs.LineLaws.{length_system}
use Rattle.reply.proofs.line.put_system.Goals as goal

pub put_text-a-requires : goal.put_text-a-requires
put_text-a-requires c = omega (arith, length_system (system_of c.args.s))

pub put_name-b-requires : goal.put_name-b-requires
put_name-b-requires c = (c.requires.0.name_fits, omega (arith, length_system (system_of c.args.s)))

pub put_text-c-requires : goal.put_text-c-requires
put_text-c-requires c = omega (arith, length_system (system_of c.args.s))

pub put_kind-d-requires : goal.put_kind-d-requires
put_kind-d-requires c = omega (arith, length_system (system_of c.args.s))

pub put_six_values-requires : goal.put_six_values-requires
put_six_values-requires c = (c.requires.0.offsets_fit, c.requires.0.turns_fit, omega (arith, length_system (system_of c.args.s)))

pub returns : goal.returns
unfolding system_text joined
returns c =
    let a = c in
    wrote_then a.put_text-a.ensures (wrote_then c.put_name-b.ensures (wrote_then c.put_text-c.ensures (wrote_then c.put_kind-d.ensures (wrote_end c.put_six_values.ensures))))
