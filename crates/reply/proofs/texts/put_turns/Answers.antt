use native.Mathlib.Omega.{arith}
use Rattle.model.proofs.Memories.Fine.{turns_of_lem}
use Rattle.print.proofs.Laws.{wrote_then}
use Rattle.reply.specs.Values.{turns_text}
use Rattle.reply.proofs.ValueLaws.{length_turns}
use Rattle.reply.proofs.texts.put_turns.Goals as goal

pub put_text-a-requires : goal.put_text-a-requires
put_text-a-requires c = omega (arith, c.requires.1, length_turns c.args.r)

pub put_degrees-b-requires : goal.put_degrees-b-requires
put_degrees-b-requires c =
    (omega (arith, (turns_of_lem c.args.r c.requires.0).u), omega (arith, c.requires.1, length_turns c.args.r, c.put_text-a.ensures.place, c.put_text-a.auto.out))

pub put_text-c-requires : goal.put_text-c-requires
put_text-c-requires c =
    omega (arith, c.requires.1, length_turns c.args.r, c.put_text-a.ensures.place, c.put_text-a.auto.out, c.put_degrees-b.ensures.place, c.put_degrees-b.auto.out)

pub put_degrees-d-requires : goal.put_degrees-d-requires
put_degrees-d-requires c =
    (omega (arith, (turns_of_lem c.args.r c.requires.0).v), omega (arith, c.requires.1, length_turns c.args.r, c.put_text-a.ensures.place, c.put_text-a.auto.out, c.put_degrees-b.ensures.place, c.put_degrees-b.auto.out, c.put_text-c.ensures.place, c.put_text-c.auto.out))

pub put_text-e-requires : goal.put_text-e-requires
put_text-e-requires c =
    omega (arith, c.requires.1, length_turns c.args.r, c.put_text-a.ensures.place, c.put_text-a.auto.out, c.put_degrees-b.ensures.place, c.put_degrees-b.auto.out, c.put_text-c.ensures.place, c.put_text-c.auto.out, c.put_degrees-d.ensures.place, c.put_degrees-d.auto.out)

pub put_degrees-requires : goal.put_degrees-requires
put_degrees-requires c =
    (omega (arith, (turns_of_lem c.args.r c.requires.0).w), omega (arith, c.requires.1, length_turns c.args.r, c.put_text-a.ensures.place, c.put_text-a.auto.out, c.put_degrees-b.ensures.place, c.put_degrees-b.auto.out, c.put_text-c.ensures.place, c.put_text-c.auto.out, c.put_degrees-d.ensures.place, c.put_degrees-d.auto.out, c.put_text-e.ensures.place, c.put_text-e.auto.out))

pub returns : goal.returns
unfolding turns_text
returns c =
    wrote_then (wrote_then c.put_text-a.ensures c.put_degrees-b.ensures)
    (wrote_then (wrote_then c.put_text-c.ensures c.put_degrees-d.ensures) (wrote_then c.put_text-e.ensures c.put_degrees.ensures))
