-- `obey`: what was decided, settled and carried out.
use mathlib.Core.Path.{refl}
use Rattle.model.specs.Machine.{stepped}
use Rattle.model.specs.Stored.{state_of}
use Rattle.model.proofs.Memories.Fine.{state_of_lem}
use Rattle.engine.proofs.Views.{fine_volatile}
use Rattle.engine.proofs.Taking.{can_settled, taken_answers}
use Rattle.engine.proofs.line.obey.Goals as goal

pub decide-decided-requires : goal.decide-decided-requires
decide-decided-requires c = let fine = c.requires in record {
  fine_memory = fine_volatile _ fine;
  p_fine = (state_of_lem _ fine.formed).position;
}

pub applied-requires : goal.applied-requires
applied-requires c = rw (c.deed_of.ensures, c.settled-done.ensures) (can_settled _ _ (c.decide-decided.ensures c.args.s refl refl refl refl c.requires).doable)

pub returns : goal.returns
returns c =
    rw (c.length_of.ensures, c.settled-done.ensures)
    (taken_answers {o = stepped (state_of c.args.s) c.args.line.now c.args.reply.now} _
    (c.decide-decided.ensures c.args.s refl refl refl refl c.requires)
    (rw (c.deed_of.ensures, c.settled-done.ensures) at c.applied.ensures) c.requires.shape)
