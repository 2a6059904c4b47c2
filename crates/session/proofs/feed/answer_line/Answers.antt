-- `answer_line`: the reply as it is, or E and the number; then what was settled is done.
use mathlib.Core.Path.{◌≡◌, refl, ap, ◌∙◌}
use lib.ListN.{length}
use borrow.Author.Rules.{rules}
use Rattle.model.specs.Tally.{counted}
use Rattle.model.proofs.Memories.Fine.{state_of_lem}
use Rattle.engine.proofs.Views.{fine_volatile}
use Rattle.tally.specs.Counts.{tally_of}
use Rattle.session.proofs.Answering.{doable_done, answers_taken}
use Rattle.session.proofs.feed.answer_line.Goals as goal

pub decide-decided-requires : goal.decide-decided-requires
decide-decided-requires c = let fine = c.requires.fine_state in record {
  fine_memory = fine_volatile _ fine;
  p_fine = (state_of_lem _ fine.formed).position;
}

pub applied-state-requires : goal.applied-state-requires
applied-state-requires c =
    let a = c.args in
    let s = a.s.state in
    rw c.deed_of.ensures (doable_done a.k s (tally_of a.s.tally) c.requires.fine_state a.line.now a.out.now c.requires.buffer_limit_in_bounds c.decide-decided.result _
    (c.decide-decided.ensures s refl refl refl refl c.requires.fine_state) c.settled-done.result c.settled-done.ensures)

pub returns-clause-answers : goal.returns-clause-answers
returns-clause-answers c =
    let a = c.args in
    let s = a.s.state in
    let t = tally_of a.s.tally in
    let kept : length c.say_settled-written.new.out ≡ length c.args.out.now = search rules in
    record {
      answered = answers_taken a.k s t c.requires.fine_state a.line.now a.out.now c.requires.buffer_limit_in_bounds c.decide-decided.result _
          (c.decide-decided.ensures s refl refl refl refl c.requires.fine_state) c.settled-done.result c.settled-done.ensures
          _ _ c.say_settled-written.ensures kept _ (c.count-tally.ensures ∙ ap (counted t) c.number_told.ensures) _ c.due_behind.ensures
          (rw c.deed_of.ensures at c.applied-state.ensures);
      held = c.nothing_held.ensures;
    }
