-- `run_lines`: a run over the block, line by line, the state open in its parts.
use Prim.Native.Nat.{ℕ, ◌+◌, ◌-◌, ◌<◌, ◌≤◌, ◌^◌}
use mathlib.Core.List.{List}
use mathlib.Core.Path.{◌≡◌, refl, sym, ap, ◌∙◌}
use mathlib.Core.Logic.{inl, inr, ⊎_elim}
use native.Mathlib.Omega.{arith}
use borrow.Author.Rules.{rules}
use borrow.Author.Tests.{eqb-true, eqb-false}
use lib.Dec.{eqb}
use lib.ListN.{length, take, drop}
use Rattle.std.specs.Prelude.{Result, Ok}
use Rattle.model.specs.declared.Memory.{Memory as StoredMemory}
use Rattle.model.specs.Stored.{state_of}
use Rattle.model.specs.Tally.{counted}
use Rattle.model.proofs.Basics.{or_split, or_false}
use Rattle.model.proofs.Memories.Fine.{state_of_lem}
use Rattle.model.proofs.Histories.Tally.{same_sums, counted_sums}
use Rattle.facts.specs.declared.refusals.Refusal.{Refusal}
use Rattle.commands.specs.declared.changed.Deed.{Deed}
use Rattle.commands.specs.Done.{Applied}
use Rattle.commands.proofs.Deeds.{put_fits, remove_fits, applied_refused, applied_keep, applied_error, applied_put, applied_remove, applied_enable, applied_level, applied_save, applied_restore, applied_reset}
use Rattle.engine.specs.declared.answer.Step.{Step}
use Rattle.engine.specs.Taken.{deed_of}
use Rattle.engine.proofs.Views.{fine_volatile}
use Rattle.tally.specs.Counts.{numbers, tally_of}
use Rattle.tally.specs.Trimmed.{tally_with}
use Rattle.lines.specs.Before.{before}
use Rattle.lines.proofs.Laws.{end_inside}
use Rattle.lines.proofs.Places.{rest_long}
use Rattle.session.specs.Blocks.{Run, Reasoned}
use Rattle.session.proofs.Rest.{with_rest}
use Rattle.session.proofs.Running.{run_start, run_idle, not_due, some_due}
use Rattle.session.proofs.Turning.{Turned, turned}
use Rattle.session.proofs.run.run_lines.Invariants.{state_with}
use Rattle.session.proofs.run.run_lines.Goals.{After-say_settled-written, else-loop-out-test, then-loop-out-test+then-is_due-end}
use Rattle.session.proofs.run.run_lines.Goals as goal

pub loop-out-init : goal.loop-out-init
loop-out-init c =
    let s = c.args.s in
    let places : length s.tally.counts ≡ numbers = search rules in record {
      run = rw c.nothing_due-due.ensures (run_start c.args.k s.state (tally_of s.tally) c.args.block.now c.args.out.now c.requires.fine_state);
      places = places;
      reasoned = rw c.nothing_due-due.ensures tt;
    }

-- ---- a line that ends in the block

-- its end lies within
inside : (block : List ℕ) (used end : ℕ) → used ≤ length block → end ≡ used + before (drop used block) → (end ≡ length block → ⊥) → end < length block
inside block used end within e short = omega (arith, end_inside block used end within e, short)

pub slice_bounds-line-end : goal.slice_bounds-line-end
slice_bounds-line-end c =
    let e = c.line_end-end in
    omega (arith, e.ensures, inside c.args.block.now c.loop-out.used e.result c.loop-out.invariant.run.within e.ensures (eqb-false _ _ (or_false c.is_due.result _ c.if-is_due-end.false).1))

pub decide-decided-requires-clause-fine_memory : goal.decide-decided-requires-clause-fine_memory
decide-decided-requires-clause-fine_memory c = fine_volatile _ c.loop-out.invariant.run.fine

pub decide-decided-requires-clause-p_fine : goal.decide-decided-requires-clause-p_fine
decide-decided-requires-clause-p_fine c = (state_of_lem _ c.loop-out.invariant.run.fine.formed).position

pub count_in-total-requires-clause-sums : goal.count_in-total-requires-clause-sums
count_in-total-requires-clause-sums c = same_sums c.loop-out.invariant.run.tally (counted_sums _ _ c.args.s.tally.sums)

-- ---- its turn

-- what was settled is counted and said
said : (c : After-say_settled-written) →
    let l = c.loop-out in
    let a = c.args in
    Turned a.k (state_of a.s.state) (tally_of a.s.tally) a.block.now a.out.now
    (with_rest (with_rest l.out l.written c.decide-decided.new.reply) l.written c.say_settled-written.new.out)
    (state_with l.volatile l.permanent a.s.state.position l.level l.error) (tally_with c.count_in-total.new.counts c.count_in-total.result) c.settled-done.result (c.line_end-end.result + 1) (l.written + c.say_settled-written.result) c.due_behind-due.result
said c =
    let l = c.loop-out in
    let a = c.args in
    let decided = c.decide-decided in
    let end = c.line_end-end in
    let run = l.invariant.run in
    let s = state_with l.volatile l.permanent a.s.state.position l.level l.error in
    let t = tally_with l.counts l.total in
    let test = or_false c.is_due.result _ c.if-is_due-end.false in
    let idle = run_idle (not_due l.due (sym c.is_due.ensures ∙ test.0)) run in
    let size : end.result - l.used ≡ before (drop l.used a.block.now) = omega (arith, end.ensures) in
    turned a.k (state_of a.s.state) (tally_of a.s.tally) a.block.now a.out.now l.out s t l.used l.written idle
    end.result end.ensures (inside a.block.now l.used end.result run.within end.ensures (eqb-false _ _ test.1)) _ (ap (λ (k : ℕ). take k (drop l.used a.block.now)) size)
    (rw (rest_long l.out l.written) (omega (arith, c.loop-out-test.true)))
    decided.result _ (decided.ensures s refl refl refl refl run.fine) decided.auto.reply
    c.settled-done.result c.settled-done.ensures
    (tally_with c.count_in-total.new.counts c.count_in-total.result) (c.count_in-total.ensures ∙ ap (counted t) c.number_told.ensures)
    _ _ c.say_settled-written.ensures c.say_settled-written.auto.out _ c.due_behind-due.ensures

-- once it is done, the run goes on, every number has its place still, and what is to be told is why the line was refused
goes_on : (c : After-say_settled-written) → {v p : StoredMemory} {level error : ℕ} →
    let l = c.loop-out in
    let a = c.args in
    Applied (state_with l.volatile l.permanent a.s.state.position l.level l.error) (deed_of c.settled-done.result) (state_with v p a.s.state.position level error) →
    record {
      run : Run a.k (state_of a.s.state) (tally_of a.s.tally) a.block.now a.out.now (with_rest (with_rest l.out l.written c.decide-decided.new.reply) l.written c.say_settled-written.new.out)
          (state_with v p a.s.state.position level error) (tally_with c.count_in-total.new.counts c.count_in-total.result) (c.line_end-end.result + 1) (l.written + c.say_settled-written.result) c.due_behind-due.result;
      places : length c.count_in-total.new.counts ≡ numbers;
      reasoned : Reasoned c.due_behind-due.result;
    }
goes_on c done =
    let places : length c.count_in-total.new.counts ≡ numbers = search rules in
    record { run = (said c).next done; places = places; reasoned = (said c).reasoned }

pub overflow_add-written : goal.overflow_add-written
overflow_add-written c =
    let long : length c.args.out.now < 2 ^ 64 = search rules in
    record { fits = omega (arith, (said (goal.at.overflow_add-written c).After-say_settled-written).room, long) }

pub overflow_add-used : goal.overflow_add-used
overflow_add-used c =
    let e = c.line_end-end in
    let long : length c.args.block.now < 2 ^ 64 = search rules in
    record { fits = omega (arith, long, inside c.args.block.now c.loop-out.used e.result c.loop-out.invariant.run.within e.ensures (eqb-false _ _ (or_false c.is_due.result _ c.if-is_due-end.false).1)) }

-- ---- what is done

-- the deed of an accepted line
did : {r : Result Step Refusal} {step : Step} {d : Deed} → r ≡ Ok step → step.deed ≡ d → deed_of r ≡ Ok d
did e f = ap deed_of e ∙ ap (λ (d : Deed). Ok d) f

pub put_at-volatile-requires : goal.put_at-volatile-requires
put_at-volatile-requires c = let fits = put_fits (said (goal.at.put_at-volatile-requires c).After-say_settled-written).doable (did c.in-Ok.is c.in-Put.is) in (fits.0, fits.1)

pub removed_at-volatile-requires : goal.removed_at-volatile-requires
removed_at-volatile-requires c = remove_fits (said (goal.at.removed_at-volatile-requires c).After-say_settled-written).doable (did c.in-Ok.is c.in-Remove.is)

pub loop-out-preserved-in-Err : goal.loop-out-preserved-in-Err
loop-out-preserved-in-Err c =
    goes_on (goal.at.loop-out-preserved-in-Err c).After-say_settled-written (applied_refused (ap deed_of c.in-Err.is) c.from-error.ensures)

pub loop-out-preserved-in-Keep : goal.loop-out-preserved-in-Keep
loop-out-preserved-in-Keep c =
    goes_on (goal.at.loop-out-preserved-in-Keep c).After-say_settled-written (applied_keep (did c.in-Ok.is c.in-Keep.is))

pub loop-out-preserved-in-SetError : goal.loop-out-preserved-in-SetError
loop-out-preserved-in-SetError c =
    goes_on (goal.at.loop-out-preserved-in-SetError c).After-say_settled-written (applied_error (did c.in-Ok.is c.in-SetError.is))

pub loop-out-preserved-in-Put : goal.loop-out-preserved-in-Put
loop-out-preserved-in-Put c =
    let turn = (goal.at.loop-out-preserved-in-Put c).After-say_settled-written in goes_on turn (applied_put (did c.in-Ok.is c.in-Put.is) (said turn).doable _ (c.put_at-volatile.ensures.stands_for, c.put_at-volatile.ensures.shaped))

pub loop-out-preserved-in-Remove : goal.loop-out-preserved-in-Remove
loop-out-preserved-in-Remove c =
    goes_on (goal.at.loop-out-preserved-in-Remove c).After-say_settled-written (applied_remove (did c.in-Ok.is c.in-Remove.is) _ (c.removed_at-volatile.ensures.stands_for, c.removed_at-volatile.ensures.shaped))

pub loop-out-preserved-in-Enable : goal.loop-out-preserved-in-Enable
loop-out-preserved-in-Enable c =
    goes_on (goal.at.loop-out-preserved-in-Enable c).After-say_settled-written (applied_enable (did c.in-Ok.is c.in-Enable.is))

pub loop-out-preserved-in-SetLevel : goal.loop-out-preserved-in-SetLevel
loop-out-preserved-in-SetLevel c =
    goes_on (goal.at.loop-out-preserved-in-SetLevel c).After-say_settled-written (applied_level (did c.in-Ok.is c.in-SetLevel.is))

pub loop-out-preserved-in-Save : goal.loop-out-preserved-in-Save
loop-out-preserved-in-Save c =
    goes_on (goal.at.loop-out-preserved-in-Save c).After-say_settled-written (applied_save (did c.in-Ok.is c.in-Save.is))

pub loop-out-preserved-in-Restore : goal.loop-out-preserved-in-Restore
loop-out-preserved-in-Restore c =
    goes_on (goal.at.loop-out-preserved-in-Restore c).After-say_settled-written (applied_restore (did c.in-Ok.is c.in-Restore.is))

pub loop-out-preserved : goal.loop-out-preserved
loop-out-preserved c =
    goes_on (goal.at.loop-out-preserved c).After-say_settled-written (applied_reset (did c.in-Ok.is c.in-Reset.is) _ (c.factory_memory-volatile.ensures.stands_for, c.factory_memory-volatile.ensures.shaped))

-- ---- the end

pub invariant_of-tally : goal.invariant_of-tally
invariant_of-tally c = record { sums = same_sums c.loop-out.invariant.run.tally (counted_sums _ _ c.args.s.tally.sums) }

pub returns-clause-runs : goal.returns-clause-runs
returns-clause-runs c =
    record {
      run = c.loop-out.invariant.run;
      held = refl;
      stops = λ h. elim c.loop-out-test.branch [
        | else-loop-out-test w ↦ inl w.loop-out-test.false
        | then-loop-out-test+then-is_due-end w ↦ ⊎_elim
            (λ e. inr (some_due c.loop-out.due (sym w.is_due.ensures ∙ e)))
            (λ e. absurd (omega (arith, h, w.line_end-end.ensures, eqb-true w.line_end-end.result _ e)))
            (or_split w.is_due.result (eqb w.line_end-end.result _) w.if-is_due-end.true)
      ];
    }
