-- One turn of the loop over a block: what was decided of a line is counted and said, and then done.
use Prim.Native.Nat.{ℕ, ◌+◌, ◌≤◌, ◌<◌}
use mathlib.Core.Path.{◌≡◌, ap, ◌∙◌}
use mathlib.Core.List.{List}
use native.Mathlib.Omega.{arith}
use lib.ListN.{length, drop}
use Rattle.std.specs.Prelude.{Result}
use Rattle.model.specs.declared.State.{State as StoredState}
use Rattle.model.specs.Limits.{buffer_limit}
use Rattle.model.specs.Memory.{State}
use Rattle.model.specs.Tally.{Tally, counted}
use Rattle.model.specs.Request.{reading}
use Rattle.model.specs.Machine.{stepped}
use Rattle.model.specs.Checklist.{asks_to_save}
use Rattle.model.specs.Stored.{memory_of, state_of}
use Rattle.facts.specs.declared.refusals.Refusal.{Refusal}
use Rattle.facts.specs.Refusals.{outcome}
use Rattle.commands.specs.Done.{Doable, Applied}
use Rattle.engine.specs.declared.answer.Step.{Step}
use Rattle.engine.specs.Taken.{Takes, deed_of, count_of, settled_by}
use Rattle.lines.specs.Before.{before}
use Rattle.session.specs.Blocks.{Says, Run, Reasoned, nothing, due_by}
use Rattle.session.specs.declared.due.Manner.{Manner as StoredManner}
use Rattle.session.specs.declared.due.Due.{Due}
use Rattle.session.proofs.Rest.{with_rest, rest_again, put_again}
use Rattle.lines.proofs.Places.{line_at, rest, rest_long}
use Rattle.session.proofs.Answering.{says_room, settled_outcome, settled_is, doable_done, due_reasoned, answers_taken}
use Rattle.session.proofs.Running.{run_turn}

-- a line's answer is said, and what was settled is still to be done: whatever stored state has it done goes on with the run
pub record Turned (k : StoredManner) (st₀ : State) (t₀ : Tally) (block out₀ out : List ℕ) (s : StoredState) (t : Tally) (settled : Result Step Refusal) (used w : ℕ) (due : Due) : Type 0 where
  pub room : w ≤ length out₀
  pub doable : Doable s.volatile (deed_of settled)
  pub next : {s' : StoredState} → Applied s (deed_of settled) s' → Run k st₀ t₀ block out₀ out s' t used w due
  pub reasoned : Reasoned due

module _ (k : StoredManner) (st₀ : State) (t₀ : Tally) (block out₀ out : List ℕ) (s : StoredState) (t : Tally) (at w : ℕ) (run : Run k st₀ t₀ block out₀ out s t at w nothing) where
  pub turned : (end : ℕ) → end ≡ at + before (drop at block) → end < length block → (line : List ℕ) → line ≡ line_at block at →
      buffer_limit ≤ length (rest out w) →
      (decided : Result Step Refusal) (c : List ℕ) → Takes s (asks_to_save (reading line)) (stepped (state_of s) line (rest out w)) decided c → length c ≡ length (rest out w) →
      (settled : Result Step Refusal) → settled ≡ settled_by (memory_of s.permanent) decided →
      (t' : Tally) → t' ≡ counted t (outcome settled) →
      (y : List ℕ) (n : ℕ) → Says (outcome settled) (count_of settled) (rest (with_rest out w c) w) y n → length y ≡ length (rest (with_rest out w c) w) →
      (due : Due) → due ≡ due_by k settled →
      Turned k st₀ t₀ block out₀ (with_rest (with_rest out w c) w y) s t' settled (end + 1) (w + n) due
  turned end e h line l long decided c takes kept settled settles t' tally y n says as_long due told =
      let inside : w ≤ length out = omega (arith, run.room, run.long) in
      let again = rest_again out c w inside in
      let p : Says (outcome settled) (count_of settled) c y n = rw again at says in
      let q : length y ≡ length (rest out w) = as_long ∙ ap length again ∙ kept in
      record {
        room = omega (arith, says_room s run.fine line (rest out w) long (settled_outcome k s t run.fine line (rest out w) long decided c takes settled settles) (settled_is k s t run.fine line (rest out w) long decided c takes settled settles) y n p q, rest_long out w, run.room, run.long);
        doable = doable_done k s t run.fine line (rest out w) long decided c takes settled settles;
        next = λ {s'} a. rw (put_again out c w inside y)
            (run_turn k st₀ t₀ block out₀ out s t at w run end e h line y l
            (answers_taken k s t run.fine line (rest out w) long decided c takes settled settles y n p q t' tally due told a));
        reasoned = rw told (due_reasoned k settled);
      }
