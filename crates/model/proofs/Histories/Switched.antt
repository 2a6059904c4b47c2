-- Document 02 §7, proved: `finds_the_last`, `power_switch` and, of stored states, `stored_power_switch`.
use Prim.Native.Nat.{ℕ, ◌≤◌}
use mathlib.Core.Path.{◌≡◌, refl, sym, ap, ◌∙◌}
use mathlib.Core.List.{List, [], ◌∷◌}
use mathlib.Core.Bool.{true, cond, not}
use mathlib.Core.Logic.{⊎_elim}
use borrow.Author.Tests.{le-ltb, lt-ltb}
use lib.ListN.{length, take}
use Rattle.model.specs.Types.{StoredState}
use Rattle.model.specs.Limits.{buffer_limit}
use Rattle.model.specs.Memory.{Memory, State, started}
use Rattle.model.specs.WellFormed.{well_formed}
use Rattle.model.specs.Refusals.{short}
use Rattle.model.specs.Machine.{Begun, began, stepped, restart, start_image, positioned}
use Rattle.model.specs.Trace.{Call, line, restarting, called, after_calls, after_inputs, moved, entering}
use Rattle.model.specs.Demand.{Start, factory_start, image_start, start_state}
use Rattle.model.specs.Stored.{holds, state_of, view_of, memory_of, Answered, of_outcome, of_begun}
use Rattle.model.specs.Histories.{Returned, ReturnedAlone, stands_alone, RestartPromise, WritePromise, ImagePromise, Calls}
use Rattle.model.specs.Histories as stored
use Rattle.model.specs.PowerSwitch.{start_memory, saves, saved_after, none_saves, SavedLast, never, last, FindsTheLast, BringsBack, PowerSwitch, saved_by, StoredListsAs, StoredBringsBack, StoredPowerSwitch}
use Rattle.model.proofs.Basics.{and_join, either}
use Rattle.model.proofs.Views.{view_holds, view_is}
use Rattle.model.proofs.Ladder.Refusing.{restart_fine, image_short, image_fine}
use Rattle.model.proofs.Ladder.Exact.{start_some}
use Rattle.model.proofs.Histories.Kept.{well_formed_kept}
use Rattle.model.proofs.Edits.Saving.{line_permanent, restart_permanent, position_permanent}
use Rattle.model.proofs.Histories.Saved.{lists_alike, image_back}
use Rattle.model.proofs.Histories.Stored.{line_promised, line_state, line_number, restart_promised, restart_state, write_promised, begins_held, calls_held, position_state}

-- ---- the walk finds the last accepted WPA

saved_last : (first : Memory) (st : State) (cs : List Call) → SavedLast first st cs (saved_after first st cs)
unfolding none_saves saved_after after_calls
saved_last first st [] = never refl refl
saved_last first st (c ∷ cs) = go (saved_last (cond (saves st c) st.volatile first) (called st c) cs)
  where
    -- where no later one is accepted, it is this one or none
    none_later : (m : Memory) → none_saves (called st c) cs ≡ true → m ≡ cond (saves st c) st.volatile first → SavedLast first st (c ∷ cs) m
    none_later m n e =
        ⊎_elim (λ s. last [] c cs refl s n (e ∙ rw s)) (λ s. never (and_join (ap not s) n) (e ∙ rw s)) (either (saves st c))

    go : {m : Memory} → SavedLast (cond (saves st c) st.volatile first) (called st c) cs m → SavedLast first st (c ∷ cs) m
    go {m} (never n e) = none_later m n e
    go (last before d later whole s n e) = last (c ∷ before) d later (ap (λ (k : List Call). c ∷ k) whole) s n e

pub finds_the_last : FindsTheLast
finds_the_last start calls = saved_last (start_memory start) (start_state start) calls

-- ---- the permanent memory is what the walk finds

pub call_permanent : (st : State) (c : Call) → (called st c).permanent ≡ cond (saves st c) st.volatile st.permanent
unfolding called saves
call_permanent st (entering (line bytes b)) = line_permanent st bytes b
call_permanent st (entering (moved p)) = position_permanent st p
call_permanent st restarting = restart_permanent st

calls_permanent : (m : Memory) (st : State) (cs : List Call) → st.permanent ≡ m → (after_calls st cs).permanent ≡ saved_after m st cs
unfolding after_calls saved_after
calls_permanent m st [] e = e
calls_permanent m st (c ∷ cs) e =
    calls_permanent (cond (saves st c) st.volatile m) (called st c) cs (call_permanent st c ∙ ap (cond (saves st c) st.volatile) e)

start_permanent : (start : Start) → (start_state start).permanent ≡ start_memory start
unfolding start_state start_memory
start_permanent factory_start = refl
start_permanent (image_start bytes m e) = ap (λ (o : Begun). o.state.permanent) (start_some bytes m e)

-- ---- a well-formed state brings back its permanent memory

module _ (st : State) (w : well_formed st ≡ true) where
  pub permanent_back : BringsBack st.permanent st
  unfolding short
  permanent_back =
      record {
        fine = w;
        permanent = refl;
        restarts = restart_fine st w;
        lists = λ earlier f e. lists_alike earlier (restart st).state f (well_formed_kept.restarting st w)
            (ap (λ (o : Begun). o.state.volatile) (restart_fine st w) ∙ sym e);
        short = λ b few. image_short st b w (lt-ltb (length b) buffer_limit few);
        written = λ b room. image_fine st b w (le-ltb (length b) buffer_limit room);
        starts = λ b room. image_back st w b room ∙ sym (restart_fine st w);
      }

pub power_switch : PowerSwitch
unfolding after_inputs
power_switch start calls =
    let st = after_calls (start_state start) calls in
    let e = calls_permanent (start_memory start) (start_state start) calls (start_permanent start) in
    rw (← e) (permanent_back st (well_formed_kept.history start calls []))

-- ---- stored states

-- both walks find the same
walks_alike : {s s' : StoredState} {cs : List Call} (m : Memory) (st : State) → view_of s ≡ holds st → (h : Calls s cs s') → saved_by m h ≡ saved_after m st cs
unfolding saved_by saved_after saves called
walks_alike m st e (stored.none s) = refl
walks_alike m st e (stored.then_line s s' l b r cs p rest) =
    let n = line_number s st e l b r p in
    let v : memory_of s.volatile ≡ st.volatile = ap (λ (t : State). t.volatile) (view_is s st e).1 in
    rw (n, v) (walks_alike _ (stepped st l b).state (line_state s st e l b r p) rest)
walks_alike m st e (stored.then_moved s s' p r cs q rest) = walks_alike m (positioned st p).state (position_state s st e p r q) rest
walks_alike m st e (stored.then_restart s s' r cs p rest) = walks_alike m (restart st).state (restart_state s st e r p) rest

-- a stored state that stands for one of the machine has what that one has
module _ (s : StoredState) (st : State) (h : view_of s ≡ holds st) (m : Memory) (back : BringsBack m st) where
  restart_again : (r : ReturnedAlone) → RestartPromise s r → stands_alone r ≡ of_begun (began (started m) 0)
  restart_again r p = restart_promised s st h r p ∙ ap of_begun back.restarts

  listed_again : (r : ReturnedAlone) → RestartPromise s r → StoredListsAs m r.state
  listed_again r p earlier f e l b q asked a a' promised promised' =
      let o = line_promised earlier (state_of earlier) (view_holds earlier f.shape) l b a promised in
      let o' = line_promised r.state (restart st).state (restart_state s st h r p) l b a' promised' in
      let same = back.lists (state_of earlier) f.formed e l b q asked in (
        ap (λ (x : Answered). x.number) o' ∙ same.0 ∙ sym (ap (λ (x : Answered). x.number) o),
        ap (λ (x : Answered). x.count) o' ∙ same.1 ∙ sym (ap (λ (x : Answered). x.count) o),
        ap (λ (x : Answered). x.buffer) o' ∙ same.2 ∙ sym (ap (λ (x : Answered). x.buffer) o),
      )

  image_again : (b : List ℕ) (r : Returned) → WritePromise s b r → buffer_limit ≤ length b →
      (r' : ReturnedAlone) → ImagePromise (take r.count r.buffer) r' → stands_alone r' ≡ of_begun (began (started m) 0)
  image_again b r p room r' p' =
      let o = write_promised s st h b r p in
      p'
      ∙ ap (λ (x : Answered). of_begun (start_image (take x.count x.buffer))) o
      ∙ ap of_begun (back.starts b room ∙ back.restarts)

  pub stored_back : StoredBringsBack m s
  stored_back =
      let e = (view_is s st h).1 in
      record {
        fine = record { shape = (view_is s st h).0; formed = rw e back.fine };
        permanent = ap (λ (t : State). t.permanent) e ∙ back.permanent;
        restarts = restart_again;
        lists = listed_again;
        short = λ b r p few. write_promised s st h b r p ∙ ap of_outcome (rw e (back.short b few));
        written = λ b r p room. write_promised s st h b r p ∙ ap of_outcome (rw e (back.written b room));
        starts = image_again;
      }

pub stored_power_switch : StoredPowerSwitch
stored_power_switch start calls s₀ s begun history =
    let h₀ = begins_held begun in
    let h = calls_held (start_state start) h₀ history in
    let same = walks_alike (start_memory start) (start_state start) h₀ history in
    record { stands = h; saved = same; back = rw same (stored_back s _ h _ (power_switch start calls)) }
