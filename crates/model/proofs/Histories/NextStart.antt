-- Document 02 §9, proved: `next_start`.
use Prim.Native.Nat.{ℕ, ◌≤◌}
use mathlib.Core.Path.{◌≡◌, refl, sym, ap, ◌∙◌}
use mathlib.Core.List.{List, [], ◌∷◌}
use mathlib.Core.Bool.{Bool, true, false, cond, not, ◌&&◌}
use mathlib.Core.Logic.{⊎_elim}
use native.Mathlib.Omega.{arith}
use borrow.Author.Tests.{not-true}
use lib.ListN.{length}
use Rattle.model.specs.Types.{StoredState}
use Rattle.model.specs.Limits.{buffer_limit}
use Rattle.model.specs.Lists.{any, same, there?}
use Rattle.model.specs.Memory.{Memory, State, started, place_named, is_user, find, named}
use Rattle.model.specs.Use.{name_in_use}
use Rattle.model.specs.Words.{reserved}
use Rattle.model.specs.WellFormed.{well_formed}
use Rattle.model.specs.Request.{Reading, reading, unknown, malformed, beyond, asks, change, list, last_error, define, link, copy, remove, enable, set_level, save, restore, reset, enabled_ones, systems_all, links, resultants, resultant_of, resultant_in, locate}
use Rattle.model.specs.Refusals.{first, short, unreadable, absent, locked, change_ladder, query_ladder, request_ladder, reading_ladder, ladder, refusal}
use Rattle.model.specs.Effects.{with_volatile, with_error, removed_at, changed, next}
use Rattle.model.specs.Machine.{Outcome, Begun, carried_out, stepped, restart, write_image}
use Rattle.model.specs.Trace.{Call, called, after_calls}
use Rattle.model.specs.Claims.{applies, tried_before, before, FirstToApply}
use Rattle.model.specs.Checklist.{under_enabled, asks_to_save, switched_on}
use Rattle.model.specs.Stored.{state_of, view_of, holds, memory_of, FineState, Restarted}
use Rattle.model.specs.PowerSwitch.{saves}
use Rattle.model.specs.NextStart.{AsksToRemove, RefusedWhileSaved, AsksForNeeded, OthersStayFree, never_saved_in_use, TakenAway, TakesNothingNeeded, unheld, Freed, StoredRefused, StoredRemoves, StoredFrees, NextStart}
use Rattle.model.proofs.Basics.{and_split, or_split, or_false, or_left, either, true_false, same→≡, ≡→same}
use Rattle.model.proofs.Views.{view_holds, view_is}
use Rattle.model.proofs.Memories.Fine.{Fine, state_of_lem, fine_of}
use Rattle.model.proofs.Memories.Named.{find_user, present_user}
use Rattle.model.proofs.Memories.Found.{user_name_free}
use Rattle.model.proofs.Ladder.First.{Clear, clear_of}
use Rattle.model.proofs.Ladder.Refusing.{step_number, step_taken, restart_fine}
use Rattle.model.proofs.Ladder.Exact.{number_exact}
use Rattle.model.proofs.Edits.Removing.{removed_name}
use Rattle.model.proofs.Edits.Removed.{removal_mends}
use Rattle.model.proofs.Histories.Kept.{well_formed_kept}
use Rattle.model.proofs.Histories.Under.{by_frames, held_fast}
use Rattle.model.proofs.Histories.Saved.{saved_line, image_back}
use Rattle.model.proofs.Histories.Stored.{line_state, line_number, calls_held}
use Rattle.model.proofs.Histories.Switched.{call_permanent, permanent_back, stored_back}

-- ---- what is refused

twenty_applies : (st : State) (n : List ℕ) → name_in_use st.permanent n ≡ true → (line b : List ℕ) → AsksToRemove line n → applies 20 (ladder st line b) ≡ true
unfolding applies any ladder reading_ladder request_ladder change_ladder
twenty_applies st n u line b r = rw r (or_left (name_in_use st.permanent n) false u)

refused_while_saved : (st : State) → well_formed st ≡ true → RefusedWhileSaved st
refused_while_saved st w n found u line b r =
    let p = st.permanent in
    let fine = fine_of p (state_of_lem st w).permanent in
    held_fast 20 st w line b (twenty_applies st n (by_frames p fine n (user_name_free p fine n found) ∙ u) line b r)

-- 20 applies to a KRM alone
module _ (st : State) (w : well_formed st ≡ true) (line b : List ℕ) (f : FirstToApply 20 (ladder st line b)) where
  abbrev m : Memory
  m = st.volatile

  fine : Fine m
  fine = fine_of m (state_of_lem st w).volatile

  for_needed : (n : List ℕ) → AsksToRemove line n → AsksForNeeded st line
  unfolding applies any ladder reading_ladder request_ladder change_ladder tried_before before
  for_needed n r =
      let free : reserved n ≡ false = (or_false (reserved n) false (rw r at (f.none_before 8 refl))).0 in
      record {
        name = n;
        asked = r;
        needed = sym (by_frames st.permanent (fine_of st.permanent (state_of_lem st w).permanent) n free)
            ∙ ⊎_elim (λ e. e) (λ e. true_false (sym e)) (or_split (name_in_use st.permanent n) false (rw r at f.itself));
        there = present_user m n (or_false (absent m n) false (rw r at (f.none_before 7 refl))).0 free;
        unused = sym (by_frames m fine n free) ∙ (or_false (name_in_use m n) false (rw r at (f.none_before 11 refl))).0;
      }

  only_removals : (r : Reading) → reading line ≡ r → applies 20 (reading_ladder st r) ≡ true → AsksForNeeded st line
  unfolding applies any reading_ladder request_ladder change_ladder query_ladder
  only_removals unknown e a = true_false (sym a)
  only_removals malformed e a = true_false (sym a)
  only_removals beyond e a = true_false (sym a)
  only_removals (asks (change (define k n t u))) e a = true_false (sym a)
  only_removals (asks (change (locate n))) e a = true_false (sym a)
  only_removals (asks (change (link x y))) e a = true_false (sym a)
  only_removals (asks (change (copy s d))) e a = true_false (sym a)
  only_removals (asks (change (remove n))) e a = for_needed n e
  only_removals (asks (change (enable n))) e a = true_false (sym a)
  only_removals (asks (change (set_level n))) e a = true_false (sym a)
  only_removals (asks (change save)) e a = true_false (sym a)
  only_removals (asks (change restore)) e a = true_false (sym a)
  only_removals (asks (change reset)) e a = true_false (sym a)
  only_removals (asks (list enabled_ones)) e a = true_false (sym a)
  only_removals (asks (list systems_all)) e a = true_false (sym a)
  only_removals (asks (list links)) e a = true_false (sym a)
  only_removals (asks (list resultants)) e a = true_false (sym a)
  only_removals (asks (list (resultant_of n))) e a = true_false (sym a)
  only_removals (asks (list (resultant_in x y))) e a = true_false (sym a)
  only_removals (asks last_error) e a = true_false (sym a)

  asks_for_needed : AsksForNeeded st line
  unfolding applies any ladder
  asks_for_needed = only_removals (reading line) refl f.itself

-- ---- what stays free

module _ (st st' : State) (e : st'.volatile ≡ st.volatile) (l : st'.level ≡ st.level) (p : st'.position ≡ st.position) where
  ladders_alike : (r : Reading) → ((n : List ℕ) → r ≡ asks (change (remove n)) → ⊥) → reading_ladder st' r ≡ reading_ladder st r
  unfolding reading_ladder request_ladder change_ladder
  ladders_alike unknown other = refl
  ladders_alike malformed other = refl
  ladders_alike beyond other = refl
  ladders_alike (asks (change (define k n t u))) other = rw (e, l) refl
  ladders_alike (asks (change (locate n))) other = rw (e, p) refl
  ladders_alike (asks (change (link x y))) other = rw (e, l) refl
  ladders_alike (asks (change (copy s d))) other = rw (e, l) refl
  ladders_alike (asks (change (remove n))) other = absurd (other n refl)
  ladders_alike (asks (change (enable n))) other = rw (e, l) refl
  ladders_alike (asks (change (set_level n))) other = refl
  ladders_alike (asks (change save)) other = refl
  ladders_alike (asks (change restore)) other = rw l refl
  ladders_alike (asks (change reset)) other = rw l refl
  ladders_alike (asks (list q)) other = rw e refl
  ladders_alike (asks last_error) other = refl

others_stay_free : OthersStayFree
unfolding refusal ladder
others_stay_free st st' w w' e l p line b other =
    step_number st' line b w'
    ∙ ap (λ rungs. first ((2, short b) ∷ (3, unreadable line) ∷ rungs)) (ladders_alike st st' e l p (reading line) other)
    ∙ sym (step_number st line b w)

-- ---- what an accepted KRM leaves

module _ (n : List ℕ) where
  -- where no save found it in use, the permanent memory has it in use no more than before
  unsaved : (st : State) (cs : List Call) → under_enabled st.permanent n ≡ false → never_saved_in_use n st cs ≡ true → under_enabled (after_calls st cs).permanent n ≡ false
  unfolding after_calls never_saved_in_use
  unsaved st [] u e = u
  unsaved st (c ∷ cs) u e =
      let s = and_split (not (saves st c && under_enabled st.volatile n)) (never_saved_in_use n (called st c) cs) e in
      unsaved (called st c) cs (rw (call_permanent st c) (one (saves st c) s.0)) s.1
    where
      one : (t : Bool) → not (t && under_enabled st.volatile n) ≡ true → under_enabled (cond t st.volatile st.permanent) n ≡ false
      one true h = not-true _ h
      one false h = u

module _ (st : State) (w : well_formed st ≡ true) (line b a : List ℕ) (r : AsksToRemove line a) (z : (stepped st line b).number ≡ 0) where
  abbrev v : Memory
  v = st.volatile

  v_fine : Fine v
  v_fine = fine_of v (state_of_lem st w).volatile

  abbrev st' : State
  st' = (stepped st line b).state

  accepted : refusal st line b ≡ 0
  accepted = sym (step_number st line b w) ∙ z

  -- no number applies
  off : Clear (change_ladder st v (remove a))
  unfolding reading_ladder request_ladder
  off = rw r at (clear_of st line b accepted)

  removed : st' ≡ with_volatile st (removed_at v (place_named v.systems a))
  unfolding carried_out next changed
  removed = ap (λ (o : Outcome). o.state) (step_taken st w line b (asks (change (remove a))) r accepted)

  kept : st'.permanent ≡ st.permanent
  kept = ap (λ (t : State). t.permanent) removed

  not_needed : under_enabled st.permanent a ≡ false
  unfolding change_ladder applies any
  not_needed =
      sym (by_frames st.permanent (fine_of st.permanent (state_of_lem st w).permanent) a (or_false (reserved a) false (off 8)).0)
      ∙ (or_false (name_in_use st.permanent a) false (off 20)).0

  user : is_user v a ≡ true
  unfolding change_ladder applies any
  user = present_user v a (or_false (absent v a) false (off 7)).0 (or_false (reserved a) false (off 8)).0

  stays : (n : List ℕ) → under_enabled st.permanent n ≡ true → is_user v n ≡ true → is_user st'.volatile n ≡ true
  unfolding change_ladder applies any there?
  stays n u found = ⊎_elim (λ e. true_false (sym u ∙ ap (under_enabled st.permanent) (same→≡ n a e) ∙ not_needed)) other (either (same n a))
    where
      m' : Memory
      m' = removed_at v (place_named v.systems a)

      other : same n a ≡ false → is_user st'.volatile n ≡ true
      other d =
          let present : there? (find v n) ≡ true = rw (find_user v n found) refl in
          let unused = (or_false (name_in_use v a) _ (off 11)).0 in
          let still = (removal_mends v (state_of_lem st w).volatile a user unused n (λ e. true_false (sym (≡→same e) ∙ d)) present).present in
          rw removed (present_user m' n (ap not still) (user_name_free v v_fine n found))

  -- what went is not in use in the permanent memory
  gone : (n : List ℕ) → TakenAway st st' n → under_enabled st'.permanent n ≡ false
  gone n t = rw kept (⊎_elim (λ u. true_false (sym (stays n u t.0) ∙ t.1)) (λ u. u) (either (under_enabled st.permanent n)))

  -- and no start brings it into use
  module _ (n : List ℕ) (t : TakenAway st st' n) (calls : List Call) (e : never_saved_in_use n st' calls ≡ true) where
    abbrev end : State
    end = after_calls st' calls

    end_fine : well_formed end ≡ true
    end_fine = well_formed_kept.calls st' calls (well_formed_kept.line st line b w)

    restarts : under_enabled (restart end).state.volatile n ≡ false
    restarts = rw (restart_fine end end_fine) (unsaved n st' calls (gone n t) e)

    starts : (c : List ℕ) → buffer_limit ≤ length c → under_enabled (switched_on (write_image end c)).volatile n ≡ false
    starts c room = ap (λ (o : Begun). under_enabled o.state.volatile n) (image_back end end_fine c room) ∙ unsaved n st' calls (gone n t) e

  nothing_needed : TakesNothingNeeded a st (stepped st line b).state
  unfolding after_calls never_saved_in_use
  nothing_needed = record { goes = (user, rw removed (removed_name v v_fine a user)); stays = stays; next = λ n t. restarts n t [] refl; later = restarts; starts = starts }

-- ---- saving frees it

-- only WPA asks to save
asked_save : (r : Reading) → asks_to_save r ≡ true → r ≡ asks (change save)
unfolding asks_to_save
asked_save unknown e = true_false (sym e)
asked_save malformed e = true_false (sym e)
asked_save beyond e = true_false (sym e)
asked_save (asks (change (define k n t u))) e = true_false (sym e)
asked_save (asks (change (locate n))) e = true_false (sym e)
asked_save (asks (change (link x y))) e = true_false (sym e)
asked_save (asks (change (copy s d))) e = true_false (sym e)
asked_save (asks (change (remove n))) e = true_false (sym e)
asked_save (asks (change (enable n))) e = true_false (sym e)
asked_save (asks (change (set_level n))) e = true_false (sym e)
asked_save (asks (change save)) e = refl
asked_save (asks (change restore)) e = true_false (sym e)
asked_save (asks (change reset)) e = true_false (sym e)
asked_save (asks (list q)) e = true_false (sym e)
asked_save (asks last_error) e = true_false (sym e)

-- a KRM to which 7, 8, 11 and 20 do not apply
only_three : (st : State) (n line b : List ℕ) → AsksToRemove line n → absent st.volatile n ≡ false → reserved n ≡ false → name_in_use st.volatile n ≡ false →
    name_in_use st.permanent n ≡ false → refusal st line b ≡ unheld st n line b
unfolding refusal ladder reading_ladder request_ladder change_ladder first
only_three st n line b r seven eight eleven twenty = rw r (rw (seven, eight, eleven, twenty) refl)

-- these three are not 11 nor 20
low_number : (a b c : Bool) → first ((2, a) ∷ (3, b) ∷ (9, c) ∷ []) ≤ 9
unfolding first
low_number true b c = omega arith
low_number false true c = omega arith
low_number false false true = omega arith
low_number false false false = omega arith

module _ (st : State) (w : well_formed st ≡ true) (wpa b : List ℕ) (s : asks_to_save (reading wpa) ≡ true) (z : (stepped st wpa b).number ≡ 0) where
  abbrev after : State
  after = (stepped st wpa b).state

  -- the volatile memory in both places, and all else as it was
  saved : after ≡ record { volatile = st.volatile; permanent = st.volatile; position = st.position; level = st.level; error = st.error }
  unfolding carried_out next changed
  saved = ap (λ (o : Outcome). o.state) (step_taken st w wpa b (asks (change save)) (asked_save (reading wpa) s) (sym (step_number st wpa b w) ∙ z))

  volatile_is : after.volatile ≡ st.volatile
  volatile_is = ap (λ (t : State). t.volatile) saved

  module _ (n : List ℕ) (found : is_user st.volatile n ≡ true) (unused : under_enabled st.volatile n ≡ false) (line c : List ℕ) (r : AsksToRemove line n) where
    fine_v : Fine st.volatile
    fine_v = fine_of st.volatile (state_of_lem st w).volatile

    free : reserved n ≡ false
    free = user_name_free st.volatile fine_v n found

    exactly : (stepped after line c).number ≡ unheld after n line c
    unfolding there?
    exactly =
        step_number after line c (well_formed_kept.line st wpa b w)
        ∙ only_three after n line c r
        (rw (volatile_is, find_user st.volatile n found) refl)
        free
        (rw volatile_is (by_frames st.volatile fine_v n free ∙ unused))
        (rw (saved_line st wpa b s z) (by_frames st.volatile fine_v n free ∙ unused))

    freed : Freed after n line c (stepped after line c).number
    freed =
        let low = low_number (short c) (unreadable line) (locked after.level (named after.volatile n).group) in
        record { not_eleven = λ e. omega (arith, exactly, low, e); not_twenty = λ e. omega (arith, exactly, low, e); exactly = exactly }

-- ---- stored states

-- the volatile memory of a stored state that stands for one of the machine
volatile_of : (s : StoredState) (st : State) → view_of s ≡ holds st → memory_of s.volatile ≡ st.volatile
volatile_of s st h = ap (λ (x : State). x.volatile) (view_is s st h).1

module _ (s : StoredState) (f : FineState s) where
  abbrev of : State
  of = state_of s

  held : view_of s ≡ holds of
  held = view_holds s f.shape

  stored_refused : StoredRefused s
  unfolding tried_before before any
  stored_refused n found u line b r p asked =
      let h = refused_while_saved of f.formed n found u line b asked in
      let number = line_number s of held line b r p in (
        λ z. true_false (sym (rw (sym number ∙ z) at h.refused)),
        line_state s of held line b r p ∙ ap holds (h.kept ∙ ap (with_error of) (sym number)),
      )

  stored_removes : StoredRemoves s
  stored_removes line b a r p asked z n was lost calls s' history never =
      let next = (stepped of line b).state in
      let h = line_state s of held line b r p in
      let zero = sym (line_number s of held line b r p) ∙ z in
      let away : TakenAway of next n = (was, ap (λ (m : Memory). is_user m n) (sym (volatile_of r.state next h)) ∙ lost) in
      let never' : never_saved_in_use n next calls ≡ true = rw (view_is r.state next h).1 at never in
      let end = after_calls next calls in
      let unused : under_enabled end.permanent n ≡ false = unsaved n next calls (gone of f.formed line b a asked zero n away) never' in
      let fine : well_formed end ≡ true = well_formed_kept.calls next calls (well_formed_kept.line of line b f.formed) in
      let back = stored_back s' end (calls_held next h history) end.permanent (permanent_back end fine) in
      record {
        restarts = λ r' p'. rw (volatile_of r'.state (started end.permanent) (ap (λ (x : Restarted). x.state) (back.restarts r' p'))) unused;
        starts = λ c w p' room r' p''. rw (volatile_of r'.state (started end.permanent) (ap (λ (x : Restarted). x.state) (back.starts c w p' room r' p''))) unused;
      }

  stored_frees : StoredFrees s
  stored_frees n found unused wpa b r p s' z line c r' p' asked =
      let after = (stepped of wpa b).state in
      let h = line_state s of held wpa b r p in
      let free = freed of f.formed wpa b s' (sym (line_number s of held wpa b r p) ∙ z) n found unused line c asked in
      rw ((view_is r.state after h).1, line_number r.state after h line c r' p') free

pub next_start : NextStart
unfolding tried_before before any
next_start =
    record {
      order = (refl, refl);
      refused = refused_while_saved;
      only = λ st w line b e. asks_for_needed st w line b (((number_exact st line b).others w 20 (omega arith)).0 e);
      others = others_stay_free;
      removes = nothing_needed;
      frees = λ st w n found unused wpa b s z line c r. freed st w wpa b s z n found unused line c r;
      stored_refused = stored_refused;
      stored_removes = stored_removes;
      stored_frees = stored_frees;
    }
