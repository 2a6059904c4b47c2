-- The checklist's third item: what is in use is neither redefined, linked, copied over nor removed.
use Prim.Native.Nat.{ℕ, ◌≤◌}
use mathlib.Core.Path.{◌≡◌, sym, ap, ◌∙◌}
use mathlib.Core.List.{List}
use mathlib.Core.Bool.{true, false}
use native.Mathlib.Omega.{arith}
use Rattle.model.specs.Lists.{any}
use Rattle.model.specs.Memory.{Memory, State}
use Rattle.model.specs.Use.{name_in_use}
use Rattle.model.specs.Words.{reserved}
use Rattle.model.specs.WellFormed.{well_formed}
use Rattle.model.specs.Request.{Change, reading, asks, change, define, link, copy, remove, enable, set_level, save, restore, reset, locate}
use Rattle.model.specs.Refusals.{Rung, refusal, ladder, reading_ladder, request_ladder, change_ladder}
use Rattle.model.specs.Machine.{stepped}
use Rattle.model.specs.Claims.{applies}
use Rattle.model.specs.Checklist.{touches, under_enabled, HeldFast, RefusedUnderEnabled}
use Rattle.model.proofs.Basics.{or_left, true_false, same→≡}
use Rattle.model.proofs.Memories.Fine.{Fine, state_of_lem, fine_of}
use Rattle.model.proofs.Memories.Found.{user_name_free}
use Rattle.model.proofs.Histories.InUse.{says_the_same, under_enabled_lem}
use Rattle.model.proofs.Ladder.First.{Ordered, clear, ladder_ordered, first_only, first_up_to, of_line_low}
use Rattle.model.proofs.Ladder.Refusing.{step_number, refusal_of_line, refusals_change_nothing}

-- of a name that a user system may have: what the ladder asks of its place is what the test for use says, and so whether an enabled frame has it
pub by_frames : (m : Memory) → Fine m → (n : List ℕ) → reserved n ≡ false → name_in_use m n ≡ under_enabled m n
by_frames m fine n free = sym ((says_the_same m fine).old n free) ∙ under_enabled_lem m n

-- ---- the refusal

-- a change of that system meets rung 11
touched_eleven : (st : State) (n : List ℕ) → name_in_use st.volatile n ≡ true → (c : Change) → touches c n ≡ true →
    applies 11 (change_ladder st st.volatile c) ≡ true
unfolding touches applies any change_ladder
touched_eleven st n u (define k d t v) e = or_left (name_in_use st.volatile d) _ (ap (name_in_use st.volatile) (same→≡ d n e) ∙ u)
touched_eleven st n u (locate d) e = or_left (name_in_use st.volatile d) _ (ap (name_in_use st.volatile) (same→≡ d n e) ∙ u)
touched_eleven st n u (link d b) e = or_left (name_in_use st.volatile d) _ (ap (name_in_use st.volatile) (same→≡ d n e) ∙ u)
touched_eleven st n u (copy s d) e = or_left (name_in_use st.volatile d) _ (ap (name_in_use st.volatile) (same→≡ d n e) ∙ u)
touched_eleven st n u (remove d) e = or_left (name_in_use st.volatile d) _ (ap (name_in_use st.volatile) (same→≡ d n e) ∙ u)
touched_eleven st n u (enable d) e = true_false (sym e)
touched_eleven st n u (set_level d) e = true_false (sym e)
touched_eleven st n u save e = true_false (sym e)
touched_eleven st n u restore e = true_false (sym e)
touched_eleven st n u reset e = true_false (sym e)

ladder_eleven : (st : State) (line b : List ℕ) (c : Change) → reading line ≡ asks (change c) → applies 11 (change_ladder st st.volatile c) ≡ true →
    applies 11 (ladder st line b) ≡ true
unfolding applies any ladder reading_ladder request_ladder
ladder_eleven st line b c r e = rw r e

-- where a number applies, it or one that is tried before it is given
pub held_fast : (n : ℕ) (st : State) → well_formed st ≡ true → (line b : List ℕ) → applies n (ladder st line b) ≡ true → HeldFast n st line b
unfolding refusal
held_fast n st w line b e =
    record {
      refused = rw num (first_up_to rungs up n e);
      itself = λ none. num ∙ first_only rungs up n (record { itself = e; none_before = none });
      kept = refusals_change_nothing.others st line b (omega (arith, num, low));
    }
  where
    rungs : List Rung
    rungs = ladder st line b

    up : Ordered rungs
    up = ladder_ordered st line b

    num : (stepped st line b).number ≡ refusal st line b
    num = step_number st line b w

    some : refusal st line b ≡ 0 → ⊥
    some z = true_false (sym e ∙ clear rungs up z n)

    low : 2 ≤ refusal st line b
    low = of_line_low _ (refusal_of_line st line b some)

pub refused_under_enabled : (st : State) → well_formed st ≡ true → RefusedUnderEnabled st
refused_under_enabled st w n found u line b c r t =
    let f = fine_of st.volatile (state_of_lem st w).volatile in
    held_fast 11 st w line b (ladder_eleven st line b c r (touched_eleven st n (by_frames st.volatile f n (user_name_free st.volatile f n found) ∙ u) c t))
