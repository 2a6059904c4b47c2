-- A refused call changes nothing but the last error, and number 1 not even that.
use Prim.Native.Nat.{ℕ, ◌≤◌}
use mathlib.Core.Path.{◌≡◌, refl, sym, ap, ◌∙◌}
use mathlib.Core.Bool.{Bool, true, false}
use mathlib.Core.List.{List, []}
use mathlib.Core.Logic.{⊎_elim}
use native.Mathlib.Omega.{arith}
use borrow.Author.Tests.{eq-eqb, eqb-true, eqb-false}
use lib.Dec.{eqb}
use Rattle.model.specs.Types.{Position}
use Rattle.model.specs.Stage.{position_fine}
use Rattle.model.specs.Memory.{State, restarted}
use Rattle.model.specs.WellFormed.{well_formed}
use Rattle.model.specs.Refusals.{of_line?, refusal, ladder, short}
use Rattle.model.specs.Effects.{with_error, next, with_position}
use Rattle.model.specs.Request.{Reading, reading, unknown, malformed, beyond, asks}
use Rattle.model.specs.Reply.{reply}
use Rattle.model.specs.Image.{image}
use Rattle.model.specs.Machine.{Outcome, Begun, refused, answered, began, carried_out, judged, stepped, restart, write_image, positioned}
use Rattle.model.specs.Claims.{Untouched, RefusalsChangeNothing}
use Rattle.model.proofs.Basics.{either}
use Rattle.model.proofs.Ladder.First.{ladder_ordered, first_of_line, of_line_low}

-- ---- the step by its cases

pub step_ill : (st : State) (line b : List ℕ) → well_formed st ≡ false → stepped st line b ≡ refused st 1 b
unfolding stepped
step_ill st line b w = rw (w, stepped)

pub step_fine : (st : State) (line b : List ℕ) → well_formed st ≡ true → stepped st line b ≡ judged st (refusal st line b) (reading line) b
unfolding stepped
step_fine st line b w = rw (w, stepped)

pub judged_refused : (st : State) (n : ℕ) (r : Reading) (b : List ℕ) → eqb n 0 ≡ false → judged st n r b ≡ refused (with_error st n) n b
unfolding judged
judged_refused st n r b e = rw (e, judged)

pub judged_taken : (st : State) (n : ℕ) (r : Reading) (b : List ℕ) → eqb n 0 ≡ true → judged st n r b ≡ carried_out st r b
unfolding judged
judged_taken st n r b e = rw (e, judged)

-- what is carried out is an answer, of a state and a text that the lent buffer does not tell
pub carried_answers : (st : State) (r : Reading) → (st' : State) × (text : List ℕ) × ((b : List ℕ) → carried_out st r b ≡ answered st' text b)
unfolding carried_out
carried_answers st unknown = (st, [], λ b. refl)
carried_answers st malformed = (st, [], λ b. refl)
carried_answers st beyond = (st, [], λ b. refl)
carried_answers st (asks r) = (next st st.volatile r, reply st st.volatile r, λ b. refl)

pub carried_number : (st : State) (r : Reading) (b : List ℕ) → (carried_out st r b).number ≡ 0
carried_number st r b = ap (λ (o : Outcome). o.number) ((carried_answers st r).2 b)

pub judged_number : (st : State) (n : ℕ) (r : Reading) (b : List ℕ) → (judged st n r b).number ≡ n
judged_number st n r b = go (eqb n 0) refl
  where
    go : (t : Bool) → eqb n 0 ≡ t → (judged st n r b).number ≡ n
    go true e = ap (λ (o : Outcome). o.number) (judged_taken st n r b e) ∙ carried_number st r b ∙ sym (eqb-true n 0 e)
    go false e = ap (λ (o : Outcome). o.number) (judged_refused st n r b e)

pub step_number : (st : State) (line b : List ℕ) → well_formed st ≡ true → (stepped st line b).number ≡ refusal st line b
step_number st line b w = ap (λ (o : Outcome). o.number) (step_fine st line b w) ∙ judged_number st (refusal st line b) (reading line) b

-- a line that nothing refuses is carried out, as what it is read as
pub step_taken : (st : State) → well_formed st ≡ true → (line b : List ℕ) (r : Reading) → reading line ≡ r → refusal st line b ≡ 0 → stepped st line b ≡ carried_out st r b
step_taken st w line b r e z =
    step_fine st line b w ∙ judged_taken st (refusal st line b) (reading line) b (eq-eqb (refusal st line b) 0 z) ∙ ap (λ (x : Reading). carried_out st x b) e

-- a number of a line
pub refusal_of_line : (st : State) (line b : List ℕ) → (refusal st line b ≡ 0 → ⊥) → of_line? (refusal st line b) ≡ true
unfolding refusal
refusal_of_line st line b z = first_of_line (ladder st line b) (ladder_ordered st line b) z

-- ---- refusals change nothing

module _ (st : State) (line b : List ℕ) where
  -- the three ways that a line can go
  pub by_case : (P : Outcome → Type 0) →
      (well_formed st ≡ false → P (refused st 1 b)) →
      ((n : ℕ) → 2 ≤ n → of_line? n ≡ true → P (refused (with_error st n) n b)) →
      (well_formed st ≡ true → refusal st line b ≡ 0 → P (carried_out st (reading line) b)) →
      P (stepped st line b)
  by_case P ill refuse take = ⊎_elim fine (λ w. rw (step_ill st line b w) (ill w)) (either (well_formed st))
    where
      judge : well_formed st ≡ true → (t : Bool) → eqb (refusal st line b) 0 ≡ t → P (judged st (refusal st line b) (reading line) b)
      judge w true e = rw (judged_taken st (refusal st line b) (reading line) b e) (take w (eqb-true (refusal st line b) 0 e))
      judge w false e =
          let r = refusal_of_line st line b (eqb-false (refusal st line b) 0 e) in
          rw (judged_refused st (refusal st line b) (reading line) b e) (refuse (refusal st line b) (of_line_low _ r) r)

      fine : well_formed st ≡ true → P (stepped st line b)
      fine w = rw (step_fine st line b w) (judge w (eqb (refusal st line b) 0) refl)

  line_untouched : ((stepped st line b).number ≡ 0 → ⊥) → Untouched st b (stepped st line b)
  line_untouched =
      by_case (λ o. (o.number ≡ 0 → ⊥) → Untouched st b o)
      (λ w z. left st.error 1)
      (λ n h h' z. left n n)
      (λ w e z. absurd (z (carried_number st (reading line) b)))
    where
      left : (error n : ℕ) → Untouched st b (refused (with_error st error) n b)
      left error n = record { volatile = refl; permanent = refl; position = refl; level = refl; buffer = refl; count = refl }

  line_one : (stepped st line b).number ≡ 1 → (stepped st line b).state ≡ st
  line_one =
      by_case (λ o. o.number ≡ 1 → o.state ≡ st)
      (λ w e. refl)
      (λ n h h' e. absurd (omega arith))
      (λ w z e. absurd (let y = carried_number st (reading line) b in omega arith))

  line_others : 2 ≤ (stepped st line b).number → (stepped st line b).state ≡ with_error st (stepped st line b).number
  line_others =
      by_case (λ o. 2 ≤ o.number → o.state ≡ with_error st o.number)
      (λ w h. absurd (omega arith))
      (λ n h h' e. refl)
      (λ w z h. absurd (let y = carried_number st (reading line) b in omega arith))

-- ---- the calls that are no lines

module _ (st : State) where
  pub restart_ill : well_formed st ≡ false → restart st ≡ began st 1
  unfolding restart
  restart_ill w = rw (w, restart)

  pub restart_fine : well_formed st ≡ true → restart st ≡ began (restarted st) 0
  unfolding restart
  restart_fine w = rw (w, restart)

  restart_untouched : ((restart st).number ≡ 0 → ⊥) → (restart st).state ≡ st
  restart_untouched z =
      ⊎_elim (λ w. absurd (z (ap (λ (o : Begun). o.number) (restart_fine w)))) (λ w. ap (λ (o : Begun). o.state) (restart_ill w)) (either (well_formed st))

  module _ (p : Position) where
    pub position_ill : well_formed st ≡ false → positioned st p ≡ began st 1
    unfolding positioned
    position_ill w = rw (w, positioned)

    pub position_beyond : well_formed st ≡ true → position_fine p ≡ false → positioned st p ≡ began st 6
    unfolding positioned
    position_beyond w f = rw (w, positioned) (rw f)

    pub position_taken : well_formed st ≡ true → position_fine p ≡ true → positioned st p ≡ began (with_position st p) 0
    unfolding positioned
    position_taken w f = rw (w, positioned) (rw f)

    -- the three ways that a position can go
    pub position_case : (P : Begun → Type 0) →
        (well_formed st ≡ false → P (began st 1)) →
        P (began st 6) →
        (well_formed st ≡ true → position_fine p ≡ true → P (began (with_position st p) 0)) →
        P (positioned st p)
    position_case P ill past take =
        ⊎_elim (λ w. ⊎_elim (λ f. rw (position_taken w f) (take w f)) (λ f. rw (position_beyond w f) past) (either (position_fine p)))
        (λ w. rw (position_ill w) (ill w))
        (either (well_formed st))

  module _ (b : List ℕ) where
    pub image_ill : well_formed st ≡ false → write_image st b ≡ refused st 1 b
    unfolding write_image
    image_ill w = rw (w, write_image)

    pub image_short : well_formed st ≡ true → short b ≡ true → write_image st b ≡ refused st 2 b
    unfolding write_image
    image_short w s = rw (w, write_image) (rw s)

    pub image_fine : well_formed st ≡ true → short b ≡ false → write_image st b ≡ answered st (image st.permanent) b
    unfolding write_image
    image_fine w s = rw (w, write_image) (rw s)

    image_case : (P : Outcome → Type 0) → P (refused st 1 b) → P (refused st 2 b) → P (answered st (image st.permanent) b) → P (write_image st b)
    image_case P one two taken =
        ⊎_elim (λ w. ⊎_elim (λ s. rw (image_short w s) two) (λ s. rw (image_fine w s) taken) (either (short b)))
        (λ w. rw (image_ill w) one)
        (either (well_formed st))

pub refusals_change_nothing : RefusalsChangeNothing
refusals_change_nothing =
    record {
      lines = line_untouched;
      one = line_one;
      others = line_others;
      restarts = restart_untouched;
      positions = λ st p. position_case st p (λ o. (o.number ≡ 0 → ⊥) → o.state ≡ st) (λ w z. refl) (λ z. refl) (λ w f z. absurd (z refl));
      images = λ st b. image_case st b (λ o. (o.number ≡ 0 → ⊥) → o ≡ refused st o.number b) (λ z. refl) (λ z. refl) (λ z. absurd (z refl));
      image_keeps = λ st b. image_case st b (λ o. o.state ≡ st) refl refl refl;
    }
