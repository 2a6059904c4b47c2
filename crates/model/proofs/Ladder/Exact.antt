-- The number of a call is exact: the first that applies, and only if one does.
use Prim.Native.Nat.{ℕ, ◌≤◌}
use mathlib.Core.Path.{◌≡◌, sym, ap, ◌∙◌}
use mathlib.Core.Bool.{true, false}
use mathlib.Core.List.{List}
use mathlib.Core.Option.{none, some}
use mathlib.Core.Logic.{⊎_elim, ◌↔◌}
use native.Mathlib.Omega.{arith}
use Rattle.model.specs.Memory.{Memory, State, started}
use Rattle.model.specs.WellFormed.{well_formed}
use Rattle.model.specs.Refusals.{refusal, ladder}
use Rattle.model.specs.Image.{accepted}
use Rattle.model.specs.Use.{use_test}
use Rattle.model.specs.Machine.{Outcome, began, stepped, start_factory, start_image, tells_use, refuses_use, ask_use}
use Rattle.model.specs.Claims.{applies, FirstToApply, NumberExact, OtherNumbersExact}
use Rattle.model.proofs.Basics.{either}
use Rattle.model.proofs.Ladder.First.{once, clear, ladder_ordered, first_applies, first_only, first_zero, of_line_low}
use Rattle.model.proofs.Ladder.Refusing.{step_ill, step_number, refusal_of_line, restart_ill, restart_fine, image_ill, image_short, image_fine, position_ill, position_beyond, position_taken}

-- ---- a line

module _ (st : State) (line b : List ℕ) where
  one_exact : (stepped st line b).number ≡ 1 ↔ well_formed st ≡ false
  one_exact = (λ e. ⊎_elim (λ w. absurd (never w e)) (λ w. w) (either (well_formed st)), λ w. ap (λ (o : Outcome). o.number) (step_ill st line b w))
    where
      never : well_formed st ≡ true → (stepped st line b).number ≡ 1 → ⊥
      never w e = let n = step_number st line b w in let r = of_line_low _ (refusal_of_line st line b (λ z. omega arith)) in omega arith

  module _ (w : well_formed st ≡ true) where
    others_exact : (n : ℕ) → 2 ≤ n → (stepped st line b).number ≡ n ↔ FirstToApply n (ladder st line b)
    unfolding refusal
    others_exact n h =
        let s = step_number st line b w in
        let a = ladder_ordered st line b in
        (λ e. rw (← e, s) (first_applies (ladder st line b) a (λ z. omega arith)), λ f. s ∙ first_only (ladder st line b) a n f)

    taken_exact : (stepped st line b).number ≡ 0 ↔ ((n : ℕ) → applies n (ladder st line b) ≡ false)
    unfolding refusal
    taken_exact =
        let s = step_number st line b w in
        let a = ladder_ordered st line b in
        (λ e. clear (ladder st line b) a (sym s ∙ e), λ f. s ∙ first_zero (ladder st line b) a f)

  pub number_exact : NumberExact st line b
  number_exact =
      record {
        one = one_exact;
        others = others_exact;
        accepted = taken_exact;
        ordered = ladder_ordered st line b;
        once = once;
      }

-- ---- a start from an image

pub start_none : (bytes : List ℕ) → accepted bytes ≡ none → start_image bytes ≡ began start_factory 14
unfolding start_image
start_none bytes e = rw (e, start_image)

pub start_some : (bytes : List ℕ) (m : Memory) → accepted bytes ≡ some m → start_image bytes ≡ began (started m) 0
unfolding start_image
start_some bytes m e = rw (e, start_image)

-- ---- the question of use

pub use_ill : (st : State) (n : List ℕ) → well_formed st ≡ false → ask_use st n ≡ refuses_use
unfolding ask_use
use_ill st n w = rw (w, ask_use)

pub use_fine : (st : State) (n : List ℕ) → well_formed st ≡ true → ask_use st n ≡ tells_use (use_test st.volatile n)
unfolding ask_use
use_fine st n w = rw (w, ask_use)

pub other_numbers_exact : OtherNumbersExact
other_numbers_exact =
    record {
      restart_one = restart_ill;
      restart_taken = restart_fine;
      image_one = image_ill;
      image_two = image_short;
      image_taken = image_fine;
      start_refused = start_none;
      start_taken = start_some;
      position_one = position_ill;
      position_six = position_beyond;
      position_taken = position_taken;
      use_one = use_ill;
      use_taken = use_fine;
    }
