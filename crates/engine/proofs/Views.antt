-- Laws of stored states and what they stand for: where a state stands for one of the machine, and where a call is refused with 1.
use Prim.Native.Nat.{ℕ}
use mathlib.Core.Path.{◌≡◌, refl, ap}
use mathlib.Core.List.{List}
use mathlib.Core.Bool.{true, false, ◌&&◌}
use mathlib.Core.Logic.{⊎_elim}
use Rattle.model.specs.declared.Position.{Position}
use Rattle.model.specs.declared.State.{State as StoredState}
use Rattle.model.specs.WellFormed.{well_formed}
use Rattle.model.specs.Stored.{FineState, FineMemory, of_outcome, of_begun, shaped, state_of, view_of, line_answer, image_answer, restart_answer, position_answer, use_answer}
use Rattle.model.specs.Machine.{refuses_use}
use Rattle.model.proofs.Basics.{and_split, either}
use Rattle.model.proofs.Views.{view_holds, view_shapeless}
use Rattle.model.proofs.Memories.Fine.{state_of_lem}
use Rattle.model.proofs.Ladder.Refusing.{step_ill}
use Rattle.memory.proofs.Shape.{shape_parts}
use Rattle.model.proofs.Ladder.Exact.{other_numbers_exact}
use Rattle.engine.specs.declared.answer.Stepped.{Stepped}
use Rattle.facts.specs.Refusals.{outcome}
use Rattle.engine.specs.Answers.{written_by, answered_of}

pub fine_of : (s : StoredState) → shaped s && well_formed (state_of s) ≡ true → FineState s
fine_of s e = let p = and_split (shaped s) (well_formed (state_of s)) e in record { shape = p.0; formed = p.1 }

-- the volatile memory of such a state
pub fine_volatile : (s : StoredState) → FineState s → FineMemory s.volatile
fine_volatile s f = record { shape = (shape_parts s f.shape).0; formed = (state_of_lem (state_of s) f.formed).volatile }

-- ---- a state that is not well formed: with 1, and all as it was

module _ (s : StoredState) (ill : shaped s && well_formed (state_of s) ≡ false) where
  -- by shape, or by what it stands for
  parted : {A : Type 0} → (shaped s ≡ false → A) → (shaped s ≡ true → well_formed (state_of s) ≡ false → A) → A
  parted f g = ⊎_elim (λ e. g e (rw e at ill)) f (either (shaped s))

  pub ill_restart : restart_answer (view_of s) ≡ record { state = view_of s; number = 1 }
  unfolding restart_answer
  ill_restart =
      parted
      (λ e. rw (view_shapeless s e) refl)
      (λ e w. rw (view_holds s e) (ap of_begun (other_numbers_exact.restart_one (state_of s) w)))

  pub ill_position : (p : Position) → position_answer (view_of s) p ≡ record { state = view_of s; number = 1 }
  unfolding position_answer
  ill_position p =
      parted
      (λ e. rw (view_shapeless s e) refl)
      (λ e w. rw (view_holds s e) (ap of_begun (other_numbers_exact.position_one (state_of s) p w)))

  pub ill_line : (l b : List ℕ) → line_answer (view_of s) l b ≡ record { state = view_of s; number = 1; count = 0; buffer = b }
  unfolding line_answer
  ill_line l b =
      parted
      (λ e. rw (view_shapeless s e) refl)
      (λ e w. rw (view_holds s e) (ap of_outcome (step_ill (state_of s) l b w)))

  pub ill_image : (b : List ℕ) → image_answer (view_of s) b ≡ record { state = view_of s; number = 1; count = 0; buffer = b }
  unfolding image_answer
  ill_image b =
      parted
      (λ e. rw (view_shapeless s e) refl)
      (λ e w. rw (view_holds s e) (ap of_outcome (other_numbers_exact.image_one (state_of s) b w)))

  pub ill_use : (n : List ℕ) → use_answer (view_of s) n ≡ refuses_use
  unfolding use_answer
  ill_use n = parted (λ e. rw (view_shapeless s e)) (λ e w. rw (view_holds s e) (other_numbers_exact.use_one (state_of s) n w))

-- ---- answers

-- an answer whose state has shape
pub answer_holds : (r : Stepped) (b : List ℕ) → shaped r.state ≡ true →
    answered_of r b ≡ of_outcome (record { state = state_of r.state; number = outcome r.outcome; count = written_by r.outcome; buffer = b })
answer_holds r b e = rw (view_holds r.state e) refl
