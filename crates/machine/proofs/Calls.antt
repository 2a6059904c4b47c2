-- What the public calls give in a well-formed state, and what a start gives.
use Prim.Native.Nat.{ℕ}
use mathlib.Core.Path.{◌≡◌, refl, sym, ap, ◌∙◌}
use mathlib.Core.List.{List}
use mathlib.Core.Option.{some, none}
use mathlib.Core.Bool.{true, false}
use Rattle.model.specs.declared.Position.{Position}
use Rattle.model.specs.declared.State.{State as StoredState}
use Rattle.model.specs.declared.Memory.{Memory as StoredMemory}
use Rattle.model.specs.Memory.{Memory, started}
use Rattle.model.specs.Stage.{position_fine}
use Rattle.model.specs.Refusals.{short}
use Rattle.model.specs.Image.{image, accepted}
use Rattle.std.specs.Prelude.{Ok, Err}
use Rattle.facts.specs.declared.refusals.Refusal.{Refusal}
use Rattle.facts.specs.declared.refusals.Refusal.TheVariants.{Beyond}
use Rattle.facts.specs.Refusals.{number_of}
use Rattle.model.specs.Told.{Told, or_number}
use Rattle.model.specs.Lists.{Search}
use Rattle.model.specs.Use.{use_test}
use Rattle.model.specs.Machine.{stepped, write_image, start_image, start_factory, positioned, answered, tells_use}
use Rattle.model.specs.Stored.{FineState, holds, of_outcome, of_begun, Restarted, memory_shaped, shaped, state_of, memory_of, view_of, line_answer, image_answer, restart_answer, position_answer, use_answer}
use Rattle.model.proofs.Ladder.Exact.{start_none, start_some, use_fine}
use Rattle.model.proofs.Ladder.Refusing.{restart_fine, image_short, image_fine, position_beyond, position_taken}
use Rattle.image.specs.Accepted.{Answers}
use Rattle.machine.specs.Calls.{started_with, begun_of}
use Rattle.memory.proofs.Shape.{shape_both, shape_parts}
use Rattle.model.proofs.Told.{told_value}
use Rattle.model.proofs.Views.{view_holds}

module _ (s : StoredState) (f : FineState s) where
  pub line_fine : (l b : List ℕ) → line_answer (view_of s) l b ≡ of_outcome (stepped (state_of s) l b)
  unfolding line_answer
  line_fine l b = rw (view_holds s f.shape) refl

  image_is : (b : List ℕ) → image_answer (view_of s) b ≡ of_outcome (write_image (state_of s) b)
  unfolding image_answer
  image_is b = rw (view_holds s f.shape) refl

  -- [Error 2]
  pub image_refused : (b : List ℕ) → short b ≡ true → record { state = view_of s; number = 2; count = 0; buffer = b } ≡ image_answer (view_of s) b
  image_refused b e = rw (image_is b, image_short (state_of s) b f.formed e, view_holds s f.shape) refl

  -- [Image] accepted: the image of the permanent memory
  pub image_taken : (b c : List ℕ) (n : ℕ) → short b ≡ false → c ≡ (answered (state_of s) (image (state_of s).permanent) b).buffer →
      n ≡ (answered (state_of s) (image (state_of s).permanent) b).count → record { state = view_of s; number = 0; count = n; buffer = c } ≡ image_answer (view_of s) b
  image_taken b c n e p q = rw (image_is b, image_fine (state_of s) b f.formed e, view_holds s f.shape, p, q) refl

  -- [02 §2] the question of use, by what the test gives
  pub use_taken : (n : List ℕ) (t : Search) → t ≡ use_test (state_of s).volatile n → tells_use t ≡ use_answer (view_of s) n
  unfolding use_answer
  use_taken n t e = rw (view_holds s f.shape) (ap tells_use e ∙ sym (use_fine (state_of s) n f.formed))

-- ---- the position

module _ (s : StoredState) (f : FineState s) (p : Position) where
  position_is : position_answer (view_of s) p ≡ of_begun (positioned (state_of s) p)
  unfolding position_answer
  position_is = rw (view_holds s f.shape) refl

  -- [Error 6]
  pub position_refused : position_fine p ≡ false → begun_of (record { state = s; outcome = Err Beyond }) ≡ position_answer (view_of s) p
  position_refused e = rw (position_is, position_beyond (state_of s) p f.formed e, view_holds s f.shape) refl

  -- [02 §1] accepted: the position alone is another
  pub position_told : position_fine p ≡ true →
      begun_of (record { state = record { volatile = s.volatile; permanent = s.permanent; position = p; level = s.level; error = s.error }; outcome = Ok tt }) ≡ position_answer (view_of s) p
  unfolding shaped
  position_told e =
      let moved : StoredState = record { volatile = s.volatile; permanent = s.permanent; position = p; level = s.level; error = s.error } in
      rw (position_is, position_taken (state_of s) p f.formed e) (ap {B = Restarted} (λ v. record { state = v; number = 0 }) (view_holds moved f.shape))

-- ---- starts

pub start_holds : (m : StoredMemory) → memory_shaped m ≡ true → view_of (started_with m) ≡ holds (started (memory_of m))
start_holds m p = view_holds (started_with m) (shape_both (started_with m) p p)

-- [Memory 4] a restart that is taken
pub restart_taken : (s : StoredState) → FineState s → begun_of (record { state = started_with s.permanent; outcome = Ok tt }) ≡ restart_answer (view_of s)
unfolding restart_answer
restart_taken s f = rw (view_holds s f.shape, start_holds s.permanent (shape_parts s f.shape).1, restart_fine (state_of s) f.formed) refl

module _ (bs : List ℕ) where
  -- [Image] accepted
  pub start_taken : (m : StoredMemory) → Answers bs (Ok m) → record { state = view_of (started_with m); number = 0 } ≡ of_begun (start_image bs)
  start_taken m a =
      let is : accepted bs ≡ some (memory_of m) = told_value 14 _ _ a.told in
      rw (start_some bs (memory_of m) is, start_holds m a.shaped) refl

  -- [Error 14]
  pub start_refused : (why : Refusal) → Answers bs (Err why) → (s : StoredState) → view_of s ≡ holds start_factory →
      record { state = view_of s; number = number_of why } ≡ of_begun (start_image bs)
  unfolding or_number
  start_refused why a s e =
      let is : accepted bs ≡ none = told_value 14 _ _ a.told in
      let n : number_of why ≡ 14 = ap (λ (t : Told Memory). t.number) (rw is at a.told) in
      rw (start_none bs is, e, n) refl
