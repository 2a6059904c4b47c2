-- KRM: what the volatile memory tells, and the number that the permanent one has to say.
use Prim.Native.Nat.{ℕ, ◌<◌, ◌≤◌}
use mathlib.Core.Path.{◌≡◌, refl, sym, ap, ◌∙◌}
use mathlib.Core.Bool.{Bool, true, false, cond, ◌&&◌}
use mathlib.Core.List.{List, [], ◌∷◌}
use mathlib.Core.Logic.{⊎_elim}
use native.Mathlib.Omega.{arith}
use lib.Dec.{eqb}
use lib.ListN.{length, drop}
use Rattle.std.specs.Prelude.{Result, Ok}
use Rattle.model.specs.declared.System.{System as StoredSystem}
use Rattle.model.specs.declared.State.{State as StoredState}
use Rattle.model.specs.Lists.{all, any, kept}
use Rattle.model.specs.Memory.{Memory, State, place_named, is_user}
use Rattle.model.specs.Use.{name_in_use}
use Rattle.model.specs.Words.{reserved}
use Rattle.model.specs.Request.{asks, change, remove}
use Rattle.model.specs.Refusals.{precedence, first, change_ladder, absent}
use Rattle.model.specs.Claims.{applies, in_order}
use Rattle.model.specs.Checklist.{asks_to_save}
use Rattle.model.specs.Effects.{with_volatile, removed_at, changed}
use Rattle.model.specs.Machine.{answered}
use Rattle.model.specs.Stored.{system_of, systems_of, memory_of, state_of, name_shaped}
use Rattle.model.proofs.Basics.{either, or_false, and_false}
use Rattle.model.proofs.Ladder.First.{none_applies}
use Rattle.model.proofs.Memories.Named.{present_user, user_place, place_within}
use Rattle.facts.specs.declared.refusals.Refusal.{Refusal}
use Rattle.commands.specs.declared.changed.Deed.{Deed}
use Rattle.commands.specs.declared.changed.Deed.TheVariants.{Remove}
use Rattle.commands.specs.Done.{done, saving, saving_by, settle, Fits, number_in, outcome_of, Decides}
use Rattle.commands.specs.Obeyed.{obeyed}
use Rattle.commands.specs.Subject.{without_twenty}
use Rattle.commands.proofs.Carried.{obeyed_refused, obeyed_accepted}

-- ---- 20 behind the four numbers of the volatile memory

refused_before : (a b c d e : Bool) → (first ((7, a) ∷ (8, b) ∷ (9, c) ∷ (11, d) ∷ []) ≡ 0 → ⊥) →
    first ((7, a) ∷ (8, b) ∷ (9, c) ∷ (11, d) ∷ []) ≡ first ((7, a) ∷ (8, b) ∷ (9, c) ∷ (11, d) ∷ (20, e) ∷ [])
unfolding first
refused_before true b c d e z = refl
refused_before false true c d e z = refl
refused_before false false true d e z = refl
refused_before false false false true e z = refl
refused_before false false false false e z = absurd (z refl)

left_to_twenty : (a b c d e : Bool) → first ((7, a) ∷ (8, b) ∷ (9, c) ∷ (11, d) ∷ []) ≡ 0 →
    cond e 20 0 ≡ first ((7, a) ∷ (8, b) ∷ (9, c) ∷ (11, d) ∷ (20, e) ∷ [])
unfolding first
left_to_twenty true b c d e z = absurd (omega arith)
left_to_twenty false true c d e z = absurd (omega arith)
left_to_twenty false false true d e z = absurd (omega arith)
left_to_twenty false false false true e z = absurd (omega arith)
left_to_twenty false false false false true z = refl
left_to_twenty false false false false false z = refl

module _ (st : State) (a : List ℕ) where
  abbrev m : Memory
  m = st.volatile

  -- the number that the volatile memory tells
  abbrev told : ℕ
  told = first (without_twenty (change_ladder st m (remove a)))

  pub refused_by_volatile : (told ≡ 0 → ⊥) → told ≡ first (change_ladder st m (remove a))
  unfolding change_ladder kept
  refused_by_volatile z = refused_before _ _ _ _ (name_in_use st.permanent a) z

  left_to_permanent : told ≡ 0 → cond (name_in_use st.permanent a) 20 0 ≡ first (change_ladder st m (remove a))
  unfolding change_ladder kept
  left_to_permanent z = left_to_twenty _ _ _ _ (name_in_use st.permanent a) z

  -- what may be removed is a user system
  pub remove_user : told ≡ 0 → is_user m a ≡ true
  unfolding change_ladder kept in_order applies all any
  remove_user e =
      let off = none_applies (drop 2 precedence) (without_twenty (change_ladder st m (remove a))) refl refl e in
      present_user m a (or_false (absent m a) _ (off 7)).0 (or_false (reserved a) _ (off 8)).0

-- ---- what is decided

module _ (s : StoredState) (a : List ℕ) (z : first (without_twenty (change_ladder (state_of s) (memory_of s.volatile) (remove a))) ≡ 0) (k : ℕ) (x : StoredSystem)
    (place : k ≡ place_named (systems_of s.volatile) a) (name : (system_of x).name ≡ a) where
  abbrev st' : State
  st' = state_of s

  abbrev going : Result Deed Refusal
  going = Ok (Remove k x)

  pub removal_outcome : (b : List ℕ) → outcome_of going st' 0 b ≡ obeyed st' (asks (change (remove a))) b
  unfolding done settle changed
  removal_outcome b = ⊎_elim held free (either (name_in_use st'.permanent a))
    where
      held : name_in_use st'.permanent a ≡ true → outcome_of going st' 0 b ≡ obeyed st' (asks (change (remove a))) b
      held u = rw (name, u) (sym (obeyed_refused st' (remove a) 20 (sym (rw u refl) ∙ left_to_permanent st' a z) b (λ e. omega arith)))

      free : name_in_use st'.permanent a ≡ false → outcome_of going st' 0 b ≡ obeyed st' (asks (change (remove a))) b
      free u =
          rw (name, u) (ap (λ (q : ℕ). answered (with_volatile st' (removed_at st'.volatile q)) [] b) place
          ∙ sym (obeyed_accepted st' (remove a) 0 (sym (rw u refl) ∙ left_to_permanent st' a z) b refl))

  -- whatever shape it has: its place is a user system's, and nothing is saved
  pub removal_place : (0 < k) × (k ≤ length (systems_of s.volatile))
  removal_place = rw place (user_place (memory_of s.volatile) a (remove_user st' a z), place_within (systems_of s.volatile) a)

  pub removal_saves : saving_by going ≡ eqb (number_in going (memory_of s.permanent)) 0 && asks_to_save (asks (change (remove a)))
  unfolding saving asks_to_save
  removal_saves = sym (and_false (eqb (number_in going (memory_of s.permanent)) 0))

  pub decides_removal : name_shaped x ≡ true → Decides s (remove a) going
  unfolding Fits
  decides_removal shape = record { outcome = removal_outcome; doable = record { fits = (removal_place.0, removal_place.1, shape) }; saves = removal_saves }
