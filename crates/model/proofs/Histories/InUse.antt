-- What the test for use says of a name: what the old test says, of a name that a user system may have; yes of a fixed system's; no of a name that no system has.
-- And what it looks at are the names of the enabled frames and of their chains.
use Prim.Native.Nat.{ℕ, zero, suc, ◌-◌, ◌≤◌, ◌<◌}
use mathlib.Core.Path.{◌≡◌, refl, sym, ap, ◌∙◌}
use mathlib.Core.List.{List, [], ◌∷◌, ◌++◌, map, map-append, map-map, append-nil, append_assoc}
use mathlib.Core.Bool.{Bool, true, false, ◌&&◌, ◌||◌}
use mathlib.Core.Option.{Option, none, some}
use mathlib.Core.Logic.{⊎_elim}
use native.Mathlib.Omega.{arith}
use borrow.Author.Tests.{eq-eqb, eqb-true}
use lib.Dec.{eqb}
use lib.ListN.{length, get_or}
use Rattle.model.specs.Types.{Group, Operating, Orientational, Levelling, OperatingPart, Single, Pair}
use Rattle.model.specs.Lists.{any, same, there?, Search, search}
use Rattle.model.specs.Kinds.{of_group}
use Rattle.model.specs.Memory.{System, Memory, Ref, fixed_ref, name_of, place_named, is_user, find}
use Rattle.model.specs.Chain.{hop, steps, chain}
use Rattle.model.specs.Use.{in_group, is_in_use, used_at, name_in_use, down_from, looked_at, names_looked_at, use_test}
use Rattle.model.specs.Words.{reserved}
use Rattle.model.specs.Demand.{HeldPart, alone, pair, held, held_part, frames}
use Rattle.model.specs.Checklist.{names_down, under, under_part, under_enabled}
use Rattle.model.specs.Looking.{SaysTheSame, part_names, frame_names}
use Rattle.model.proofs.Basics.{either, agree, true_false, none_some, or_left, or_right, same_refl, same→≡, ≡→same, any_at}
use Rattle.model.proofs.Searches.{each_also, search_map, search_alike, any_append, any_front, any_behind, any_never}
use Rattle.model.proofs.Chains.Hops.{ring_free}
use Rattle.model.proofs.Chains.Steps.{chain_length, chain_at, steps_end, steps_pred}
use Rattle.model.proofs.Chains.Frames.{PartHas, EachEnabled, enabled_within}
use Rattle.model.proofs.Chains.Looked.{last_two, looked_with, looked_parts, looked_systems, looked_place}
use Rattle.model.proofs.Memories.Fine.{Fine}
use Rattle.model.proofs.Memories.Named.{user_place, place_name, find_user, present_user}
use Rattle.model.proofs.Memories.Found.{IsSystem, fixed, user, hexapod_none, is_found, name_of_user}

-- ---- by name, and by the place that the name has

-- the test for use looks at systems, and asks each for its name
pub use_by_system : (m : Memory) (n : List ℕ) → use_test m n ≡ search (λ (r : Ref). same n (name_of m.systems r)) (looked_at m)
unfolding use_test
use_by_system m n = search_map (same n) (name_of m.systems) (looked_at m)

module _ (m : Memory) (fine : Fine m) (n : List ℕ) where
  abbrev l : List System
  l = m.systems

  -- only a system of that name is found under it
  pub named_found : {r : Ref} → IsSystem l r → same n (name_of l r) ≡ true → find m n ≡ some r
  named_found {r} i e = ap (find m) (same→≡ n (name_of l r) e) ∙ is_found m fine i

  -- a user system's name is that of the system at its place
  user_at : is_user m n ≡ true → {r : Ref} → IsSystem l r → same n (name_of l r) ≡ eqb (place_named l n) r.place
  user_at u i = agree _ _ (λ e. here i e) (λ e. back i (eqb-true _ _ e))
    where
      k : ℕ
      k = place_named l n

      here : {r : Ref} → IsSystem l r → same n (name_of l r) ≡ true → eqb k r.place ≡ true
      here {r} i e = eq-eqb k r.place (ap (λ (o : Option Ref). place_or o) (sym (find_user m n u) ∙ named_found i e))
        where
          place_or : Option Ref → ℕ
          place_or none = 0
          place_or (some r) = r.place

      back : {r : Ref} → IsSystem l r → k ≡ r.place → same n (name_of l r) ≡ true
      back (fixed g) e = absurd (let h = user_place m n u in omega arith)
      back (user j h) e = ≡→same (sym (name_of_user l _ j h.0 ∙ rw (← e) (place_name l n (user_place m n u))))

  use_of_user : is_user m n ≡ true → (use_test m n).found ≡ is_in_use m (place_named l n)
  use_of_user u =
      ap (λ (s : Search). s.found) (use_by_system m n ∙ search_alike _ (λ (r : Ref). eqb (place_named l n) r.place) (looked_at m) (each_also (λ r i. user_at u i) (looked_at m) (looked_systems m fine)))
      ∙ looked_place m (place_named l n)

  use_of_none : find m n ≡ none → (use_test m n).found ≡ false
  use_of_none z =
      ap (λ (s : Search). s.found) (use_by_system m n)
      ∙ any_never _ (looked_at m) (each_also (λ r i. ⊎_elim (λ e. none_some (sym z ∙ named_found i e)) (λ e. e) (either (same n (name_of l r)))) (looked_at m) (looked_systems m fine))

  -- a name that a user system may have: there is one, or no system has it
  old_test : reserved n ≡ false → (use_test m n).found ≡ name_in_use m n
  unfolding used_at is_user there?
  old_test free =
      ⊎_elim (λ u. use_of_user u ∙ judged u) (λ u. use_of_none (nobody u (find m n) refl) ∙ judged u) (either (is_user m n))
    where
      judged : {t : Bool} → is_user m n ≡ t → t && is_in_use m (place_named l n) ≡ name_in_use m n
      judged u = ap (λ (t : Bool). t && is_in_use m (place_named l n)) (sym u)

      nobody : is_user m n ≡ false → (o : Option Ref) → find m n ≡ o → find m n ≡ none
      nobody u none e = e
      nobody u (some r) e = true_false (sym (present_user m n (rw e) free) ∙ u)

-- ---- a fixed system

module _ (m : Memory) (fine : Fine m) where
  -- every chain ends at the fixed system of its group
  ends_down : (g : Group) (q : ℕ) → q ≤ length m.systems → (p : Ref → Bool) → p (fixed_ref g) ≡ true → any p (down_from m.systems (in_group g q)) ≡ true
  unfolding any
  ends_down g zero h p e = or_left (p (fixed_ref g)) _ e
  ends_down g (suc j) h p e =
      or_right (p (in_group g (suc j))) _
      (ap (λ (s : Search). s.found) (search_map p (in_group g) (chain l q))
      ∙ any_at (λ x. p (in_group g x)) (chain l q) 0 i (omega (arith, chain_length l q, some)) (rw last e))
    where
      l : List System
      l = m.systems

      q : ℕ
      q = suc j

      i : ℕ
      i = steps l q - 1

      some : 0 < steps l q
      some = omega (arith, steps_pred l q (omega arith) (ring_free l fine.ringless q h))

      last : get_or (chain l q) i 0 ≡ 0
      last =
          chain_at l q i (omega (arith, some)) ∙ ap (λ (n : ℕ). hop l n q) (omega (arith, some))
          ∙ steps_end l q (ring_free l fine.ringless q h)

  fixed_in_use : (g : Group) → (use_test m (of_group g).name).found ≡ true
  unfolding name_of
  fixed_in_use g = ap (λ (s : Search). s.found) (use_by_system m (of_group g).name) ∙ ap (any p) (looked_parts m) ∙ go g (same_refl (of_group g).name)
    where
      l : List System
      l = m.systems

      b : ℕ
      b = m.enabled.orientational

      v : ℕ
      v = m.enabled.levelling

      p : Ref → Bool
      p r = same (of_group g).name (name_of l r)

      within : EachEnabled (λ q. q ≤ length l) m.enabled
      within = enabled_within m fine

      first : (o : OperatingPart) → PartHas (λ q. q ≤ length l) o → p (fixed_ref Operating) ≡ true → any p (looked_with l b v o) ≡ true
      first (Single q) h e = any_front p (down_from l (in_group Operating q)) _ (ends_down Operating q h p e)
      first (Pair w t) h e = any_front p (down_from l (in_group Operating w)) _ (ends_down Operating w h.0 p e)

      last : (o : OperatingPart) → any p (last_two l b v) ≡ true → any p (looked_with l b v o) ≡ true
      last (Single q) e = any_behind p (down_from l (in_group Operating q)) _ e
      last (Pair w t) e = any_behind p (down_from l (in_group Operating w)) _ (any_behind p (down_from l (in_group Operating t)) _ e)

      go : (h : Group) → p (fixed_ref h) ≡ true → any p (looked_with l b v m.enabled.operating) ≡ true
      go Operating e = first m.enabled.operating within.operating e
      go Orientational e = last m.enabled.operating (any_front p (down_from l (in_group Orientational b)) _ (ends_down Orientational b within.orientational p e))
      go Levelling e =
          last m.enabled.operating
          (any_behind p (down_from l (in_group Orientational b)) _ (any_front p (down_from l (in_group Levelling v)) [] (ends_down Levelling v within.levelling p e)))

pub says_the_same : (m : Memory) → Fine m → SaysTheSame m
says_the_same m fine =
    record {
      old = λ n. old_test m fine n;
      fixed = fixed_in_use m fine;
      absent = λ n. use_of_none m fine n;
      hexapod = use_of_none m fine _ (hexapod_none m fine);
    }

-- ---- the enabled frames

module _ (m : Memory) where
  names_down_lem : (g : Group) (q : ℕ) → map (name_of m.systems) (down_from m.systems (in_group g q)) ≡ names_down (held m (in_group g q))
  unfolding held
  names_down_lem g q = ap (λ (t : List (List ℕ)). name_of m.systems (in_group g q) ∷ t) (map-map (name_of m.systems) (in_group g) (chain m.systems q))

  -- what the test looks at, by name
  pub frames_looked_at : names_looked_at m ≡ frame_names (frames m)
  unfolding frames held_part
  frames_looked_at = ap (map name) (looked_parts m) ∙ go m.enabled.operating
    where
      name : Ref → List ℕ
      name = name_of m.systems

      l : List System
      l = m.systems

      -- a system and its chain, before the rest
      front : (g : Group) (q : ℕ) (rest : List Ref) {names : List (List ℕ)} → map name rest ≡ names →
          map name (down_from l (in_group g q) ++ rest) ≡ names_down (held m (in_group g q)) ++ names
      front g q rest e = map-append name (down_from l (in_group g q)) rest ∙ (λ i. names_down_lem g q i ++ e i)

      last : map name (last_two l m.enabled.orientational m.enabled.levelling) ≡ names_down (frames m).orientational ++ names_down (frames m).levelling
      last =
          front Orientational m.enabled.orientational _
          (ap (map name) (append-nil (down_from l (in_group Levelling m.enabled.levelling))) ∙ names_down_lem Levelling m.enabled.levelling)

      go : (o : OperatingPart) → map name (looked_with l m.enabled.orientational m.enabled.levelling o)
          ≡ part_names (held_part m o) ++ (names_down (frames m).orientational ++ names_down (frames m).levelling)
      go (Single q) = front Operating q _ last
      go (Pair w t) =
          front Operating w _ (front Operating t _ last)
          ∙ sym (append_assoc (names_down (held m (in_group Operating w))) (names_down (held m (in_group Operating t))) _)

  pub under_enabled_lem : (n : List ℕ) → (use_test m n).found ≡ under_enabled m n
  unfolding use_test under_enabled
  under_enabled_lem n = ap (any (same n)) frames_looked_at ∙ go (frames m).operating
    where
      last : any (same n) (names_down (frames m).orientational ++ names_down (frames m).levelling) ≡ under (frames m).orientational n || under (frames m).levelling n
      last = any_append (same n) (names_down (frames m).orientational) (names_down (frames m).levelling)

      go : (o : HeldPart) → any (same n) (part_names o ++ (names_down (frames m).orientational ++ names_down (frames m).levelling))
          ≡ under_part o n || (under (frames m).orientational n || under (frames m).levelling n)
      go (alone h) = any_append (same n) (names_down h) _ ∙ ap (λ (t : Bool). under h n || t) last
      go (pair w t) =
          any_append (same n) (names_down w ++ names_down t) _
          ∙ (λ i. any_append (same n) (names_down w) (names_down t) i || last i)

-- memories with the same enabled frames
pub frames_alike : (m m' : Memory) → frames m ≡ frames m' → (n : List ℕ) → use_test m n ≡ use_test m' n
unfolding use_test
frames_alike m m' e n = ap (search (same n)) (frames_looked_at m ∙ ap frame_names e ∙ sym (frames_looked_at m'))
