-- In a well-formed memory every system, user or fixed, is found under its name, and what is found under a name has it.
use Prim.Native.Nat.{ℕ, zero, suc, ◌≤◌, ◌<◌}
use mathlib.Core.Path.{◌≡◌, refl, sym, ap, ◌∙◌}
use mathlib.Core.List.{List, [], ◌∷◌}
use mathlib.Core.Bool.{Bool, true, false, cond}
use mathlib.Core.Option.{none, some}
use mathlib.Core.Logic.{⊎_elim}
use native.Mathlib.Omega.{arith}
use native.Mathlib.Decide.{dec_lt}
use borrow.Author.Tests.{lt-ltb}
use lib.ListN.{length}
use Rattle.model.specs.Types.{Kind, Group, Operating, Orientational, Levelling}
use Rattle.model.specs.Ascii.{ascii}
use Rattle.model.specs.Lists.{any, same, one_of}
use Rattle.model.specs.Kinds.{of_kind, of_group, groups}
use Rattle.model.specs.Memory.{System, Memory, Ref, system_at, fixed_ref, user_ref, name_of, place_named, is_user, fixed_named, find}
use Rattle.model.specs.Use.{in_group}
use Rattle.model.specs.Words.{reserved}
use Rattle.model.proofs.Basics.{either, true_false, same→≡}
use Rattle.model.proofs.Memories.Fine.{Stands, Placed, Fine, own_of}
use Rattle.model.proofs.Memories.Named.{place_stands, place_name, place_missing, user_place}

-- a system of the list: a fixed one, or the user system at a place
pub data IsSystem (l : List System) : Ref → Type 0 where
  fixed : (g : Group) → IsSystem l (fixed_ref g)
  user : (k : ℕ) → Stands l k → IsSystem l (user_ref l k)

-- a place that is 0 or holds a user system of type k
pub placed_system : (l : List System) (k : Kind) (q : ℕ) → Placed l k q → IsSystem l (in_group (of_kind k).group q)
placed_system l k zero h = fixed (of_kind k).group
placed_system l k (suc i) h =
    let p = h (omega arith) in
    let u : IsSystem l (user_ref l (suc i)) = user (suc i) (omega (arith, p.0)) in
    rw p.1 at u

pub name_of_user : (l : List System) (g : Group) (k : ℕ) → 0 < k → name_of l (in_group g k) ≡ (system_at l k).name
unfolding name_of
name_of_user l g zero h = absurd (omega arith)
name_of_user l g (suc i) h = refl

fixed_reserved : (g : Group) → reserved (of_group g).name ≡ true
unfolding reserved one_of any same
fixed_reserved Operating = refl
fixed_reserved Orientational = refl
fixed_reserved Levelling = refl

module _ (m : Memory) (fine : Fine m) where
  -- no user system has a reserved name
  user_not_reserved : (k : ℕ) → Stands m.systems k → reserved (system_at m.systems k).name ≡ false
  user_not_reserved k h = (own_of (system_at m.systems k) (fine.systems.own k h)).free

  pub user_name_free : (n : List ℕ) → is_user m n ≡ true → reserved n ≡ false
  user_name_free n u =
      let h = user_place m n u in
      rw (place_name m.systems n h) at (user_not_reserved (place_named m.systems n) (place_stands m.systems n h))

  reserved_no_user : (n : List ℕ) → reserved n ≡ true → is_user m n ≡ false
  reserved_no_user n r = ⊎_elim (λ u. true_false (sym r ∙ user_name_free n u)) (λ u. u) (either (is_user m n))

  -- the name of a user system leads to its place
  pub place_back : (k : ℕ) → Stands m.systems k → place_named m.systems (system_at m.systems k).name ≡ k
  place_back k h = go (dec_lt 0 (place_named l n))
    where
      l : List System
      l = m.systems

      n : List ℕ
      n = (system_at m.systems k).name

      go : Dec (0 < place_named l n) → place_named l n ≡ k
      go (yes p) = fine.systems.differ (place_named l n) k (place_stands l n p) h (place_name l n p)
      go (no p) = absurd (place_missing l n (omega arith) k h refl)

  pub fixed_found : (g : Group) → find m (of_group g).name ≡ some (fixed_ref g)
  unfolding find fixed_named same reserved one_of any
  fixed_found Operating = rw (reserved_no_user (of_group Operating).name refl)
  fixed_found Orientational = rw (reserved_no_user (of_group Orientational).name refl)
  fixed_found Levelling = rw (reserved_no_user (of_group Levelling).name refl)

  -- HEXAPOD is reserved, and no fixed system's name
  pub hexapod_none : find m (ascii "HEXAPOD") ≡ none
  unfolding find fixed_named same reserved one_of any
  hexapod_none = rw (reserved_no_user (ascii "HEXAPOD") refl)

  user_found : (k : ℕ) → Stands m.systems k → find m (system_at m.systems k).name ≡ some (user_ref m.systems k)
  unfolding find is_user
  user_found k h = rw (place_back k h, lt-ltb 0 k h.0)

  pub is_found : {r : Ref} → IsSystem m.systems r → find m (name_of m.systems r) ≡ some r
  unfolding name_of
  is_found (fixed g) = fixed_found g
  is_found (user k h) = ap (find m) (name_of_user m.systems (of_kind (system_at m.systems k).kind).group k h.0) ∙ user_found k h

  -- only the system at its place has a user system's name
  pub name_place : (n : List ℕ) → is_user m n ≡ true → (g : Group) (q : ℕ) → q ≤ length m.systems → name_of m.systems (in_group g q) ≡ n →
      q ≡ place_named m.systems n
  unfolding name_of
  name_place n u g zero h e = true_false (sym (fixed_reserved g) ∙ ap reserved e ∙ user_name_free n u)
  name_place n u g (suc i) h e =
      let pos = user_place m n u in
      fine.systems.differ (suc i) (place_named m.systems n) (omega arith) (place_stands m.systems n pos) (e ∙ sym (place_name m.systems n pos))

-- what is found is a system, and has the name
module _ (m : Memory) (n : List ℕ) where
  fixed_is : (gs : List Group) (r : Ref) → fixed_named gs n ≡ some r → IsSystem m.systems r × (name_of m.systems r ≡ n)
  unfolding fixed_named name_of
  fixed_is [] r e = absurd (let z : ◌≡◌ {A = ℕ} 0 1 = cc in omega arith)
  fixed_is (g ∷ gs) r e = go (same n (of_group g).name) refl e (fixed_is gs r)
    where
      go : (t : Bool) → same n (of_group g).name ≡ t → cond t (some (fixed_ref g)) (fixed_named gs n) ≡ some r →
          (fixed_named gs n ≡ some r → IsSystem m.systems r × (name_of m.systems r ≡ n)) → IsSystem m.systems r × (name_of m.systems r ≡ n)
      go true s e rec =
          let q : fixed_ref g ≡ r = cc in
          (rw (← q) (fixed g), rw (← q) (sym (same→≡ n (of_group g).name s)))
      go false s e rec = rec e

  pub found_is : (r : Ref) → find m n ≡ some r → IsSystem m.systems r × (name_of m.systems r ≡ n)
  unfolding find
  found_is r e = go (is_user m n) refl e
    where
      k : ℕ
      k = place_named m.systems n

      go : (t : Bool) → is_user m n ≡ t → cond t (some (user_ref m.systems k)) (fixed_named groups n) ≡ some r →
          IsSystem m.systems r × (name_of m.systems r ≡ n)
      go true u e =
          let h = user_place m n u in
          let q : user_ref m.systems k ≡ r = cc in
          let st = place_stands m.systems n h in
          (rw (← q) (user k st), rw (← q) (name_of_user m.systems (of_kind (system_at m.systems k).kind).group k h ∙ place_name m.systems n h))
      go false u e = fixed_is groups r e
