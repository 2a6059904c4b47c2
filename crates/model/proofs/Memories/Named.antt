-- How a name finds its system.
use Prim.Native.Nat.{ℕ, zero, suc, ◌≤◌, ◌<◌}
use mathlib.Core.Path.{◌≡◌, refl, sym, ◌∙◌}
use mathlib.Core.List.{List, [], ◌∷◌}
use mathlib.Core.Bool.{Bool, true, false, cond, ◌||◌}
use mathlib.Core.Option.{none, some}
use mathlib.Core.Logic.{⊎_elim}
use native.Mathlib.Omega.{arith}
use native.Mathlib.Decide.{dec_lt}
use borrow.Author.Tests.{ltb-true, ltb-false, lt-ltb, le-ltb, not-false}
use lib.ListN.{length}
use Rattle.model.specs.Types.{Group, Operating, Orientational, Levelling}
use Rattle.model.specs.Lists.{any, least, same, one_of, there?}
use Rattle.model.specs.Kinds.{of_group, groups}
use Rattle.model.specs.Memory.{System, Memory, Ref, system_at, user_ref, place_named, is_user, fixed_named, find, ref_or, named}
use Rattle.model.specs.Words.{reserved}
use Rattle.model.specs.Refusals.{absent}
use Rattle.model.proofs.Basics.{either, true_false, ≡→same, same→≡, least_hit, least_miss}
use Rattle.model.proofs.Memories.Fine.{Stands}

-- ---- the place of a name

module _ (l : List System) (n : List ℕ) where
  hit : ℕ → Bool
  hit j = same n (system_at l (suc j)).name

  index : ℕ
  index = least (length l) hit

  place_found : index < length l → place_named l n ≡ suc index
  unfolding place_named hit index
  place_found h = rw (lt-ltb index (length l) h)

  place_none : length l ≤ index → place_named l n ≡ 0
  unfolding place_named hit index
  place_none h = rw (le-ltb index (length l) h)

  -- a user system stands there, and has the name
  pub place_stands : 0 < place_named l n → Stands l (place_named l n)
  place_stands h = go (dec_lt index (length l))
    where
      go : Dec (index < length l) → Stands l (place_named l n)
      go (yes i) = rw (place_found i) (omega arith)
      go (no i) = let z = place_none (omega arith) in absurd (omega arith)

  pub place_name : 0 < place_named l n → (system_at l (place_named l n)).name ≡ n
  unfolding hit index
  place_name h = go (dec_lt index (length l))
    where
      go : Dec (index < length l) → (system_at l (place_named l n)).name ≡ n
      go (yes i) = rw (place_found i) (sym (same→≡ n (system_at l (suc index)).name (least_hit (length l) hit i)))
      go (no i) = let z = place_none (omega arith) in absurd (omega arith)

  -- where no user system is found, none has the name
  pub place_missing : place_named l n ≡ 0 → (k : ℕ) → Stands l k → (system_at l k).name ≡ n → ⊥
  unfolding hit index
  place_missing z zero h e = omega arith
  place_missing z (suc i) h e = go (dec_lt index (length l))
    where
      go : Dec (index < length l) → ⊥
      go (yes f) = let q = place_found f in omega arith
      go (no f) = true_false (sym (≡→same (sym e)) ∙ least_miss (length l) hit i (omega arith))

  pub place_within : place_named l n ≤ length l
  place_within = go (dec_lt 0 (place_named l n))
    where
      go : Dec (0 < place_named l n) → place_named l n ≤ length l
      go (yes h) = (place_stands h).1
      go (no h) = omega arith

-- ---- user or fixed

module _ (m : Memory) (n : List ℕ) where
  pub user_place : is_user m n ≡ true → 0 < place_named m.systems n
  unfolding is_user
  user_place u = ltb-true 0 (place_named m.systems n) u

  pub user_none : is_user m n ≡ false → place_named m.systems n ≡ 0
  unfolding is_user
  user_none u = let h = ltb-false 0 (place_named m.systems n) u in omega arith

  pub find_user : is_user m n ≡ true → find m n ≡ some (user_ref m.systems (place_named m.systems n))
  unfolding find
  find_user u = rw u

  find_fixed : is_user m n ≡ false → find m n ≡ fixed_named groups n
  unfolding find
  find_fixed u = rw u

-- a fixed system is at place 0
fixed_place : (gs : List Group) (n : List ℕ) → (ref_or (fixed_named gs n)).place ≡ 0
unfolding fixed_named ref_or
fixed_place [] n = refl
fixed_place (g ∷ gs) n = ⊎_elim (λ e. rw e) (λ e. rw e (fixed_place gs n)) (either (same n (of_group g).name))

-- the names of the fixed systems are reserved
first_of : (a b c d : Bool) (x y z : Ref) → there? (cond a (some x) (cond b (some y) (cond c (some z) none))) ≡ true → a || (b || (c || d)) ≡ true
unfolding there?
first_of true b c d x y z e = refl
first_of false true c d x y z e = refl
first_of false false true d x y z e = refl
first_of false false false d x y z e = true_false (sym e)

fixed_reserved : (n : List ℕ) → there? (fixed_named groups n) ≡ true → reserved n ≡ true
unfolding fixed_named there? reserved one_of any
fixed_reserved n e = first_of (same n (of_group Operating).name) (same n (of_group Orientational).name) (same n (of_group Levelling).name) _ _ _ _ e

module _ (m : Memory) (n : List ℕ) where
  -- the place is the same, whichever way it is asked for
  pub named_place : (named m n).place ≡ place_named m.systems n
  unfolding ref_or
  named_place =
      ⊎_elim (λ u. rw (find_user m n u))
      (λ u. rw (find_fixed m n u) (fixed_place groups n ∙ sym (user_none m n u)))
      (either (is_user m n))

  pub named_within : (named m n).place ≤ length m.systems
  named_within = rw named_place (place_within m.systems n)

  -- a system that is there, and whose name is not reserved, is a user system
  pub present_user : absent m n ≡ false → reserved n ≡ false → is_user m n ≡ true
  present_user a r =
      ⊎_elim (λ u. u)
      (λ u. true_false (sym (fixed_reserved n (rw (find_fixed m n u) at (not-false (there? (find m n)) a))) ∙ r))
      (either (is_user m n))
