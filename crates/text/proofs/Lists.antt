-- Laws of lists, and of the comparison of bytes, that the library lacks.
use Prim.Native.Nat.{ℕ, zero, suc, ◌+◌, ◌<◌, ◌≤◌}
use mathlib.Core.Path.{◌≡◌, refl, sym, ap, ◌∙◌}
use mathlib.Core.List.{List, [], ◌∷◌, map, reverse}
use mathlib.Core.Bool.{Bool, true, false, ◌&&◌}
use native.Mathlib.Omega.{arith}
use native.Mathlib.Numerals.{add-one}
use lib.Dec.{eqb}
use lib.ListN.{length, take, drop, get_or, drop_of_length-le}
use lib.Seq.{drop-cons}
use Rattle.std.specs.Prelude.{zip, Decides}
use Rattle.std.specs.List.{list_all}
use Rattle.std.proofs.lemmas.List.{reverse-reverse}
use Rattle.model.specs.Lists.{all, same}
use Rattle.model.proofs.Basics.{and_false, agree, same→≡, ≡→same}

module _ {A B : Type 0} (f : A → B) where
  pub map_take : (n : ℕ) (l : List A) → map f (take n l) ≡ take n (map f l)
  map_take zero l = refl
  map_take (suc n) [] = refl
  map_take (suc n) (x ∷ l) = ap (λ (m : List B). f x ∷ m) (map_take n l)

  pub map_drop : (n : ℕ) (l : List A) → map f (drop n l) ≡ drop n (map f l)
  map_drop zero l = refl
  map_drop (suc n) [] = refl
  map_drop (suc n) (x ∷ l) = map_drop n l

-- ---- a loop that tests the elements of a list

module _ {A : Type 0} (p : A → Bool) (l : List A) (i : ℕ) where
  module _ (d : A) (h : i < length l) where
    all_turn : all p (drop i l) ≡ p (get_or l i d) && all p (drop (i + 1) l)
    unfolding all
    all_turn = rw (add-one, drop-cons l i d)

    pub all_next : p (get_or l i d) ≡ true → all p (drop i l) ≡ all p (drop (i + 1) l)
    all_next e = all_turn ∙ rw e

    pub all_stop : p (get_or l i d) ≡ false → all p (drop i l) ≡ false
    all_stop e = all_turn ∙ rw e

  pub all_end : length l ≤ i → all p (drop i l) ≡ true
  unfolding all
  all_end h = rw (drop_of_length-le l h)

-- ---- a loop that compares two lists

-- lists of different lengths differ
pub same_length : (p q : List ℕ) → (length p ≡ length q → ⊥) → same p q ≡ false
unfolding same
same_length [] [] h = absurd (h refl)
same_length [] (b ∷ q) h = refl
same_length (a ∷ p) [] h = refl
same_length (a ∷ p) (b ∷ q) h = rw (same_length p q (λ e. h (ap suc e))) (and_false (eqb a b))

-- byte by byte, each of the first list by what f makes of it
pub same_zipped : (f : ℕ → ℕ) (p q : List ℕ) → length p ≡ length q → list_all (λ z. eqb (f z.0) z.1) (zip p q) ≡ same (map f p) q
unfolding same
same_zipped f [] [] h = refl
same_zipped f [] (b ∷ q) h = absurd (omega arith)
same_zipped f (a ∷ p) [] h = absurd (omega arith)
same_zipped f (a ∷ p) (b ∷ q) h = ap (λ (t : Bool). eqb (f a) b && t) (same_zipped f p q (omega arith))

-- and from the last byte on
pub same_reversed : {r : Bool} (p q : List ℕ) → Decides r (reverse p ≡ reverse q) → r ≡ same p q
same_reversed {r} p q d =
    agree r (same p q) (λ e. ≡→same (sym (reverse-reverse p) ∙ ap (λ (l : List ℕ). reverse l) (d.0 e) ∙ reverse-reverse q))
    (λ e. d.1 (ap (λ (l : List ℕ). reverse l) (same→≡ p q e)))
