-- Laws of `any`, `all` and joined tests, for a scan that goes element by element.
use Prim.Native.Nat.{ℕ, zero, suc, ◌+◌, ◌<◌, ◌≤◌}
use mathlib.Core.Path.{◌≡◌, refl, sym}
use mathlib.Core.List.{List, [], ◌∷◌}
use mathlib.Core.Bool.{Bool, true, false, ◌||◌}
use native.Mathlib.Omega.{arith}
use native.Mathlib.Numerals.{add-one}
use lib.ListN.{length, drop, get_or, drop_of_length-le}
use lib.Seq.{drop-cons}
use Rattle.std.specs.Bool.{MatchBool}
use Rattle.std.specs.List.{AllWithin, HoldsAt}
use Rattle.model.specs.Lists.{any, all}
use Rattle.model.proofs.Basics.{and_false}

pub or_last : (t : Bool) → t || false ≡ t
or_last true = refl
or_last false = refl

module _ {A : Type 0} (p : A → Bool) (l : List A) (i : ℕ) where
  pub any_turn : (d : A) → i < length l → any p (drop i l) ≡ p (get_or l i d) || any p (drop (i + 1) l)
  unfolding any
  any_turn d h = rw (add-one, drop-cons l i d)

  pub any_end : length l ≤ i → any p (drop i l) ≡ false
  unfolding any
  any_end h = rw (drop_of_length-le l h)

-- ---- what an iterator's `all` answers is the test of the definitions

module _ {A : Type 0} (p : A → Bool) where
  all_pass : (l : List A) → ((k : ℕ) (d : A) → k < length l → p (get_or l k d) ≡ true) → all p l ≡ true
  unfolding all
  all_pass [] h = refl
  all_pass (x ∷ l) h = rw (h 0 x (omega arith)) (all_pass l (λ k d b. h (suc k) d (omega arith)))

  one_fails : (l : List A) (k : ℕ) → k < length l → ((d : A) → p (get_or l k d) ≡ false) → all p l ≡ false
  unfolding all
  one_fails [] k b h = absurd (omega arith)
  one_fails (x ∷ l) zero b h = rw (h x)
  one_fails (x ∷ l) (suc k) b h = rw (one_fails l k (omega arith) h) (and_false (p x))

  pub all_told : (l : List A) (r : Bool) → MatchBool r (AllWithin (λ x. p x ≡ true) l 0 (length l)) ((k : ℕ) × (k < length l) × HoldsAt (λ x. p x ≡ false) l k) → r ≡ all p l
  all_told l true h = sym (all_pass l (λ k d b. h k d (omega arith) b))
  all_told l false h = sym (one_fails l h.0 h.1 h.2)
