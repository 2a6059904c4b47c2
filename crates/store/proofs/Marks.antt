-- Laws of the digits that a text begins with, and of a number's digits.
use Prim.Native.Nat.{ℕ, zero, suc, ◌<◌, ◌≤◌, ◌^◌}
use mathlib.Core.Path.{◌≡◌, refl, sym, ap}
use mathlib.Core.List.{List, [], ◌∷◌}
use mathlib.Core.Bool.{true, false}
use native.Mathlib.Omega.{arith}
use lib.IntN.{ℤ, pos, negsuc, nat_abs}
use lib.ListN.{length, get_or}
use Rattle.std.specs.Int.{FitsUnsignedBits}
use Rattle.model.specs.Lists.{between}
use Rattle.model.specs.Reply.{decimal}
use Rattle.model.proofs.Digits.{decimal_short}
use Rattle.store.specs.Mark.{leading_digits, number_text}

-- the first byte that is no digit, or none
pub digits_first : (xs : List ℕ) (i : ℕ) → i < length xs → between 48 57 (get_or xs i 0) ≡ false → ((k : ℕ) → k < i → between 48 57 (get_or xs k 0) ≡ true) → leading_digits xs ≡ i
unfolding leading_digits
digits_first [] i h n d = absurd (omega arith)
digits_first (b ∷ bs) zero h n d = rw n
digits_first (b ∷ bs) (suc i) h n d = rw (d 0 (omega arith), digits_first bs i (omega arith) n (λ k l. d (suc k) (omega arith)))

pub digits_whole : (xs : List ℕ) → ((k : ℕ) → k < length xs → between 48 57 (get_or xs k 0) ≡ true) → leading_digits xs ≡ length xs
unfolding leading_digits
digits_whole [] d = refl
digits_whole (b ∷ bs) d = rw (d 0 (omega arith), digits_whole bs (λ k l. d (suc k) (omega arith)))

-- ---- a number's digits

-- one of 64 bits that is not below zero has 20 at most
pub number_fits : (z : ℤ) (n : ℕ) → FitsUnsignedBits 64 z → n ≡ nat_abs z → (number_text z ≡ decimal n) × (length (decimal n) ≤ 20)
unfolding number_text
number_fits (pos k) n f e = (ap decimal (sym e), decimal_short 20 n (omega arith) (omega arith))
number_fits (negsuc k) n f e = absurd f

pub number_below : (z : ℤ) → nat_abs z < 2 ^ 64 → (FitsUnsignedBits 64 z → ⊥) → number_text z ≡ []
unfolding number_text
number_below (pos n) h f = absurd (f h)
number_below (negsuc n) h f = refl
