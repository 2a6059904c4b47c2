-- A number that is printed is read back as itself.
use Prim.Native.Nat.{ℕ, zero, suc, ◌+◌, ◌*◌, ◌-◌, ◌/◌, ◌%◌, ◌^◌, ◌≤◌, ◌<◌}
use mathlib.Core.Path.{◌≡◌, refl, sym, ap, ◌∙◌}
use mathlib.Core.List.{List, [], ◌∷◌, ◌++◌, append-nil}
use mathlib.Core.Bool.{true}
use mathlib.Core.Option.{some}
use native.Mathlib.Nat.{mul_comm, mul_assoc, mul-one, add-mul, mod-one, mod-lt, mod-eq_of_lt, div-add-mod', add-mul-mod_self_right, mul-le-mul_right, pow-suc, one-le-pow}
use native.Mathlib.Omega.{arith}
use borrow.Author.Tests.{ne_eqb, le-leb, leb-true}
use lib.IntN.{pos, negsuc, neg_ℤ, nat_abs}
use lib.ListN.{length}
use Rattle.model.specs.Limits.{offset_limit, whole_digits, decimals, million}
use Rattle.model.specs.Lists.{all, pieces, ahead, joined}
use Rattle.model.specs.Reply.{last_digits, digits_of, decimal, value}
use Rattle.model.specs.Words.{digit, digits?, spelled, magnitude, positive, negative, number, offset?}
use Rattle.model.proofs.Basics.{true_false, and_split, and_join}
use Rattle.model.proofs.Digits.{length_digits, digits_above, decimal_short}
use Rattle.text.specs.Claims.{PrintedThenRead, WholeRangeTyped}
use Rattle.text.proofs.NumberLaws.{weigh, Cut, whole, more, cut}
use Rattle.text.proofs.NumberRange.{digit_is}

-- ---- the last digits of a number spell it

-- one digit more of a remainder
digit_more : (n p : ℕ) → 0 < p → n % (p * 10) ≡ n / p % 10 * p + n % p
digit_more n p h =
    let m = n / p in
    let low = m % 10 * p + n % p in
    let e : n ≡ low + m / 10 * (p * 10) =
    let d = div-add-mod' n p in
    let f : m * p ≡ m / 10 * (p * 10) + m % 10 * p =
    ap (λ (q : ℕ). q * p) (sym (div-add-mod' m 10)) ∙ add-mul (m / 10 * 10) (m % 10) p ∙
    ap (λ (q : ℕ). q + m % 10 * p) (mul_assoc (m / 10) 10 p ∙ ap (λ (q : ℕ). m / 10 * q) (mul_comm 10 p))
    in
    omega arith
    in
    let t : m % 10 * p ≤ 9 * p = mul-le-mul_right p (omega arith) in
    let b : low < p * 10 = omega (arith, mod-lt n h) in
    ap (λ (q : ℕ). q % (p * 10)) e ∙ add-mul-mod_self_right low (m / 10) (p * 10) ∙ mod-eq_of_lt b

spell_last : (k a n : ℕ) → spelled a (last_digits k n) ≡ a * 10 ^ k + n % 10 ^ k
unfolding spelled last_digits
spell_last zero a n = omega (arith, mod-one n)
spell_last (suc k) a n =
    let d = n / 10 ^ k % 10 in
    let z : 48 + d - 48 ≡ d = omega arith in
    let m : n % 10 ^ suc k ≡ d * 10 ^ k + n % 10 ^ k = ap (λ (q : ℕ). n % q) (pow-suc 10 k) ∙ digit_more n (10 ^ k) (one-le-pow k 10 (omega arith)) in
    ap (λ (x : ℕ). spelled (10 * a + x) (last_digits k n)) z ∙ spell_last k (10 * a + d) n ∙ omega (arith, weigh 0 a d k, m)

digit_last : (n : ℕ) → digit (48 + n % 10) ≡ true
digit_last n = rw (le-leb 48 (48 + n % 10) (omega arith), le-leb (48 + n % 10) 57 (omega arith))

all_last : (k n : ℕ) → all digit (last_digits k n) ≡ true
unfolding all last_digits
all_last zero n = refl
all_last (suc k) n = and_join (digit_last (n / 10 ^ k)) (all_last k n)

digits_last : (most k n : ℕ) → 1 ≤ k → k ≤ most → digits? most (last_digits k n) ≡ true
unfolding digits?
digits_last most k n l h = rw (length_digits k n, le-leb 1 k l, le-leb k most h) (all_last k n)

-- ---- the pieces of what is printed

pieces_digits : (w : List ℕ) → all digit w ≡ true → pieces 46 w ≡ w ∷ []
pieces_digits w e = pick (cut w)
  where
    pick : Cut w → pieces 46 w ≡ w ∷ []
    pick (whole p) = p
    pick (more f h hs p q) = true_false (sym e ∙ q)

pieces_join : (w l : List ℕ) → all digit w ≡ true → pieces 46 (w ++ (46 ∷ l)) ≡ w ∷ pieces 46 l
unfolding pieces ahead all
pieces_join [] l e = refl
pieces_join (b ∷ bs) l e =
    let s = and_split (digit b) (all digit bs) e in
    let d = digit_is b s.0 in
    rw (ne_eqb b 46 (λ h. omega arith), pieces_join bs l s.1)

-- digits enough spell the whole number
spell_whole : (k n : ℕ) → n < 10 ^ k → spelled 0 (last_digits k n) ≡ n
spell_whole k n h = omega (arith, spell_last k 0 n, mod-eq_of_lt h)

-- digits first are no minus
number_digits : (w l : List ℕ) → 0 < length w → all digit w ≡ true → number (w ++ l) ≡ positive (magnitude (pieces 46 (w ++ l)))
unfolding number all
number_digits [] l h e = absurd (omega arith)
number_digits (b ∷ bs) l h e = let d = digit_is b (and_split (digit b) (all digit bs) e).0 in rw (ne_eqb b 45 (λ q. omega arith))

module _ (k q r : ℕ) (l : 1 ≤ k) (h : k ≤ whole_digits) (hq : q < 10 ^ k) (hr : r < million) where
  abbrev text : List ℕ
  text = last_digits k q ++ (46 ∷ last_digits decimals r)

  magnitude_printed : magnitude (pieces 46 text) ≡ some (q * million + r)
  unfolding magnitude
  magnitude_printed =
      rw (
        pieces_join (last_digits k q) (last_digits decimals r) (all_last k q),
        pieces_digits (last_digits decimals r) (all_last decimals r),
        digits_last whole_digits k q l h,
        digits_last decimals decimals r (omega arith) (omega arith),
        length_digits decimals r,
        spell_whole k q hq,
        spell_whole decimals r hr,
      ) (ap (λ (m : ℕ). some (q * million + m)) (mul-one r))

  number_positive : number text ≡ some (pos (q * million + r))
  unfolding positive
  number_positive = number_digits (last_digits k q) (46 ∷ last_digits decimals r) (omega (arith, length_digits k q)) (all_last k q) ∙ rw magnitude_printed

  number_negative : number (45 ∷ text) ≡ some (neg_ℤ (pos (q * million + r)))
  unfolding number negative
  number_negative = rw magnitude_printed

-- ---- as many digits as a whole part has

record Places (q : ℕ) : Type 0 where
  some_digit : 1 ≤ digits_of q
  enough : digits_of q ≤ whole_digits

places : (q : ℕ) → q < 10 ^ whole_digits → Places q
unfolding decimal
places q h = record { some_digit = unfold digits_of in omega arith; enough = omega (arith, decimal_short whole_digits q (omega arith) h, length_digits (digits_of q) q) }

-- every value in whole millionths with at most four digits before the point
pub number_value : PrintedThenRead
unfolding value joined decimal
number_value (pos n) h =
    let q = n / million in
    let p = places q (omega arith) in
    rw (append-nil (last_digits decimals (n % million)))
    (number_positive (digits_of q) q (n % million) p.some_digit p.enough (digits_above q) (omega arith) ∙ ap (λ (m : ℕ). some (pos m)) (omega arith))
number_value (negsuc n) h =
    let q = suc n / million in
    let p = places q (omega arith) in
    let e : q * million + suc n % million ≡ suc n = omega arith in
    rw (append-nil (last_digits decimals (suc n % million)))
    (number_negative (digits_of q) q (suc n % million) p.some_digit p.enough (digits_above q) (omega arith) ∙ ap (λ (m : ℕ). some (neg_ℤ (pos m))) e)

pub whole_range_typed : WholeRangeTyped
unfolding offset?
whole_range_typed z e = number_value z (omega (arith, leb-true (nat_abs z) offset_limit e))
