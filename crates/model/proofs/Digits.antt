-- Laws of digits (specs/Reply.antt): how many a number has, and how they go on after the first ones.
use Prim.Native.Nat.{ℕ, zero, suc, ◌+◌, ◌-◌, ◌/◌, ◌%◌, ◌^◌, ◌≤◌, ◌<◌}
use mathlib.Core.Path.{◌≡◌, refl, sym, ap, ◌∙◌}
use mathlib.Core.Bool.{Bool}
use mathlib.Core.List.{List, ◌∷◌, ◌++◌}
use native.Mathlib.Nat.{add_comm, suc-add, div-div-eq-div-mul, div-mul-le_self, lt-div-mul-add, le-div_iff_mul-le, mul-le-mul_right, pow-suc, pow-le-pow_right, one-le-pow}
use native.Mathlib.Decide.{dec_lt}
use native.Mathlib.Omega.{arith}
use borrow.Author.Tests.{lt-ltb, le-ltb, ltb-true, ltb-false}
use lib.Dec.{ltb}
use lib.ListN.{length}
use lib.Pow.{pow-add}
use Rattle.model.specs.Lists.{least}
use Rattle.model.specs.Reply.{last_digits, digits_of, decimal}
use Rattle.model.proofs.Basics.{least_is, least_hit, least_miss}

-- ---- the last digits

pub length_digits : (k n : ℕ) → length (last_digits k n) ≡ k
unfolding last_digits
length_digits zero n = refl
length_digits (suc k) n = ap suc (length_digits k n)

-- the digits before the last k are those of the quotient
pub digits_split : (j k n : ℕ) → last_digits (j + k) n ≡ last_digits j (n / 10 ^ k) ++ last_digits k n
unfolding last_digits
digits_split zero k n = let e : 0 + k ≡ k = omega arith in ap (λ (m : ℕ). last_digits m n) e
digits_split (suc j) k n =
    let e : n / 10 ^ k / 10 ^ j ≡ n / 10 ^ (j + k) = div-div-eq-div-mul n (10 ^ k) (10 ^ j) ∙ ap (λ (m : ℕ). n / m) (sym (pow-add 10 k j) ∙ ap (λ (m : ℕ). 10 ^ m) (add_comm k j)) in
    rw (suc-add j k, e) (ap (λ (l : List ℕ). (48 + n / 10 ^ (j + k) % 10) ∷ l) (digits_split j k n))

-- ---- how many there are

ten_grows : (k : ℕ) → k < 10 ^ k
ten_grows zero = omega arith
ten_grows (suc k) = rw (pow-suc 10 k) (omega (arith, ten_grows k))

pub ten_monotone : (i k : ℕ) → i ≤ k → 10 ^ i ≤ 10 ^ k
ten_monotone i k h = pow-le-pow_right (omega arith) h

-- the test of `digits_of`
abbrev within : ℕ → ℕ → Bool
within n k = ltb n (10 ^ suc k)

-- k + 1 digits: from 10 to the k on, and below 10 to the k + 1
pub digits_of_lem : (k n : ℕ) → 10 ^ k ≤ n → n < 10 ^ suc k → digits_of n ≡ suc k
unfolding digits_of
digits_of_lem k n low high =
    ap suc
    (least_is n (within n) k (omega (arith, ten_grows k)) (lt-ltb n (10 ^ suc k) high)
    (λ i h. le-ltb n (10 ^ suc i) (omega (arith, ten_monotone (suc i) k (omega arith)))))

-- and every number lies between those powers, zero below them
pub digits_above : (n : ℕ) → n < 10 ^ digits_of n
unfolding digits_of
digits_above n = go (dec_lt (least n (within n)) n)
  where
    go : Dec (least n (within n) < n) → n < 10 ^ suc (least n (within n))
    go (yes h) = ltb-true _ _ (least_hit n (within n) h)
    go (no h) = omega (arith, ten_grows n, ten_monotone n (suc (least n (within n))) (omega arith))

pub digits_below : (k n : ℕ) → digits_of n ≡ suc k → 1 ≤ n → 10 ^ k ≤ n
unfolding digits_of
digits_below zero n e h = h
digits_below (suc k) n e h = ltb-false _ _ (least_miss n (within n) k (omega arith))

digits_some : (n : ℕ) → digits_of n ≡ suc (digits_of n - 1)
unfolding digits_of
digits_some n = omega arith

-- without its last k digits a number has k fewer
digits_lead : (k n : ℕ) → 10 ^ k ≤ n → digits_of n ≡ digits_of (n / 10 ^ k) + k
digits_lead k n h =
    let q = n / 10 ^ k in
    let j = digits_of q - 1 in
    let e : digits_of q ≡ suc j = digits_some q in
    let tens : 0 < 10 ^ k = one-le-pow k 10 (omega arith) in
    let some : 1 ≤ q = (le-div_iff_mul-le tens).1 (omega arith) in
    let low : 10 ^ (j + k) ≤ n = rw (pow-add 10 j k) (omega (arith, mul-le-mul_right (10 ^ k) (digits_below j q e some), div-mul-le_self n (10 ^ k))) in
    let under : suc q ≤ 10 ^ suc j = rw e at (digits_above q) in
    let high : n < 10 ^ (suc j + k) = rw (pow-add 10 (suc j) k) (omega (arith, mul-le-mul_right (10 ^ k) under, lt-div-mul-add {a = n} tens)) in
    digits_of_lem (j + k) n low (rw (suc-add j k) at high) ∙ omega arith

-- zero has one too
pub one_digit : (n : ℕ) → n < 10 → digits_of n ≡ 1
one_digit zero h = unfold digits_of least in refl
one_digit (suc n) h = digits_of_lem 0 (suc n) (omega arith) (omega arith)

-- ---- numbers without leading zeros

pub decimal_one : (n : ℕ) → n < 10 → decimal n ≡ last_digits 1 n
unfolding decimal
decimal_one n h = ap (λ (k : ℕ). last_digits k n) (one_digit n h)

pub decimal_digits : (k n : ℕ) → 10 ^ k ≤ n → n < 10 ^ suc k → decimal n ≡ last_digits (suc k) n
unfolding decimal
decimal_digits k n low high = ap (λ (j : ℕ). last_digits j n) (digits_of_lem k n low high)

pub length_decimal : (k n : ℕ) → decimal n ≡ last_digits k n → length (decimal n) ≡ k
length_decimal k n e = ap length e ∙ length_digits k n

-- the digits of a longer number: those of the quotient, then the last ones
pub decimal_lead : (k n : ℕ) → 10 ^ k ≤ n → decimal n ≡ decimal (n / 10 ^ k) ++ last_digits k n
unfolding decimal
decimal_lead k n h = ap (λ (j : ℕ). last_digits j n) (digits_lead k n h) ∙ digits_split (digits_of (n / 10 ^ k)) k n

-- a number below 10 to the k has at most k digits
pub decimal_short : (k n : ℕ) → 1 ≤ k → n < 10 ^ k → length (decimal n) ≤ k
unfolding decimal
decimal_short k zero l h = rw (length_digits (digits_of zero) zero, one_digit zero (omega arith)) l
decimal_short k (suc n) l h = rw (length_digits (digits_of (suc n)) (suc n)) (go (dec_lt k (digits_of (suc n))))
  where
    go : Dec (k < digits_of (suc n)) → digits_of (suc n) ≤ k
    go (yes longer) =
        let j = digits_of (suc n) - 1 in
        absurd (omega (arith, ten_monotone k j (omega arith), digits_below j (suc n) (digits_some (suc n)) (omega arith)))
    go (no shorter) = omega arith
