-- Laws of written texts and of their lengths.
use Prim.Native.Nat.{ℕ, suc, ◌+◌, ◌-◌, ◌*◌, ◌/◌, ◌%◌, ◌^◌, ◌≤◌, ◌<◌}
use mathlib.Core.Path.{◌≡◌, refl, sym, ap, ◌∙◌}
use mathlib.Core.List.{List, [], ◌∷◌, ◌++◌, append_assoc, append-nil}
use mathlib.Core.Bool.{true, false, false≢true}
use native.Mathlib.Nat.{add-zero, div-lt_iff_lt-mul}
use native.Mathlib.Numerals.{add-one}
use native.Mathlib.Omega.{arith}
use lib.IntN.{ℤ, pos, negsuc, nat_abs}
use lib.Signed.{lt_z}
use lib.ListN.{length, take, drop, get_or, set, length-set, length-append, length-take, length-drop, drop_of_length-le}
use lib.Seq.{sets, sets-eq, take_all, take-append_seam, drop-cons, drop-drop}
use borrow.Author.Tests.{ltb-true, le-ltb}
use borrow.Rule.Slice.PartMut.{put_mid}
use Rattle.model.specs.Lists.{joined}
use Rattle.model.specs.Limits.{million, decimals}
use Rattle.model.specs.Machine.{written}
use Rattle.model.specs.Reply.{last_digits, decimal, value}
use Rattle.model.proofs.Digits.{length_digits, digits_split, decimal_lead, decimal_short}
use Rattle.print.specs.Over.{over, Wrote, millionths}

-- ---- one text over a part

pub length_over : (ys xs : List ℕ) (i : ℕ) → length (over xs i ys) ≡ length xs
unfolding over
length_over [] xs i = refl
length_over (y ∷ ys) xs i = length_over ys (set xs i y) (i + 1) ∙ length-set xs i y

pub over_append : (ys zs xs : List ℕ) (i : ℕ) → over xs i (ys ++ zs) ≡ over (over xs i ys) (i + length ys) zs
unfolding over
over_append [] zs xs i = ap (λ (j : ℕ). over xs j zs) (sym (add-zero i))
over_append (y ∷ ys) zs xs i =
    over_append ys zs (set xs i y) (i + 1) ∙ ap (λ (j : ℕ). over (over (set xs i y) (i + 1) ys) j zs) (omega arith)

over_sets : (ys xs : List ℕ) (i : ℕ) → over xs i ys ≡ sets xs i ys
unfolding over
over_sets [] xs i = refl
over_sets (y ∷ ys) xs i = over_sets ys (set xs i y) (i + 1) ∙ ap (λ (j : ℕ). sets (set xs i y) j ys) (omega arith)

-- with room for it, the text stands between what was before it and what was after it
pub over_split : (ys xs : List ℕ) (i : ℕ) → i + length ys ≤ length xs → over xs i ys ≡ take i xs ++ (ys ++ drop (i + length ys) xs)
over_split ys xs i h = over_sets ys xs i ∙ sets-eq ys xs i h ∙ append_assoc (take i xs) ys (drop (i + length ys) xs)

-- from the front it is the definitions' `written`
pub over_front : (ys xs : List ℕ) → length ys ≤ length xs → over xs 0 ys ≡ written ys xs
over_front ys xs h = let e : 0 + length ys ≡ length ys = omega arith in over_split ys xs 0 (omega arith) ∙ ap (λ (n : ℕ). ys ++ drop n xs) e

-- and it is what the first bytes are
pub over_first : (ys xs : List ℕ) → length ys ≤ length xs → take (length ys) (over xs 0 ys) ≡ ys
over_first ys xs h = ap (take (length ys)) (over_front ys xs h) ∙ take-append_seam ys (drop (length ys) xs)

-- a copy, by what is left of the text at index i: a turn, and the end
module _ (t xs : List ℕ) (at i : ℕ) where
  pub over_turn : i < length t → over xs (at + i) (drop i t) ≡ over (set xs (at + i) (get_or t i 0)) (at + (i + 1)) (drop (i + 1) t)
  unfolding over
  over_turn h =
      let e : at + i + 1 ≡ at + suc i = omega arith in
      ap (over xs (at + i)) (drop-cons t i 0 h) ∙ rw (add-one i) (ap (λ (j : ℕ). over (set xs (at + i) (get_or t i 0)) j (drop (suc i) t)) e)

  pub over_done : length t ≤ i → over xs (at + i) (drop i t) ≡ xs
  unfolding over
  over_done h = rw (drop_of_length-le t h)

-- ---- one writer after another

pub wrote_none : (xs : List ℕ) (at : ℕ) → Wrote [] xs at xs at
unfolding over
wrote_none xs at = record { place = omega arith; bytes = refl }

module _ {t u xs ys zs : List ℕ} {at i j : ℕ} where
  pub wrote_then : Wrote t xs at ys i → Wrote u ys i zs j → Wrote (t ++ u) xs at zs j
  wrote_then a b =
      record {
        place = rw length-append (omega (arith, a.place, b.place));
        bytes = b.bytes ∙ rw (a.bytes, a.place) (sym (over_append t u xs at));
      }

-- the last of some joined texts
pub wrote_end : {t xs ys : List ℕ} {at i : ℕ} → Wrote t xs at ys i → Wrote (t ++ []) xs at ys i
wrote_end {t} a = rw (append-nil t) a

-- a text written at the front of the rest of a part is written into the part
pub wrote_part : {t y : List ℕ} (b : List ℕ) (at : ℕ) {n : ℕ} → at + length t ≤ length b → Wrote t (take (length b - at) (drop at b)) 0 y n → Wrote t b at (put_mid at (length b - at) b y) (at + n)
wrote_part {t} {y} b at h w =
    let p = drop at b in
    let long : length p ≡ length b - at = length-drop at b in
    let whole : take (length b - at) p ≡ p = take_all (length b - at) p (omega arith) in
    let none : drop (length b - at) p ≡ [] = drop_of_length-le p {i = length b - at} (omega arith) in
    let ey : y ≡ t ++ drop (at + length t) b = w.bytes ∙ rw whole (over_front t p (omega arith) ∙ rw (drop-drop (length t) at b)) in
    record { place = omega (arith, w.place); bytes = rw (none, append-nil y, ey) (sym (over_split t b at h)) }

-- there is as much room in the rest of a part as the part has left
pub rest_room : (b : List ℕ) (at n : ℕ) → at + n ≤ length b → n ≤ length (take (length b - at) (drop at b))
rest_room b at n h = rw (length-take, length-drop) (omega arith)

-- written from the start, a text is the definitions' `written`
pub wrote_front : {t b a : List ℕ} {next : ℕ} → length t ≤ length b → Wrote t b 0 a next → (a ≡ written t b) × (next ≡ length t)
wrote_front {t} {b} h p = (p.bytes ∙ over_front t b h, omega (arith, p.place))

-- and the first bytes are it
pub wrote_first : {t b a : List ℕ} {next : ℕ} → length t ≤ length b → Wrote t b 0 a next → (next ≤ length a) × (take next a ≡ t)
wrote_first {t} {b} h p =
    let n = (wrote_front h p).1 in
    (rw (p.bytes, length_over) (omega (arith, n)), rw (n, p.bytes) (over_first t b h))

-- ---- digits: the leading ones, then the last k

module _ (k n : ℕ) {xs ys zs : List ℕ} {at i r : ℕ} where
  pub wrote_digits : (j : ℕ) → Wrote (last_digits j (n / 10 ^ k)) xs at ys i → Wrote (last_digits k n) ys i zs r → Wrote (last_digits (j + k) n) xs at zs r
  wrote_digits j a b = rw (digits_split j k n) (wrote_then a b)

  pub wrote_lead : 10 ^ k ≤ n → Wrote (decimal (n / 10 ^ k)) xs at ys i → Wrote (last_digits k n) ys i zs r → Wrote (decimal n) xs at zs r
  wrote_lead h a b = rw (decimal_lead k n h) (wrote_then a b)

pub length_lead : (k n : ℕ) → 10 ^ k ≤ n → length (decimal n) ≡ length (decimal (n / 10 ^ k)) + k
length_lead k n h = rw (decimal_lead k n h, length-append, length_digits k n)

-- ---- values

pub value_above : (z : ℤ) → lt_z z (pos 0) ≡ false → value z ≡ millionths (nat_abs z)
unfolding value millionths joined
value_above (pos n) t = refl
value_above (negsuc n) t = absurd (false≢true (sym t))

pub value_below : (z : ℤ) → lt_z z (pos 0) ≡ true → value z ≡ 45 ∷ millionths (nat_abs z)
unfolding value millionths joined
value_below (pos n) t = let h = ltb-true n 0 t in absurd (omega arith)
value_below (negsuc n) t = refl

pub length_millionths : (m : ℕ) → length (millionths m) ≡ length (decimal (m / million)) + 7
unfolding millionths joined
length_millionths m =
    simp (length-append, append-nil) (omega (arith, length_digits decimals (m % million)))

-- ---- the longest texts

-- a value of at most k digits before the point
pub value_short : (k : ℕ) (z : ℤ) → 1 ≤ k → nat_abs z < 10 ^ k * million → length (value z) ≤ k + 8
value_short k z l h = omega (arith, signed z, length_millionths (nat_abs z), decimal_short k (nat_abs z / million) l ((div-lt_iff_lt-mul (omega arith)).1 h))
  where
    signed : (z : ℤ) → length (value z) ≤ suc (length (millionths (nat_abs z)))
    signed (pos n) = omega (arith, ap length (value_above (pos n) (le-ltb n 0 (omega arith))))
    signed (negsuc n) = omega (arith, ap length (value_below (negsuc n) refl))
