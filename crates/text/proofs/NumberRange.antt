-- Ranges of the number reader: a byte keeps what was read so far within them.
use Prim.Native.Nat.{ℕ, ◌+◌, ◌*◌, ◌-◌, ◌/◌, ◌^◌, ◌≤◌, ◌<◌}
use mathlib.Core.Path.{◌≡◌, refl, ap, ◌∙◌}
use mathlib.Core.Bool.{Bool, true, false, cond, ◌&&◌}
use native.Mathlib.Nat.{mul-le-mul_right, pow-suc}
use native.Mathlib.Numerals.{add-one}
use native.Mathlib.Omega.{arith}
use borrow.Author.Tests.{leb-true, ltb-true}
use lib.Dec.{eqb, leb, ltb}
use Rattle.model.specs.Limits.{whole_digits, decimals, million}
use Rattle.model.specs.Words.{digit}
use Rattle.model.proofs.Basics.{and_split}
use Rattle.model.proofs.Digits.{ten_monotone}
use Rattle.text.specs.declared.numbers.Num.{Num}
use Rattle.text.specs.declared.numbers.Num.TheVariants.{Start, Minus, Whole, Point, Part, Wrong}
use Rattle.text.specs.Numbers.{first, part, stepped, bound, Good}

-- ---- a digit

pub record Digit (b : ℕ) : Type 0 where
  pub low : 48 ≤ b
  pub high : b ≤ 57

pub digit_is : (b : ℕ) → digit b ≡ true → Digit b
digit_is b e = let s = and_split (leb 48 b) (leb b 57) e in record { low = leb-true 48 b s.0; high = leb-true b 57 s.1 }

pub digit_weight : (b w : ℕ) → digit b ≡ true → (b - 48) * w ≤ 9 * w
digit_weight b w e = let d = digit_is b e in mul-le-mul_right w (omega arith)

-- ---- one byte

good_first : (g : Bool) (b : ℕ) (t : Bool) → digit b ≡ t → Good (cond t (Whole g 1 (b - 48)) Wrong)
good_first g b false e = tt
good_first g b true e = let d = digit_is b e in (omega arith, omega arith)

good_part : (g : Bool) (v w b : ℕ) → v + 10 * w ≤ bound → (t : Bool) → digit b ≡ t → Good (cond t (Part g (v + (b - 48) * w) (w / 10)) Wrong)
good_part g v w b h false e = tt
good_part g v w b h true e = omega (arith, digit_weight b w e)

good_whole : (g : Bool) (k v b : ℕ) → k ≤ whole_digits → v < 10 ^ k → (t u : Bool) → (digit b && ltb k whole_digits) ≡ u →
    Good (cond t (Point g (v * million)) (cond u (Whole g (k + 1) (10 * v + (b - 48))) Wrong))
good_whole g k v b hk hv true u e = omega (arith, ten_monotone k whole_digits hk)
good_whole g k v b hk hv false false e = tt
good_whole g k v b hk hv false true e =
    let s = and_split (digit b) (ltb k whole_digits) e in
    let d = digit_is b s.0 in
    let p : 10 ^ (k + 1) ≡ 10 ^ k * 10 = ap (λ (j : ℕ). 10 ^ j) (add-one k) ∙ pow-suc 10 k in
    (omega (arith, ltb-true k whole_digits s.1), omega (arith, p))

good_minus : (b : ℕ) (t : Bool) → Good (cond t Minus (first false b))
good_minus b true = tt
good_minus b false = good_first false b (digit b) refl

good_weight : (g : Bool) (v w b : ℕ) → v + 10 * w ≤ bound → (t : Bool) → Good (cond t Wrong (part g v w b))
good_weight g v w b h true = tt
good_weight g v w b h false = good_part g v w b h (digit b) refl

pub good_stepped : (n : Num) (b : ℕ) → Good n → Good (stepped n b)
good_stepped Start b h = good_minus b (eqb b 45)
good_stepped Minus b h = good_first true b (digit b) refl
good_stepped (Whole g k v) b h = good_whole g k v b h.0 h.1 (eqb b 46) (digit b && ltb k whole_digits) refl
good_stepped (Point g v) b h = good_part g v (10 ^ (decimals - 1)) b h (digit b) refl
good_stepped (Part g v w) b h = good_weight g v w b h (eqb w 0)
good_stepped Wrong b h = tt
