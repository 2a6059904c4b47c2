-- A word read byte by byte is the number that document 01 says.
use Prim.Native.Nat.{ℕ, zero, suc, ◌+◌, ◌*◌, ◌-◌, ◌/◌, ◌^◌, ◌≤◌, ◌<◌}
use mathlib.Core.Path.{◌≡◌, refl, sym, ap, ◌∙◌}
use mathlib.Core.List.{List, [], ◌∷◌}
use mathlib.Core.Bool.{Bool, true, false, cond, ◌&&◌}
use mathlib.Core.Logic.{⊎_elim}
use mathlib.Core.Option.{Option, none, some}
use native.Mathlib.Nat.{zero-add, add-zero, mul_assoc, mul_comm, add-mul, pow-suc, sub-zero, one-le-pow}
use native.Mathlib.Omega.{arith}
use native.Mathlib.Decide.{dec_lt}
use borrow.Author.Tests.{ne_eqb, le-leb, lt-leb, lt-ltb, le-ltb, eqb-true}
use lib.Dec.{eqb, leb, ltb, leb-suc-suc, leb-zero}
use lib.IntN.{ℤ}
use lib.ListN.{length}
use Rattle.model.specs.Limits.{whole_digits, decimals, million}
use Rattle.model.specs.Lists.{all, between, pieces, ahead}
use Rattle.model.specs.Words.{digit, digits?, spelled, magnitude, positive, negative, number}
use Rattle.model.proofs.Basics.{and_false, either}
use Rattle.text.specs.declared.numbers.Num.TheVariants.{Minus, Whole, Point, Part, Wrong}
use Rattle.text.specs.Claims.{ByteByByte}
use Rattle.text.specs.Numbers.{first, folded, valued}
use Rattle.text.specs.Values.{with_sign}

-- a magnitude with its sign
sign_of : Bool → Option ℕ → Option ℤ
sign_of true o = negative o
sign_of false o = positive o

sign_none : (g : Bool) → sign_of g none ≡ none
unfolding sign_of negative positive
sign_none true = refl
sign_none false = refl

sign_some : (g : Bool) (v : ℕ) → some (with_sign g v) ≡ sign_of g (some v)
unfolding sign_of negative positive
sign_some true v = refl
sign_some false v = refl

pub wrong_stays : (l : List ℕ) → folded Wrong l ≡ Wrong
unfolding folded
wrong_stays [] = refl
wrong_stays (b ∷ bs) = wrong_stays bs

-- ---- decimals

-- the weight of the next decimal, where n are left
weight : ℕ → ℕ
weight zero = 0
weight (suc n) = 10 ^ n

weight_next : (n : ℕ) → 10 ^ n / 10 ≡ weight n
unfolding weight
weight_next zero = refl
weight_next (suc n) = rw (pow-suc 10 n) (omega arith)

-- a decimal is added with its weight, or the digits so far are read on
pub weigh : (base s d n : ℕ) → base + s * 10 ^ suc n + d * 10 ^ n ≡ base + (10 * s + d) * 10 ^ n
weigh base s d n =
    let p = 10 ^ n in
    let e : s * 10 ^ suc n ≡ 10 * s * p = ap (λ (q : ℕ). s * q) (pow-suc 10 n ∙ mul_comm p 10) ∙ sym (mul_assoc s 10 p) ∙ ap (λ (q : ℕ). q * p) (mul_comm s 10) in
    omega (arith, e, add-mul (10 * s) d p)

-- the decimals f after those that spell s, where n are left
abbrev decimals_from : ℕ → ℕ → ℕ → List ℕ → Option ℕ
decimals_from base s n f = cond (leb (length f) n && all digit f) (some (base + spelled s f * 10 ^ (n - length f))) none

module _ (g : Bool) (base : ℕ) where
  -- what the machine and the definition say of the decimals f
  abbrev Decimals : ℕ → ℕ → List ℕ → Type 0
  Decimals s n f = valued (folded (Part g (base + s * 10 ^ n) (weight n)) f) ≡ sign_of g (decimals_from base s n f)

  part_end : (s n : ℕ) → Decimals s n []
  unfolding folded all spelled
  part_end s n = rw (leb-zero n, sub-zero n) (sign_some g (base + s * 10 ^ n))

  part_full : (b : ℕ) (bs : List ℕ) (s : ℕ) → Decimals s 0 (b ∷ bs)
  unfolding folded weight
  part_full b bs s = rw (wrong_stays bs, lt-leb (suc (length bs)) 0 (omega arith)) (sym (sign_none g))

  part_on : (b : ℕ) (bs : List ℕ) (s n : ℕ) (t : Bool) → digit b ≡ t → Decimals (10 * s + (b - 48)) n bs → Decimals s (suc n) (b ∷ bs)
  unfolding folded weight all spelled
  part_on b bs s n true e ih =
      let z : suc n - suc (length bs) ≡ n - length bs = omega arith in
      rw (ne_eqb (10 ^ n) 0 (λ h. omega (arith, one-le-pow n 10 (omega arith))), e, weigh base s (b - 48) n, weight_next n, leb-suc-suc (length bs) n, z) ih
  part_on b bs s n false e ih =
      rw (ne_eqb (10 ^ n) 0 (λ h. omega (arith, one-le-pow n 10 (omega arith))), e, wrong_stays bs, and_false (leb (suc (length bs)) (suc n))) (sym (sign_none g))

  part_law : (f : List ℕ) (s n : ℕ) → Decimals s n f
  part_law [] s n = part_end s n
  part_law (b ∷ bs) s zero = part_full b bs s
  part_law (b ∷ bs) s (suc n) = part_on b bs s n (digit b) refl (part_law bs (10 * s + (b - 48)) n)

  -- all the decimals
  abbrev fraction : List ℕ → Option ℕ
  fraction f = cond (digits? decimals f) (some (base + spelled 0 f * 10 ^ (decimals - length f))) none

  point_law : (f : List ℕ) → valued (folded (Point g base) f) ≡ sign_of g (fraction f)
  unfolding folded digits? weight
  point_law [] = sym (sign_none g)
  point_law (b ∷ bs) =
      let o : leb 1 (suc (length bs)) ≡ true = le-leb 1 (suc (length bs)) (omega arith) in
      rw o (ap (λ (v : ℕ). valued (folded (Part g v (10 ^ (decimals - 1))) (b ∷ bs))) (sym (add-zero base)) ∙ part_law (b ∷ bs) 0 decimals)

  no_fraction : (f : List ℕ) → all digit f ≡ false → fraction f ≡ none
  unfolding digits?
  no_fraction f d = rw (d, and_false (between 1 decimals (length f)))

-- ---- the pieces around the points

-- a word has no point, or it has further pieces and is not all digits
pub data Cut (l : List ℕ) : Type 0 where
  whole : pieces 46 l ≡ l ∷ [] → Cut l
  more : (f h : List ℕ) (hs : List (List ℕ)) → pieces 46 l ≡ f ∷ h ∷ hs → all digit l ≡ false → Cut l

cut_on : (b : ℕ) (bs : List ℕ) → eqb b 46 ≡ false → Cut bs → Cut (b ∷ bs)
unfolding pieces ahead all
cut_on b bs e (whole p) = whole (rw (e, p))
cut_on b bs e (more f h hs p q) = more (b ∷ f) h hs (rw (e, p)) (rw q (and_false (digit b)))

cut_point : (b : ℕ) (bs : List ℕ) → eqb b 46 ≡ true → Cut bs → Cut (b ∷ bs)
unfolding pieces ahead all
cut_point b bs e (whole p) = more [] bs [] (rw (e, p)) (rw (eqb-true b 46 e))
cut_point b bs e (more f h hs p q) = more [] f (h ∷ hs) (rw (e, p)) (rw (eqb-true b 46 e))

pub cut : (l : List ℕ) → Cut l
unfolding pieces
cut [] = whole refl
cut (b ∷ bs) = ⊎_elim (λ e. cut_point b bs e (cut bs)) (λ e. cut_on b bs e (cut bs)) (either (eqb b 46))

-- ---- digits before the point

-- the digits w after k that spell v
abbrev fit : ℕ → List ℕ → Bool
fit k w = between 1 whole_digits (k + length w) && all digit w

mag_from : ℕ → ℕ → List (List ℕ) → Option ℕ
mag_from k v [] = none
mag_from k v (w ∷ []) = cond (fit k w) (some (spelled v w * million)) none
mag_from k v (w ∷ f ∷ []) = cond (fit k w && digits? decimals f) (some (spelled v w * million + spelled 0 f * 10 ^ (decimals - length f))) none
mag_from k v (w ∷ f ∷ h ∷ hs) = none

mag_all : (ps : List (List ℕ)) → magnitude ps ≡ mag_from 0 0 ps
unfolding magnitude mag_from digits?
mag_all [] = refl
mag_all (w ∷ []) = rw (zero-add (length w))
mag_all (w ∷ f ∷ []) = rw (zero-add (length w))
mag_all (w ∷ f ∷ h ∷ hs) = refl

mag_unfit : (k v : ℕ) (w : List ℕ) (ps : List (List ℕ)) → fit k w ≡ false → mag_from k v (w ∷ ps) ≡ none
unfolding mag_from
mag_unfit k v w [] e = rw e
mag_unfit k v w (f ∷ []) e = rw e
mag_unfit k v w (f ∷ h ∷ hs) e = refl

fit_on : (k b : ℕ) (w : List ℕ) → digit b ≡ true → fit k (b ∷ w) ≡ fit (k + 1) w
unfolding all
fit_on k b w e = let z : k + suc (length w) ≡ k + 1 + length w = omega arith in rw (e, z)

mag_on : (k v b : ℕ) (w : List ℕ) (ps : List (List ℕ)) → digit b ≡ true → mag_from k v ((b ∷ w) ∷ ps) ≡ mag_from (k + 1) (10 * v + (b - 48)) (w ∷ ps)
unfolding mag_from spelled
mag_on k v b w [] e = rw (fit_on k b w e)
mag_on k v b w (f ∷ []) e = rw (fit_on k b w e)
mag_on k v b w (f ∷ h ∷ hs) e = refl

fit_byte : (k b : ℕ) (w : List ℕ) → digit b ≡ false → fit k (b ∷ w) ≡ false
unfolding all
fit_byte k b w e = rw e (and_false (between 1 whole_digits (k + suc (length w))))

fit_full : (k b : ℕ) (w : List ℕ) → whole_digits ≤ k → fit k (b ∷ w) ≡ false
fit_full k b w h = rw (lt-leb (k + suc (length w)) whole_digits (omega arith), and_false (leb 1 (k + suc (length w))))

fit_none : (k : ℕ) → 1 ≤ k → k ≤ whole_digits → fit k [] ≡ true
unfolding all
fit_none k l h = rw (add-zero k, le-leb 1 k l, le-leb k whole_digits h)

record Pieces (l : List ℕ) : Type 0 where
  head : List ℕ
  tail : List (List ℕ)
  are : pieces 46 l ≡ head ∷ tail

some_pieces : (l : List ℕ) → Cut l → Pieces l
some_pieces l (whole p) = record { head = l; tail = []; are = p }
some_pieces l (more f h hs p q) = record { head = f; tail = h ∷ hs; are = p }

module _ (g : Bool) where
  -- what the machine and the definition say of the bytes l after k digits that spell v
  abbrev Digits : ℕ → ℕ → List ℕ → Type 0
  Digits k v l = valued (folded (Whole g k v) l) ≡ sign_of g (mag_from k v (pieces 46 l))

  whole_end : (k v : ℕ) → 1 ≤ k → k ≤ whole_digits → Digits k v []
  unfolding folded pieces mag_from spelled
  whole_end k v l h = rw (fit_none k l h) (sign_some g (v * million))

  whole_point : (k v b : ℕ) (bs : List ℕ) → 1 ≤ k → k ≤ whole_digits → eqb b 46 ≡ true → Cut bs → Digits k v (b ∷ bs)
  unfolding folded pieces mag_from spelled
  whole_point k v b bs l h e (whole p) = rw (e, p, fit_none k l h) (point_law g (v * million) bs)
  whole_point k v b bs l h e (more f m ms p q) =
      rw (e, p) (point_law g (v * million) bs ∙ ap (sign_of g) (no_fraction g (v * million) bs q))

  whole_digit : (k v b : ℕ) (bs : List ℕ) → k < whole_digits → eqb b 46 ≡ false → digit b ≡ true → Digits (k + 1) (10 * v + (b - 48)) bs → Digits k v (b ∷ bs)
  unfolding folded pieces ahead
  whole_digit k v b bs h e d ih =
      let p = some_pieces bs (cut bs) in
      rw (e, d, lt-ltb k whole_digits h, p.are, mag_on k v b p.head p.tail d) (rw p.are at ih)

  whole_stop : (k v b : ℕ) (bs : List ℕ) → eqb b 46 ≡ false → (digit b && ltb k whole_digits) ≡ false → ((w : List ℕ) → fit k (b ∷ w) ≡ false) → Digits k v (b ∷ bs)
  unfolding folded pieces ahead
  whole_stop k v b bs e d f =
      let p = some_pieces bs (cut bs) in
      rw (e, d, p.are, mag_unfit k v (b ∷ p.head) p.tail (f p.head), wrong_stays bs) (sym (sign_none g))

  whole_law : (l : List ℕ) (k v : ℕ) → 1 ≤ k → k ≤ whole_digits → Digits k v l
  whole_law [] k v l h = whole_end k v l h
  whole_law (b ∷ bs) k v l h =
      ⊎_elim (λ e. whole_point k v b bs l h e (cut bs))
      (λ e.
      ⊎_elim
      (λ d. room e d (dec_lt k whole_digits) (λ j. whole_law bs (k + 1) (10 * v + (b - 48)) (omega arith) (omega arith)))
      (λ d. whole_stop k v b bs e (rw d) (λ w. fit_byte k b w d))
      (either (digit b)))
      (either (eqb b 46))
    where
      room : eqb b 46 ≡ false → digit b ≡ true → Dec (k < whole_digits) → (k < whole_digits → Digits (k + 1) (10 * v + (b - 48)) bs) → Digits k v (b ∷ bs)
      room e d (yes j) f = whole_digit k v b bs j e d (f j)
      room e d (no j) f = whole_stop k v b bs e (rw (d, le-ltb k whole_digits (omega arith))) (λ w. fit_full k b w (omega arith))

  -- ---- a whole word behind its minus

  abbrev First : ℕ → List ℕ → Type 0
  First b bs = valued (folded (first g b) bs) ≡ sign_of g (magnitude (pieces 46 (b ∷ bs)))

  first_none : (b : ℕ) (bs : List ℕ) → digit b ≡ false → mag_from 0 0 (pieces 46 (b ∷ bs)) ≡ none → First b bs
  first_none b bs d e = rw (d, mag_all (pieces 46 (b ∷ bs)), e, wrong_stays bs) (sym (sign_none g))

  first_point : (b : ℕ) (bs : List ℕ) → eqb b 46 ≡ true → First b bs
  unfolding pieces
  first_point b bs e = first_none b bs (ap digit (eqb-true b 46 e)) (rw e (mag_unfit 0 0 [] (pieces 46 bs) no_digits))
    where
      no_digits : fit 0 [] ≡ false
      no_digits = refl

  first_digit : (b : ℕ) (bs : List ℕ) → eqb b 46 ≡ false → digit b ≡ true → First b bs
  unfolding pieces ahead
  first_digit b bs e d =
      let p = some_pieces bs (cut bs) in
      rw (mag_all (pieces 46 (b ∷ bs)), e, d, p.are, mag_on 0 0 b p.head p.tail d, zero-add (b - 48))
      (rw p.are at (whole_law bs 1 (b - 48) (omega arith) (omega arith)))

  first_byte : (b : ℕ) (bs : List ℕ) → eqb b 46 ≡ false → digit b ≡ false → First b bs
  unfolding pieces ahead
  first_byte b bs e d =
      let p = some_pieces bs (cut bs) in
      first_none b bs d (rw (e, p.are) (mag_unfit 0 0 (b ∷ p.head) p.tail (fit_byte 0 b p.head d)))

  first_law : (b : ℕ) (bs : List ℕ) → First b bs
  first_law b bs =
      ⊎_elim (first_point b bs) (λ e. ⊎_elim (first_digit b bs e) (first_byte b bs e) (either (digit b))) (either (eqb b 46))

minus_law : (bs : List ℕ) → valued (folded Minus bs) ≡ negative (magnitude (pieces 46 bs))
unfolding folded sign_of pieces magnitude digits? negative
minus_law [] = refl
minus_law (b ∷ bs) = first_law true b bs

-- the number of document 01
pub number_read : ByteByByte
unfolding folded number sign_of
number_read [] = refl
number_read (b ∷ bs) =
    ⊎_elim (λ e. rw e (sym (minus_law bs))) (λ e. rw e (sym (first_law false b bs))) (either (eqb b 45))
