-- Laws of numbers: read digit by digit, and word by word.
use Rattle.std.proofs.Common.{◌≡◌, ℕ, suc, ◌+◌, ◌-◌, ◌*◌, ◌<◌, ◌≤◌, Bool, true, false, cond, ◌&&◌, eqb, leb, List, [], ◌∷◌, ◌++◌, length, get_or, take, drop, set, ℤ, sym, refl, ap, ◌∙◌, append-nil, add-one, arith, length-append, drop_of_length-le, drop-cons, take_all, take-suc-set, eq-eqb, ne_eqb, le-leb, leb-false, leb-true}
use mathlib.Core.Option.{Option, none, some}
use lib.Seq.{append_snoc}
use borrow.Author.Tests.{lt-leb, eqb-true}
use Rattle.model.specs.Lists.{all, none?}
use Rattle.model.specs.Words.{digit, spelled, positive, negative}
use Rattle.model.proofs.Basics.{true_false, and_split, and_join, and_false, none_some}
use Rattle.std.specs.Char as char
use Rattle.std.proofs.lemmas.Str.{digit_value_digit}
use Rattle.std.proofs.lemmas.Str.Parse.{digit_from_value}
use Rattle.script.specs.Numbers.{whole_of, highest, deepest, number_of, both, numbers_of, no_more_than}

-- ---- digits

-- what std counts a decimal digit for
pub a_decimal : (b d : ℕ) → (char.digit_value b < 10) × (d ≡ char.digit_value b) → (digit b ≡ true) × (d ≡ b - 48)
a_decimal b d h =
    let r = digit_from_value b h.0 in
    (and_join (le-leb 48 b (omega (arith, r))) (le-leb b 57 (omega (arith, r))), omega (arith, digit_value_digit b r, h.1))

pub no_decimal : (b : ℕ) → (char.digit_value b < 10 → ⊥) → digit b ≡ false
no_decimal b h = pick (digit b) refl
  where
    pick : (t : Bool) → digit b ≡ t → t ≡ false
    pick true e =
        let s = and_split (leb 48 b) (leb b 57) e in
        let r : (48 ≤ b) × (b ≤ 57) = (leb-true 48 b s.0, leb-true b 57 s.1) in
        absurd (h (omega (arith, digit_value_digit b r, r)))
    pick false e = refl

spelled_grows : (l : List ℕ) (a : ℕ) → a ≤ spelled a l
unfolding spelled
spelled_grows [] a = omega arith
spelled_grows (b ∷ bs) a = omega (arith, spelled_grows bs (10 * a + (b - 48)))

-- what digits spell after others that spell a, if it is at most so much
abbrev pub whole_from : ℕ → ℕ → List ℕ → Option ℕ
whole_from most a w = cond (all digit w && leb (spelled a w) most) (some (spelled a w)) none

module _ (most : ℕ) where
  pub whole_some : (w : List ℕ) → eqb (length w) 0 ≡ false → whole_of most w ≡ whole_from most 0 w
  unfolding whole_of none?
  whole_some [] h = true_false h
  whole_some (b ∷ bs) h = refl

  pub whole_none : (w : List ℕ) → eqb (length w) 0 ≡ true → whole_of most w ≡ none
  unfolding whole_of none?
  whole_none [] h = refl
  whole_none (b ∷ bs) h = absurd (omega (arith, eqb-true (length (b ∷ bs)) 0 h))

  pub whole_above : (l : List ℕ) (a : ℕ) → most < a → whole_from most a l ≡ none
  whole_above l a h = rw (lt-leb (spelled a l) most (omega (arith, spelled_grows l a)), and_false (all digit l))

  -- at most so much
  pub whole_bound : (w : List ℕ) (n : ℕ) → whole_of most w ≡ some n → n ≤ most
  unfolding whole_of none?
  whole_bound [] n = λ q. none_some q
  whole_bound (b ∷ bs) n = pick (all digit (b ∷ bs)) (leb (spelled 0 (b ∷ bs)) most) refl
    where
      pick : (s t : Bool) → leb (spelled 0 (b ∷ bs)) most ≡ t → cond (s && t) (some (spelled 0 (b ∷ bs))) none ≡ some n → n ≤ most
      pick true true h q = let e : spelled 0 (b ∷ bs) ≡ n = cc in omega (arith, leb-true (spelled 0 (b ∷ bs)) most h)
      pick true false h q = none_some q
      pick false t h q = none_some q

  module _ (w : List ℕ) (a i : ℕ) where
    pub whole_next : i < length w → digit (get_or w i 0) ≡ true → whole_from most a (drop i w) ≡ whole_from most (10 * a + (get_or w i 0 - 48)) (drop (i + 1) w)
    unfolding all spelled
    whole_next h t = ap (whole_from most a) (drop-cons w i 0 h) ∙ rw (add-one i, t)

    pub whole_stop : i < length w → digit (get_or w i 0) ≡ false → whole_from most a (drop i w) ≡ none
    unfolding all spelled
    whole_stop h t = ap (whole_from most a) (drop-cons w i 0 h) ∙ rw t

    pub whole_end : length w ≤ i → a ≤ most → whole_from most a (drop i w) ≡ some a
    unfolding all spelled
    whole_end h g = ap (whole_from most a) (drop_of_length-le w h) ∙ rw (le-leb a most g)

-- ---- a sign

pub number_none : (w : List ℕ) → length w ≡ 0 → number_of w ≡ none
unfolding number_of
number_none [] h = refl
number_none (b ∷ bs) h = absurd (omega arith)

pub number_minus : (w : List ℕ) → 1 ≤ length w → get_or w 0 0 ≡ 45 → number_of w ≡ negative (whole_of deepest (take (length w - 1) (drop 1 w)))
unfolding number_of
number_minus [] h e = absurd (omega arith)
number_minus (b ∷ bs) h e = rw (eq-eqb b 45 e, take_all (suc (length bs) - 1) bs (omega arith))

pub number_plain : (w : List ℕ) → (1 ≤ length w → get_or w 0 0 ≡ 45 → ⊥) → number_of w ≡ positive (whole_of highest w)
unfolding number_of whole_of none? positive
number_plain [] h = refl
number_plain (b ∷ bs) h = rw (ne_eqb b 45 (h (omega arith)))

-- ---- a run of numbers

-- those that were read, and behind them what the words left are
abbrev pub behind : List ℤ → Option (List ℤ) → Option (List ℤ)
behind ys none = none
behind ys (some zs) = some (ys ++ zs)

pub behind_none : (o : Option (List ℤ)) → o ≡ behind [] o
behind_none none = refl
behind_none (some zs) = refl

behind_one : (ys : List ℤ) (z : ℤ) (o : Option (List ℤ)) → behind ys (both (some z) o) ≡ behind (ys ++ (z ∷ [])) o
unfolding both
behind_one ys z none = refl
behind_one ys z (some zs) = ap some (sym (append_snoc ys z zs))

-- one number more stands in the lent run
pub behind_next : (run : List ℤ) (n : ℕ) (z : ℤ) (w : List ℕ) (ws : List (List ℕ)) → n < length run → number_of w ≡ some z →
    behind (take n run) (numbers_of (w ∷ ws)) ≡ behind (take (n + 1) (set run n z)) (numbers_of ws)
unfolding numbers_of
behind_next run n z w ws h e = rw (e, add-one n, take-suc-set run n z h) (behind_one (take n run) z (numbers_of ws))

-- ---- the ways out

module _ (places : ℕ) (ys : List ℤ) where
  -- a word that is no number
  pub run_wrong : (w : List ℕ) (ws : List (List ℕ)) → number_of w ≡ none → no_more_than places (behind ys (numbers_of (w ∷ ws))) ≡ none
  unfolding numbers_of both no_more_than
  run_wrong w ws e = rw e

  -- a word more than there are places
  pub run_full : (w : List ℕ) (ws : List (List ℕ)) → places ≤ length ys → no_more_than places (behind ys (numbers_of (w ∷ ws))) ≡ none
  unfolding numbers_of both no_more_than
  run_full w ws h = pick (number_of w) (numbers_of ws)
    where
      pick : (o : Option ℤ) (p : Option (List ℤ)) → no_more_than places (behind ys (both o p)) ≡ none
      pick none p = refl
      pick (some z) none = refl
      pick (some z) (some zs) = rw (lt-leb (length (ys ++ z ∷ zs)) places (omega (arith, length-append ys (z ∷ zs))))

  -- no word is left
  pub run_end : length ys ≤ places → no_more_than places (behind ys (numbers_of [])) ≡ some ys
  unfolding numbers_of no_more_than
  run_end h = rw (append-nil ys, le-leb (length ys) places h)

-- what was read are all the words
pub told_all : (places : ℕ) (ys : List ℤ) (o : Option (List ℤ)) → some ys ≡ no_more_than places o → o ≡ some ys
unfolding no_more_than
told_all places ys none e = none_some (sym e)
told_all places ys (some zs) e = pick (leb (length zs) places) e
  where
    pick : (t : Bool) → some ys ≡ cond t (some zs) none → some zs ≡ some ys
    pick true q = sym q
    pick false q = none_some (sym q)

-- what was not read is no run of so many numbers
pub untold : (places : ℕ) (zs : List ℤ) → none ≡ no_more_than places (some zs) → places < length zs
unfolding no_more_than
untold places zs = pick (leb (length zs) places) refl
  where
    pick : (t : Bool) → leb (length zs) places ≡ t → none ≡ cond t (some zs) none → places < length zs
    pick true e q = none_some q
    pick false e q = omega (arith, leb-false (length zs) places e)
