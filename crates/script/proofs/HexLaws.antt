-- Laws of pairs of digits, read and written.
use Rattle.std.proofs.Common.{◌≡◌, ℕ, suc, ◌+◌, ◌*◌, ◌/◌, ◌%◌, ◌<◌, ◌≤◌, Bool, true, false, cond, ◌&&◌, List, [], ◌∷◌, length, get_or, drop, set, sym, refl, ap, ◌∙◌, add-one, arith, drop_of_length-le, drop-cons, length-set, ltb-true}
use Rattle.std.specs.Prelude.{Option, Some, None, IfSome}
use Rattle.std.proofs.lemmas.List.{nil_from_length}
use mathlib.Core.Option.{none, some}
use Rattle.print.specs.Over.{over}
use Rattle.print.proofs.Laws.{length_over, over_first}
use Rattle.script.specs.Told.{told_first}
use Rattle.script.specs.Hex.{digit_value, digit?, digit_read, pair_value, hex?, pairs_read, unhexed, Decodes, glyph, hexed}

-- ---- a digit

-- what was read of a digit, or not
pub a_digit : (b d : ℕ) → Some d ≡ digit_read b → (digit? b ≡ true) × (d ≡ digit_value b) × (d < 16)
a_digit b d = pick (digit? b) refl
  where
    pick : (t : Bool) → digit? b ≡ t → Some d ≡ cond t (Some (digit_value b)) None → (digit? b ≡ true) × (d ≡ digit_value b) × (d < 16)
    pick true e q = let v : d ≡ digit_value b = cc in (e, v, omega (arith, ltb-true (digit_value b) 16 e))
    pick false e q = cc

pub no_digit : (b : ℕ) → None ≡ digit_read b → digit? b ≡ false
no_digit b = pick (digit? b)
  where
    pick : (t : Bool) → None ≡ cond t (Some (digit_value b)) None → t ≡ false
    pick true q = cc
    pick false q = refl

-- ---- a loop that reads: the rest equals the whole

pub record Left (h before rest : List ℕ) (i : ℕ) (out : List ℕ) : Type 0 where
  pub hex : hex? h ≡ hex? rest
  pub bytes : over before 0 (pairs_read h) ≡ over out i (pairs_read rest)
  pub count : length (pairs_read h) ≡ i + length (pairs_read rest)
  pub long : 2 * i + length rest ≡ length h
  pub room : length out ≡ length before

pub left_start : (h before : List ℕ) → Left h before h 0 before
left_start h before = record { hex = refl; bytes = refl; count = omega arith; long = omega arith; room = refl }

-- the two bytes at a place
pub two : (l : List ℕ) (i : ℕ) → i < length l / 2 → drop (2 * i) l ≡ get_or l (2 * i) 0 ∷ get_or l (2 * i + 1) 0 ∷ drop (2 * (i + 1)) l
two l i h =
    let e : 2 * (i + 1) ≡ suc (suc (2 * i)) = omega arith in
    rw (add-one (2 * i), e) (drop-cons l (2 * i) 0 (omega arith) ∙ ap (λ (t : List ℕ). get_or l (2 * i) 0 ∷ t) (drop-cons l (suc (2 * i)) 0 (omega arith)))

one : (p : List ℕ) → length p ≡ 1 → p ≡ get_or p 0 0 ∷ []
one [] h = absurd (omega arith)
one (a ∷ []) h = refl
one (a ∷ b ∷ p) h = absurd (omega arith)

module _ {h before rest out : List ℕ} {i : ℕ} (q : Left h before rest i out) where
  module _ (a b : ℕ) (more : List ℕ) (e : rest ≡ a ∷ b ∷ more) where
    pub left_next : digit? a ≡ true → digit? b ≡ true → Left h before more (i + 1) (set out i (pair_value a b))
    unfolding over hex? pairs_read
    left_next s t =
        record {
          hex = q.hex ∙ rw (e, s, t);
          bytes = q.bytes ∙ rw (e, s, t);
          count = q.count ∙ rw (e, s, t) (omega arith);
          long = omega (arith, q.long, ap length e);
          room = length-set out i (pair_value a b) ∙ q.room;
        }

    pub left_stop : digit? a && digit? b ≡ false → Decodes h before None out
    unfolding over hex? pairs_read
    left_stop t =
        let f : hex? h ≡ false = q.hex ∙ rw (e, t) in
        record { answer = rw f; bytes = sym (q.bytes ∙ rw (e, t)) }

  -- one byte is left
  pub left_one : length rest ≡ 1 → Decodes h before None out
  unfolding over hex? pairs_read
  left_one e =
      let f : hex? h ≡ false = q.hex ∙ rw (one rest e) in
      record { answer = rw f; bytes = sym (q.bytes ∙ rw (one rest e)) }

  pub left_end : length rest ≡ 0 → Decodes h before (Some (length h / 2)) out
  unfolding over hex? pairs_read
  left_end e =
      let f : hex? h ≡ true = q.hex ∙ rw (nil_from_length rest e) in
      let n : length (pairs_read h) ≡ length h / 2 = q.count ∙ rw (nil_from_length rest e) (omega (arith, q.long, e)) in
      record { answer = rw f (ap Some (sym n)); bytes = sym (q.bytes ∙ rw (nil_from_length rest e)) }

-- ---- what was read stands in the buffer

pub pairs_half : (h : List ℕ) → 2 * length (pairs_read h) ≤ length h
unfolding pairs_read
pairs_half [] = omega arith
pairs_half (a ∷ []) = omega arith
pairs_half (a ∷ b ∷ bs) = pick (digit? a && digit? b) (pairs_half bs)
  where
    pick : (t : Bool) → 2 * length (pairs_read bs) ≤ length bs → 2 * length (cond t (pair_value a b ∷ pairs_read bs) []) ≤ suc (suc (length bs))
    pick true h = omega arith
    pick false h = omega arith

module _ {h before after : List ℕ} {r : Option ℕ} (g : length h ≤ 2 * length before) (d : Decodes h before r after) where
  pub told_bytes : told_first r after ≡ unhexed h
  unfolding unhexed
  told_bytes = rw (d.answer, d.bytes) (pick (hex? h))
    where
      pick : (t : Bool) → told_first (cond t (Some (length (pairs_read h))) None) (over before 0 (pairs_read h)) ≡ cond t (some (pairs_read h)) none
      pick true = ap some (over_first (pairs_read h) before (omega (arith, pairs_half h)))
      pick false = refl

  pub count_inside : IfSome r (λ n. n ≤ length after)
  count_inside = rw (d.answer, d.bytes, length_over (pairs_read h) before 0) (pick (hex? h))
    where
      pick : (t : Bool) → IfSome (cond t (Some (length (pairs_read h))) None) (λ n. n ≤ length before)
      pick true = omega (arith, pairs_half h)
      pick false = tt

-- ---- a loop that writes

pub length_hexed : (l : List ℕ) → length (hexed l) ≡ 2 * length l
unfolding hexed
length_hexed [] = refl
length_hexed (b ∷ bs) = omega (arith, length_hexed bs)

module _ (l out : List ℕ) (i k : ℕ) where
  pub hexed_next : i < length l → over out k (hexed (drop i l))
      ≡ over (set (set out k (glyph (get_or l i 0 / 16))) (k + 1) (glyph (get_or l i 0 % 16))) (k + 2) (hexed (drop (i + 1) l))
  unfolding over hexed
  hexed_next h =
      let e : k + 1 + 1 ≡ k + 2 = omega arith in
      ap (λ (t : List ℕ). over out k (hexed t)) (drop-cons l i 0 h) ∙
      rw (add-one i) (ap (λ (j : ℕ). over (set (set out k (glyph (get_or l i 0 / 16))) (k + 1) (glyph (get_or l i 0 % 16))) j (hexed (drop (suc i) l))) e)

  pub hexed_end : length l ≤ i → over out k (hexed (drop i l)) ≡ out
  unfolding over hexed
  hexed_end h = rw (drop_of_length-le l h)
