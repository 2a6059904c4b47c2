-- Laws of the bytes before an LF: at an LF, at another byte, as a search finds them, and in all.
use Prim.Native.Nat.{ℕ, suc, ◌+◌, ◌-◌, ◌≤◌}
use mathlib.Core.Path.{◌≡◌, refl, sym, ap, ◌∙◌}
use mathlib.Core.List.{List, [], ◌∷◌}
use mathlib.Core.Bool.{Bool, true, false, cond}
use native.Mathlib.Omega.{arith}
use lib.Dec.{eqb}
use lib.ListN.{length, take, drop, length-drop}
use lib.Seq.{take_all}
use native.Mathlib.Decide.{dec_lt}
use borrow.Author.Tests.{lt-ltb, le-ltb}
use Rattle.std.specs.Prelude.{Option, ◌==◌, position, unwrap_or}
use Rattle.std.specs.List.{position_or_len}
use Rattle.std.proofs.lemmas.List.Recursion.{is_position_or_len}
use Rattle.lines.specs.Before.{before}

module _ (b : ℕ) (bs : List ℕ) where
  pub before_now : eqb b 10 ≡ true → before (b ∷ bs) ≡ 0
  unfolding before
  before_now h = rw (h, before)

  pub before_more : eqb b 10 ≡ false → before (b ∷ bs) ≡ suc (before bs)
  unfolding before
  before_more h = rw (h, before)

-- as a search for the first LF has it
pub before_is : (l : List ℕ) → before l ≡ position_or_len (λ b. eqb b 10) l
unfolding before
before_is l = is_position_or_len before (λ b. eqb b 10) refl (λ b bs. ap (λ (n : ℕ). cond (eqb b 10) 0 n) (omega arith)) l

before_le : (l : List ℕ) → before l ≤ length l
unfolding before
before_le [] = omega arith
before_le (b ∷ bs) = pick (eqb b 10) (before_le bs)
  where
    pick : (t : Bool) → before bs ≤ length bs → cond t 0 (suc (before bs)) ≤ suc (length bs)
    pick true h = omega arith
    pick false h = omega arith

-- so the place that it finds, or the length where it finds none, tells how many they are
found_first : (l : List ℕ) → unwrap_or (position (λ b. b == 10) l) (length l) ≡ before l
found_first l =
    let n = position_or_len (λ b. eqb b 10) l in
    elim (dec_lt n (length l)) [
      | yes h ↦ rw (lt-ltb n (length l) h) (sym (before_is l))
      | no h ↦ rw (le-ltb n (length l) (omega arith)) (omega (arith, before_is l, before_le l))
    ]

-- the same of the rest of a block
pub found_from : (block : List ℕ) (at : ℕ) {found : Option ℕ} → found ≡ position (λ b. b == 10) (take (length block - at) (drop at block)) →
    unwrap_or found (length block - at) ≡ before (drop at block)
found_from block at {found} e =
    let all : take (length block - at) (drop at block) ≡ drop at block = take_all (length block - at) (drop at block) (rw (length-drop at block) (omega arith)) in
    (λ i. unwrap_or (e i) (sym (length-drop at block) i)) ∙ ap (λ (l : List ℕ). unwrap_or (position (λ b. b == 10) l) (length (drop at block))) all ∙ found_first (drop at block)

-- a line ends within its block
pub end_inside : (block : List ℕ) (at end : ℕ) → at ≤ length block → end ≡ at + before (drop at block) → end ≤ length block
end_inside block at end h e = omega (arith, before_le (drop at block), length-drop at block)
