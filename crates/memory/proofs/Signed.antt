-- Tests of signed numbers, as the definitions make them: by magnitude.
use Prim.Native.Nat.{ℕ, zero, suc}
use mathlib.Core.Path.{◌≡◌, refl, sym, ap, ◌∙◌}
use native.Mathlib.Omega.{arith}
use borrow.Author.Tests.{ne_eqb}
use lib.Dec.{eqb, eqb-suc-zero}
use lib.IntN.{ℤ, pos, negsuc, nat_abs}
use mir.Syntax.{w64}
use mir.Val.{to_z, of_z}

nonzero : (z : ℤ) (n : ℕ) → nat_abs z ≡ suc n → z ≡ pos 0 → ⊥
nonzero z n e h = let q : nat_abs z ≡ 0 = ap nat_abs h in absurd (omega arith)

-- the bits of a number are zero where its magnitude is
pub zero_bits : (z : ℤ) → to_z w64 (of_z w64 z) ≡ z → eqb (of_z w64 z) 0 ≡ eqb (nat_abs z) 0
zero_bits (pos zero) e = refl
zero_bits (pos (suc n)) e = ne_eqb (of_z w64 (pos (suc n))) 0 (λ h. nonzero (pos (suc n)) n refl (sym e ∙ ap (to_z w64) h)) ∙ sym (eqb-suc-zero n)
zero_bits (negsuc n) e = ne_eqb (of_z w64 (negsuc n)) 0 (λ h. nonzero (negsuc n) n refl (sym e ∙ ap (to_z w64) h)) ∙ sym (eqb-suc-zero n)
