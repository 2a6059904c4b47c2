-- Sums of signed numbers by their magnitudes.
use mathlib.Core.Path.{◌≡◌, refl, ◌∙◌}
use mathlib.Core.Bool.{Bool, true, false, cond}
use Prim.Native.Nat.{ℕ, suc, ◌+◌, ◌-◌, ◌≤◌, ◌<◌, ◌^◌}
use native.Mathlib.Omega.{arith}
use lib.IntN.{ℤ, pos, negsuc, nat_abs, sub_ℕ, ◌+ℤ◌}
use lib.Dec.{ltb}
use borrow.Author.Tests.{ltb-true}
use mir.Syntax.{w64}
use mir.Val.{SFits}
use mir.Facts.{to_z-of_z}
use Rattle.signed.proofs.Sizes.{small_fits, read, back}

nat_abs_pick : (t : Bool) (a b : ℕ) → ltb a b ≡ t → nat_abs (cond t (negsuc (b - suc a)) (pos (a - b))) ≤ a + b
nat_abs_pick true a b e = omega (arith, ltb-true a b e)
nat_abs_pick false a b e = omega arith

nat_abs_sub : (a b : ℕ) → nat_abs (sub_ℕ a b) ≤ a + b
nat_abs_sub a b = nat_abs_pick (ltb a b) a b refl

pub nat_abs_add : (p q : ℤ) → nat_abs (p +ℤ q) ≤ nat_abs p + nat_abs q
nat_abs_add (pos a) (pos b) = omega arith
nat_abs_add (pos a) (negsuc b) = nat_abs_sub a (suc b)
nat_abs_add (negsuc a) (pos b) = omega (arith, nat_abs_sub b (suc a))
nat_abs_add (negsuc a) (negsuc b) = omega arith

module _ (p q : ℤ) (h : nat_abs p + nat_abs q < 2 ^ 63) where
  pub add_fits : SFits w64 (read p +ℤ read q)
  add_fits = rw (back p (omega arith), back q (omega arith)) (small_fits (p +ℤ q) (omega (arith, nat_abs_add p q)))

  pub add_reads : read (read p +ℤ read q) ≡ p +ℤ q
  add_reads = to_z-of_z add_fits ∙ rw (back p (omega arith), back q (omega arith))
