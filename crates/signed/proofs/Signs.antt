-- The test against zero is the sign, and below zero the magnitude is taken without leaving the width.
use mathlib.Core.Path.{◌≡◌, refl, sym, ap}
use mathlib.Core.Bool.{true, false, false≢true}
use native.Mathlib.Omega.{arith}
use lib.IntN.{ℤ, pos, negsuc}
use lib.Signed.{mag, lt_z, non_neg}
use borrow.Author.Tests.{ltb-true}

below : (z : ℤ) → lt_z z (pos 0) ≡ true → z ≡ negsuc (mag z)
below (pos a) t = let h = ltb-true a 0 t in absurd (omega arith)
below (negsuc a) t = refl

pub sign_under : (z : ℤ) → lt_z z (pos 0) ≡ true → non_neg z ≡ false
sign_under z t = ap non_neg (below z t)

pub sign_over : (z : ℤ) → lt_z z (pos 0) ≡ false → non_neg z ≡ true
sign_over (pos a) t = refl
sign_over (negsuc a) t = absurd (false≢true (sym t))
