-- A test at each number below n, computed once, and what it says at one of them; and what a test says that is passed.
use mathlib.Core.Path.{◌≡◌, refl, subst, sym}
use mathlib.Core.Bool.{Bool, true, false, beq, ◌&&◌}
use Prim.Native.Nat.{ℕ, zero, suc, ◌<◌}
use native.Mathlib.Nat.{not-suc-le-zero}
use native.Mathlib.Decide.{ℕ_discrete}
use native.Mathlib.Omega.{arith}
use lib.Dec.{T}
use mir.Facts.{and_yes}

abbrev pub upto : ℕ → (ℕ → Bool) → Bool
upto zero f = true
upto (suc n) f = f n && upto n f

pub at : (n : ℕ) (f : ℕ → Bool) → T (upto n f) → (k : ℕ) → k < n → T (f k)
at zero f t k h = absurd (not-suc-le-zero h)
at (suc n) f t k h = go (ℕ_discrete k n) (λ l. at n f (and_yes (f n) (upto n f) t).1 k l)
  where
    go : Dec (k ≡ n) → (k < n → T (f k)) → T (f k)
    go (yes e) rest = subst (λ (j : ℕ). T (f j)) (sym e) (and_yes (f n) (upto n f) t).0
    go (no d) rest = rest (omega arith)

pub alike : (a b : Bool) → T (beq a b) → a ≡ b
alike true true t = refl
alike true false t = absurd t
alike false true t = absurd t
alike false false t = refl

pub passed : (b : Bool) → T b → b ≡ true
passed true t = refl
passed false t = absurd t
