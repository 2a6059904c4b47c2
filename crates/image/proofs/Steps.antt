-- What the code's answer says of one reader after another: refused where the first refuses, and else what the second says of the bytes that are left.
use Prim.Native.Nat.{ℕ}
use mathlib.Core.Path.{◌≡◌}
use mathlib.Core.List.{List}
use Rattle.model.specs.Told.{Told, tells, refuses, or_number}
use Rattle.model.specs.Image.{Reader, ◌>>=◌}
use Rattle.model.proofs.Image.Readers.{then, then_none}
use Rattle.model.proofs.Told.{told_value, refuses_none}

module _ {A B : Type 0} (r : Reader A) (f : A → Reader B) (bs : List ℕ) where
  pub refused : refuses {A = A × List ℕ} 14 ≡ or_number 14 (r bs) → refuses {A = B × List ℕ} 14 ≡ or_number 14 (◌>>=◌ r f bs)
  refused e = refuses_none 14 (then_none r f bs (told_value 14 _ _ e))

  pub went_on : {a : A} {rest : List ℕ} {t : Told (B × List ℕ)} → tells (a, rest) ≡ or_number 14 (r bs) → t ≡ or_number 14 (f a rest) → t ≡ or_number 14 (◌>>=◌ r f bs)
  went_on e g = rw (then r f bs (told_value 14 _ _ e)) g
