-- Laws of what an answer says (specs/Told.antt): from what is said to the value, and back.
use Prim.Native.Nat.{ℕ}
use mathlib.Core.Path.{◌≡◌, refl}
use mathlib.Core.Option.{Option, none, some}
use Rattle.model.specs.Told.{Told, tells, refuses, or_number}

module _ {A : Type 0} (n : ℕ) where
  pub or_number_value : (o : Option A) → (or_number n o).value ≡ o
  unfolding or_number
  or_number_value none = refl
  or_number_value (some a) = refl

  pub told_value : (o : Option A) (t : Told A) → t ≡ or_number n o → o ≡ t.value
  told_value o t e = rw (e, or_number_value o)

  pub tells_some : {o : Option A} {a : A} → o ≡ some a → tells a ≡ or_number n o
  unfolding or_number
  tells_some e = rw e

  pub refuses_none : {o : Option A} → o ≡ none → refuses n ≡ or_number n o
  unfolding or_number
  refuses_none e = rw e
