-- What an answer of the code says, whatever its enum: document 01's number, and the values where that is 0.
use Rattle.model.specs.Base.{ℕ, Option, none, some}

pub record Told (A : Type 0) : Type 0 where
  pub number : ℕ
  pub value : Option A

-- nothing is refused, and this is the value
abbrev pub tells : {A : Type 0} → A → Told A
tells a = record { number = 0; value = some a }

-- refused with this number
abbrev pub refuses : {A : Type 0} → ℕ → Told A
refuses n = record { number = n; value = none }

-- a value, or where there is none this number
unfoldable pub or_number : {A : Type 0} → ℕ → Option A → Told A
or_number n none = refuses n
or_number n (some a) = tells a
