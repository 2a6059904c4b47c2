-- What the answers of the readers in src/ say: a value, and the bytes that are left to read, or number 14.
use Rattle.std.specs.Prelude.{Option}
use Rattle.model.specs.Base.{ℕ, List}
use Rattle.model.specs.Told.{Told}
use Rattle.facts.specs.Refusals.{told_or}

-- [Error 14] the value is what f makes of the answer's
abbrev pub read_told : {A B : Type 0} → (A → B) → Option A → List ℕ → Told (B × List ℕ)
read_told f read left = told_or 14 (λ a. (f a, left)) read
