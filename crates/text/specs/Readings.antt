-- From what an answer says to the reading of document 01 that it stands for.
use Rattle.std.specs.Prelude.{ℕ, cond, eqb}
use Rattle.std.proofs.Math.Option.{Option, none, some}
use Rattle.model.specs.Request.{Reading, unknown, malformed, beyond}
use Rattle.model.specs.Told.{Told}

-- [Errors 4 to 6] the reading that is refused with a number
abbrev pub refused_with : ℕ → Reading
refused_with n = cond (eqb n 4) unknown (cond (eqb n 5) malformed beyond)

-- a value is asked for, or a number refuses
abbrev pub asked_or : {A : Type 0} → (A → Reading) → ℕ → Option A → Reading
asked_or ask n none = refused_with n
asked_or ask n (some a) = ask a

abbrev pub reading_told : {A : Type 0} → (A → Reading) → Told A → Reading
reading_told ask t = asked_or ask t.number t.value
