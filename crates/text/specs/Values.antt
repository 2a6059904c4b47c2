-- A magnitude with a sign.
use Rattle.std.specs.Prelude.{ℕ, Bool, cond, ℤ, pos, neg_ℤ}

abbrev pub with_sign : Bool → ℕ → ℤ
with_sign minus v = cond minus (neg_ℤ (pos v)) (pos v)
