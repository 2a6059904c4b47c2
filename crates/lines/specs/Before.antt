-- How many bytes stand before the first LF.
use Rattle.std.specs.Prelude.{ℕ, suc, List, [], ◌∷◌, cond, eqb}

unfoldable pub before : List ℕ → ℕ
before [] = 0
before (b ∷ bs) = cond (eqb b 10) 0 (suc (before bs))
