-- The definitions' tally of counts that have a place for every number: it ends at the last number that occurred.
use Rattle.std.specs.Prelude.{ℕ, List, [], ◌∷◌, cond, ◌&&◌, eqb}
use Rattle.model.specs.Lists.{none?}
use Rattle.model.specs.Tally.{Tally}

-- a count before others, of which none is left where nothing occurred
abbrev pub before : ℕ → List ℕ → List ℕ
before c cs = cond (eqb c 0 && none? cs) [] (c ∷ cs)

-- the counts up to the last that is not 0
unfoldable pub trimmed : List ℕ → List ℕ
trimmed [] = []
trimmed (c ∷ cs) = before c (trimmed cs)

abbrev pub tally_with : List ℕ → ℕ → Tally
tally_with counts total = record { counts = trimmed counts; total = total }
