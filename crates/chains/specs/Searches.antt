-- Walks along flat links that look for a place, and what they give.
use Rattle.std.specs.Prelude.{ℕ, zero, suc, List, [], ◌∷◌, ◌++◌, Bool, cond, eqb}
use Rattle.model.specs.declared.Group.{Group}
use Rattle.model.specs.declared.Group.TheVariants.{Operating, Orientational, Levelling}
use Rattle.model.specs.declared.OperatingPart.{OperatingPart}
use Rattle.model.specs.declared.OperatingPart.TheVariants.{Single, Pair}
use Rattle.model.specs.Lists.{Search}
use Rattle.model.specs.Memory.{System, Ref}
use Rattle.model.specs.Chain.{pred_of, chain}
use Rattle.chains.specs.declared.links.Search.{Search as StoredSearch}
use Rattle.chains.specs.declared.used.Sought.{Sought}

-- what a walk gives, in the definitions' terms
abbrev pub search_of : StoredSearch → Search
search_of r = record { found = r.found; looked = r.looked }

-- ---- along one chain

-- from place q down to the fixed system, n places at most
unfoldable pub down : List System → ℕ → ℕ → List ℕ
down l zero q = []
down l (suc n) q = q ∷ cond (eqb q 0) [] (down l n (pred_of l q))

-- a place, and those on its chain
abbrev pub path : List System → ℕ → List ℕ
path l q = q ∷ chain l q

-- ---- along the enabled chains

abbrev pub operating_paths : List System → OperatingPart → List ℕ
operating_paths l (Single p) = path l p
operating_paths l (Pair w t) = path l w ++ path l t

-- no system has this place
abbrev pub nowhere : ℕ
nowhere = 256

-- a place in every group
abbrev pub anywhere : ℕ → Sought
anywhere k = record { operating = k; orientational = k; levelling = k }

abbrev pub sought_in : Sought → Group → ℕ
sought_in s Operating = s.operating
sought_in s Orientational = s.orientational
sought_in s Levelling = s.levelling

-- the system is the one that is sought
abbrev pub meets : Sought → Ref → Bool
meets s r = eqb (sought_in s r.group) r.place
