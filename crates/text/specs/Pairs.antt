-- What axis pairs say, as an answer of the code. 5 for the form of all the pairs stands before 6 for a value.
use Rattle.std.specs.Prelude.{ℕ, List, [], ◌∷◌, Bool, cond, ℤ}
use Rattle.std.proofs.Math.Option.{Option, none, some}
use Rattle.model.specs.declared.Kind.{Kind}
use Rattle.model.specs.declared.Turns.{Turns}
use Rattle.model.specs.declared.Vec3.{Vec3}
use Rattle.model.specs.Request.{Values, no_values, pairs, in_range, offsets_of, turns_of}
use Rattle.model.specs.Told.{Told, tells, refuses}

-- ---- the answer: the number, or the offsets and turns that are kept

-- [Error 6] well-formed pairs
unfoldable pub ranged : Values → Told (Vec3 × Turns)
ranged vs = cond (in_range vs) (tells (offsets_of vs, turns_of vs)) (refuses 6)

-- [A line] malformed ones are 5, whatever their values
unfoldable pub answered : Option Values → Told (Vec3 × Turns)
answered none = refuses 5
answered (some vs) = ranged vs

-- the words of the pairs
abbrev pub pairs_read : Kind → List (List ℕ) → Told (Vec3 × Turns)
pairs_read k ws = answered (pairs k ws no_values)

-- ---- the values while they are read

-- axes that have come, and their values
unfoldable pub values_of : List Bool → List ℤ → Values
values_of [] zs = []
values_of (c ∷ cs) [] = []
values_of (c ∷ cs) (z ∷ zs) = cond c (some z) none ∷ values_of cs zs
