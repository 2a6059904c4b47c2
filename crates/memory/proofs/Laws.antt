-- Laws of lists that are held in arrays: the bytes of a stored name, the systems of a stored memory.
use Prim.Native.Nat.{ℕ, zero, suc, ◌+◌, min, ◌<◌, ◌≤◌}
use mathlib.Core.Path.{◌≡◌, refl, ◌∙◌}
use mathlib.Core.List.{List, [], ◌∷◌, map}
use native.Mathlib.Omega.{arith}
use native.Mathlib.Numerals.{add-one}
use lib.ListN.{length, take, get_or, set, length-take, length-map, get_or-map}
use lib.Seq.{take-suc, take-suc-set}
use Rattle.model.specs.Limits.{max_systems, name_limit}
use Rattle.model.specs.declared.Name.{Name}
use Rattle.model.specs.declared.Memory.{Memory as StoredMemory}
use Rattle.model.specs.Memory.{System, blank}
use Rattle.model.specs.Stored.{bytes_of, system_of, systems_of}
use Rattle.chains.proofs.Copies.{unset, take_min}
use Rattle.chains.proofs.Laid.{stored_length, stored_at}

-- within a list the default does not matter
pub get_d_any : {A : Type 0} (l : List A) (i : ℕ) (d e : A) → i < length l → get_or l i d ≡ get_or l i e
get_d_any [] i d e h = absurd (omega arith)
get_d_any (x ∷ l) zero d e h = refl
get_d_any (x ∷ l) (suc i) d e h = get_d_any l i d e (omega arith)

-- a number of a system, in a list of such numbers
pub mapped_at : (f : System → ℕ) (l : List System) (i : ℕ) → i < length l → get_or (map f l) i 0 ≡ f (get_or l i blank)
mapped_at f l i h =
    let lt : i < length (map f l) = rw (length-map l f) h in
    get_d_any (map f l) i 0 (f blank) lt ∙ get_or-map f l i blank

-- an array that is filled in order with the elements of a list: one turn
pub filled_turn : {A : Type 0} (xs l : List A) (i : ℕ) (v d : A) → i < length xs → i < length l → take i xs ≡ take i l → v ≡ get_or l i d → take (i + 1) (set xs i v) ≡ take (i + 1) l
filled_turn xs l i v d hx hl e ev = rw (add-one, take-suc-set xs i v, take-suc l i d, e, ev)

-- a stored name of k bytes: the slice that the code makes of it
module _ (n : Name) (k : ℕ) (long : length n.bytes ≡ name_limit) (count : k ≡ min n.len name_limit) where
  pub name_fits : k ≤ length n.bytes
  name_fits = omega arith

  pub name_count : k ≡ length (take k n.bytes)
  name_count = simp length-take (omega arith)

  pub name_bytes : take k n.bytes ≡ bytes_of n
  name_bytes = rw count (take_min n.len name_limit n.bytes long)

-- a stored memory whose first k systems count
module _ (m : StoredMemory) (k : ℕ) (long : length m.systems ≡ max_systems) (count : k ≡ min m.count max_systems) where
  pub length_systems : length (systems_of m) ≡ k
  length_systems = stored_length m.systems m.count ∙ omega arith

  pub system_at_lem : (i : ℕ) → i < k → get_or (systems_of m) i blank ≡ system_of (get_or m.systems i unset)
  system_at_lem i h = stored_at m.systems m.count i (omega arith)
