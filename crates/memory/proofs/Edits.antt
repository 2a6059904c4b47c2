-- What a store in the array does to the systems that it stands for, and what a removal leaves at each index.
use Prim.Native.Nat.{ℕ, zero, suc, ◌+◌, ◌-◌, min, ◌<◌, ◌≤◌}
use mathlib.Core.Path.{◌≡◌, refl, sym, ap, ◌∙◌}
use mathlib.Core.List.{List, [], ◌∷◌, ◌++◌, map, map-append}
use native.Mathlib.Omega.{arith}
use native.Mathlib.Decide.{dec_lt}
use native.Mathlib.Numerals.{add-one}
use borrow.Author.Tests.{lt-ltb, le-ltb}
use lib.ListN.{length, take, get_or, set, length-map, length-take}
use lib.Seq.{take-set-lt, take-set-le, take-suc, take-suc-set, set_out, get_or-set_other}
use Rattle.model.specs.Limits.{max_systems}
use Rattle.model.specs.declared.System.{System as StoredSystem}
use Rattle.model.specs.declared.Memory.{Memory as StoredMemory}
use Rattle.model.specs.Memory.{System, blank, system_at}
use Rattle.model.specs.Effects.{mended_system}
use Rattle.model.specs.Stored.{system_of, systems_of}
use Rattle.model.proofs.Edits.Removal.{old, old_low, old_high, without, without_length, removed_at_lem}
use Rattle.chains.proofs.Copies.{unset}
use Rattle.memory.specs.Put.{kept_at}
use Rattle.memory.proofs.Laws.{length_systems, system_at_lem}

map_set : (l : List StoredSystem) (i : ℕ) (s : StoredSystem) → map system_of (set l i s) ≡ set (map system_of l) i (system_of s)
map_set [] i s = refl
map_set (x ∷ l) zero s = refl
map_set (x ∷ l) (suc i) s = ap (λ (t : List System). system_of x ∷ t) (map_set l i s)

-- a store within the count replaces, and one beyond it is not seen
pub stored_set : (l : List StoredSystem) (n i : ℕ) (s : StoredSystem) → map system_of (take n (set l i s)) ≡ set (map system_of (take n l)) i (system_of s)
stored_set l n i s = go (dec_lt i n)
  where
    go : Dec (i < n) → map system_of (take n (set l i s)) ≡ set (map system_of (take n l)) i (system_of s)
    go (yes h) = rw (take-set-lt n l i s h) (map_set (take n l) i s)
    go (no h) =
        let out : length (map system_of (take n l)) ≤ i = simp (length-map, length-take) (omega arith) in
        rw (take-set-le n l i s (omega arith)) (sym (set_out (map system_of (take n l)) i (system_of s) out))

-- a store at the count, which goes up, puts a system last
pub stored_last : (l : List StoredSystem) (n : ℕ) (s : StoredSystem) → n < length l → map system_of (take (n + 1) (set l n s)) ≡ map system_of (take n l) ++ (system_of s ∷ [])
stored_last l n s h = rw (add-one, take-suc-set l n s) (map-append system_of (take n l) (s ∷ []))

-- ---- a removal

-- what comes to index i stood there, or one further
pub kept_within : (hole i : ℕ) → (i ≤ kept_at hole i) × (kept_at hole i ≤ i + 1)
kept_within hole i = go (dec_lt i hole)
  where
    go : Dec (i < hole) → (i ≤ kept_at hole i) × (kept_at hole i ≤ i + 1)
    go (yes h) = rw (lt-ltb i hole h) (omega arith, omega arith)
    go (no h) = rw (le-ltb i hole (omega arith)) (omega arith, omega arith)

-- it is the place that the laws of a removal name
kept_old : (a i : ℕ) → 0 < a → old a (suc i) ≡ suc (kept_at (a - 1) i)
kept_old a i pos = go (dec_lt i (a - 1))
  where
    go : Dec (i < a - 1) → old a (suc i) ≡ suc (kept_at (a - 1) i)
    go (yes h) = rw (old_low a (suc i) (omega arith), lt-ltb i (a - 1) h)
    go (no h) = rw (old_high a (suc i) (omega arith), le-ltb i (a - 1) (omega arith)) (omega arith)

-- the system at a place from 1 on
at_place : (l : List System) (a : ℕ) → 0 < a → system_at l a ≡ get_or l (a - 1) blank
unfolding system_at
at_place l zero h = absurd (omega arith)
at_place l (suc i) h = let e : suc i - 1 ≡ i = omega arith in rw e

-- the system at place a goes, of the first k that count
pub record Removing (m : StoredMemory) (k a : ℕ) : Type 0 where
  pub long : length m.systems ≡ max_systems
  pub count : k ≡ min m.count max_systems
  pub pos : 0 < a
  pub there : a ≤ k

module _ {m : StoredMemory} {k a : ℕ} (g : Removing m k a) where
  pub length_without : length (without (systems_of m) a) ≡ k - 1
  length_without = let n = length_systems m k g.long g.count in without_length (systems_of m) a g.pos (omega (arith, g.there)) ∙ omega arith

  -- the system that goes, as it was stored
  pub gone_at : system_at (systems_of m) a ≡ system_of (get_or m.systems (a - 1) unset)
  gone_at = at_place (systems_of m) a g.pos ∙ system_at_lem m k g.long g.count (a - 1) (omega (arith, g.pos, g.there))

  -- the system that comes to index i, as it was stored
  pub without_at : (i : ℕ) → i < k - 1 → get_or (without (systems_of m) a) i blank ≡ mended_system a (get_or m.systems (a - 1) unset).pred (system_of (get_or m.systems (kept_at (a - 1) i) unset))
  unfolding system_at
  without_at i h =
      let n = length_systems m k g.long g.count in
      let e : system_at (systems_of m) (old a (suc i)) ≡ system_of (get_or m.systems (kept_at (a - 1) i) unset) =
      rw (kept_old a i g.pos) (system_at_lem m k g.long g.count (kept_at (a - 1) i) (omega (arith, kept_within (a - 1) i, g.pos, g.there))) in
      removed_at_lem (systems_of m) a g.pos (omega (arith, g.there)) (suc i) ∙ (λ d. mended_system a (gone_at d).pred (e d))

-- an array that is filled in order with what stands for the elements of a list: one turn
pub stored_turn : (xs : List StoredSystem) (l : List System) (i : ℕ) (s : StoredSystem) → i < length xs → i < length l → map system_of (take i xs) ≡ take i l → system_of s ≡ get_or l i blank → map system_of (take (i + 1) (set xs i s)) ≡ take (i + 1) l
stored_turn xs l i s hx hl e es = stored_last xs i s hx ∙ rw (add-one, take-suc l i blank, ← es, ← e)

-- behind what is stored all is as it was
pub still_turn : (xs ys : List StoredSystem) (i : ℕ) (s : StoredSystem) → ((j : ℕ) → i ≤ j → get_or xs j unset ≡ get_or ys j unset) → (j : ℕ) → i + 1 ≤ j → get_or (set xs i s) j unset ≡ get_or ys j unset
still_turn xs ys i s e j h = get_or-set_other xs i j s unset (λ q. omega arith) ∙ e j (omega arith)
