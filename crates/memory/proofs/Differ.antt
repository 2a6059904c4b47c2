-- The test that names differ, for a scan that goes pair by pair.
use Prim.Native.Nat.{ℕ, ◌+◌, ◌<◌, ◌≤◌}
use mathlib.Core.Path.{◌≡◌}
use mathlib.Core.List.{List, map}
use mathlib.Core.Bool.{Bool, true, false, not, ◌&&◌}
use native.Mathlib.Omega.{arith}
use native.Mathlib.Decide.{dec_lt}
use native.Mathlib.Numerals.{add-one}
use lib.ListN.{length, drop, get_or, get_or-map, drop_of_length-le}
use lib.Seq.{drop-cons}
use Rattle.model.specs.declared.System.{System as StoredSystem}
use Rattle.model.specs.Lists.{same, any}
use Rattle.model.specs.Memory.{System, blank}
use Rattle.model.specs.WellFormed.{names_differ}
use Rattle.model.specs.Stored.{bytes_of, system_of}
use Rattle.chains.proofs.Copies.{unset}
use Rattle.memory.proofs.Tests.{any_turn, any_end}

-- the system has the name of the one at index i
abbrev pub alike : List System → ℕ → System → Bool
alike l i t = same (get_or l i blank).name t.name

-- what is left of the test: index i against those from j on, and all later pairs
unfoldable pub left : List System → ℕ → ℕ → Bool
left l i j = not (any (alike l i) (drop j l)) && names_differ (drop (i + 1) l)

module _ (l : List System) where
  pub left_from : (i : ℕ) → names_differ (drop i l) ≡ left l i (i + 1)
  unfolding left names_differ any
  left_from i = go (dec_lt i (length l))
    where
      go : Dec (i < length l) → names_differ (drop i l) ≡ left l i (i + 1)
      go (yes h) = rw (add-one, drop-cons l i blank h)
      go (no h) = rw (drop_of_length-le l {i = i} (omega arith), drop_of_length-le l {i = i + 1} (omega arith))

  pub left_hit : (i j : ℕ) → j < length l → alike l i (get_or l j blank) ≡ true → left l i j ≡ false
  unfolding left
  left_hit i j h e = rw (any_turn (alike l i) l j blank h, e)

  pub left_miss : (i j : ℕ) → j < length l → alike l i (get_or l j blank) ≡ false → left l i j ≡ left l i (j + 1)
  unfolding left
  left_miss i j h e = rw (any_turn (alike l i) l j blank h, e)

  -- index i is done
  pub left_done : (i j : ℕ) → length l ≤ j → left l i j ≡ names_differ (drop (i + 1) l)
  unfolding left
  left_done i j h = rw (any_end (alike l i) l j h)

  pub differ_end : (i : ℕ) → length l ≤ i → names_differ (drop i l) ≡ true
  unfolding names_differ
  differ_end i h = rw (drop_of_length-le l {i = i} h)

-- the names at i and j, as they are stored
pub stored_alike : (xs : List StoredSystem) (i j : ℕ)
    → alike (map system_of xs) i (get_or (map system_of xs) j blank) ≡ same (bytes_of (get_or xs i unset).name) (bytes_of (get_or xs j unset).name)
stored_alike xs i j = rw (get_or-map system_of xs i unset, get_or-map system_of xs j unset)
