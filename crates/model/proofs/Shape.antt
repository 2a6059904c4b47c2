-- What the shape of a stored memory tells (specs/Stored.antt): its count lies within its array, and each name's length within the name's.
use Prim.Native.Nat.{ℕ, ◌≤◌, ◌<◌}
use mathlib.Core.Path.{◌≡◌, ◌∙◌}
use mathlib.Core.Bool.{true}
use native.Mathlib.Omega.{arith}
use lib.Dec.{leb}
use lib.ListN.{length, take, get_or, length-map, length-take}
use lib.Seq.{get_or-take, length-take-le}
use borrow.Author.Tests.{leb-true}
use Rattle.model.specs.Types.{StoredSystem, StoredMemory}
use Rattle.model.specs.Lists.{all}
use Rattle.model.specs.Limits.{max_systems}
use Rattle.model.specs.Stored.{system_of, systems_of, name_shaped, memory_shaped}
use Rattle.model.proofs.Basics.{and_split, all_at}

module _ (m : StoredMemory) (shaped : memory_shaped m ≡ true) where
  pub shaped_count : m.count ≤ max_systems
  unfolding memory_shaped
  shaped_count = leb-true m.count max_systems (and_split _ _ shaped).0

  pub shaped_names : all name_shaped (take m.count m.systems) ≡ true
  unfolding memory_shaped
  shaped_names = (and_split (leb m.count max_systems) _ shaped).1

  -- a stored system that counts has shape
  pub shaped_at : (d : StoredSystem) (i : ℕ) → i < m.count → m.count ≤ length m.systems → name_shaped (get_or m.systems i d) ≡ true
  shaped_at d i h k =
      let n = length-take-le m.count m.systems k in
      rw (get_or-take m.count m.systems i d h) at (all_at name_shaped (take m.count m.systems) d i shaped_names (omega arith))

  -- the memory that it stands for has as many systems; the array's own length is what owning it tells
  pub systems_of_count : length m.systems ≡ max_systems → length (systems_of m) ≡ m.count
  systems_of_count long = length-map (take m.count m.systems) system_of ∙ length-take m.count m.systems ∙ omega (arith, shaped_count)
