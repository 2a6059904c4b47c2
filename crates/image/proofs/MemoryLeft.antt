-- The systems of a stored memory, one after the other.
use Prim.Native.Nat.{ℕ, ◌+◌, ◌<◌, ◌≤◌, ◌^◌}
use mathlib.Core.Path.{◌≡◌}
use mathlib.Core.List.{List, [], ◌∷◌, ◌++◌, map}
use mathlib.Core.Bool.{true}
use native.Mathlib.Omega.{arith}
use lib.IntN.{ℤ, pos, negsuc, nat_abs}
use lib.ListN.{length, take, drop, get_or, length-map, get_or-map}
use Rattle.model.specs.Limits.{max_systems}
use Rattle.model.specs.declared.System.{System as StoredSystem}
use Rattle.model.specs.declared.Memory.{Memory as StoredMemory}
use Rattle.model.specs.Lists.{joined}
use Rattle.model.specs.WellFormed.{system_fine, memory_fine}
use Rattle.model.specs.Image.{edition, signed_code, numbers, system_bytes, enabled_bytes, image}
use Rattle.model.specs.Stored.{system_of, systems_of, memory_of, memory_shaped}
use Rattle.model.proofs.Basics.{all_at}
use Rattle.model.proofs.Image.Limits.{system_within_lem, parts}
use Rattle.model.proofs.Shape.{systems_of_count}
use Rattle.print.proofs.Left.{texts_turn, texts_end}

code_large : (z : ℤ) → nat_abs z ≤ signed_code z + 1
code_large (pos n) = omega arith
code_large (negsuc n) = omega arith

module _ (m : StoredMemory) (i : ℕ) where
  abbrev listed : List StoredSystem
  listed = take m.count m.systems

  pub systems_turn : (d : StoredSystem) → i < length listed
      → joined (map system_bytes (drop i (systems_of m))) ≡ system_bytes (system_of (get_or listed i d)) ++ joined (map system_bytes (drop (i + 1) (systems_of m)))
  systems_turn d h = rw (← get_or-map system_of listed i d) (texts_turn system_bytes (systems_of m) i (system_of d) (omega (arith, h, length-map listed system_of)))

  pub systems_end : length listed ≤ i → joined (map system_bytes (drop i (systems_of m))) ≡ []
  systems_end h = texts_end system_bytes (systems_of m) i (omega (arith, h, length-map listed system_of))

  -- the offsets of a well-formed memory are small
  pub offsets_small : memory_fine (memory_of m) ≡ true → (d : StoredSystem) → i < length listed → (
      let o = (get_or listed i d).offset in (nat_abs o.x < 2 ^ 62) × (nat_abs o.y < 2 ^ 62) × (nat_abs o.z < 2 ^ 62)
      )
  offsets_small f d h =
      let l : i < length (systems_of m) = omega (arith, h, length-map listed system_of) in
      let s = rw (get_or-map system_of listed i d) at (all_at (system_fine (systems_of m)) (systems_of m) (system_of d) i (parts (memory_of m) f).fine l) in
      let w = system_within_lem (systems_of m) (system_of (get_or listed i d)) s in
      let o = (get_or listed i d).offset in
      (omega (arith, w.x, code_large o.x), omega (arith, w.y, code_large o.y), omega (arith, w.z, code_large o.z))

-- the parts of the image
pub image_parts : (m : StoredMemory) → length m.systems ≡ max_systems → memory_shaped m ≡ true
    → image (memory_of m) ≡ numbers (edition ∷ m.count ∷ []) ++ (joined (map system_bytes (systems_of m)) ++ (enabled_bytes m.enabled ++ []))
unfolding image joined
image_parts m long shaped = rw (systems_of_count m shaped long)
