-- What a search by name answers, in the definitions' terms.
use Rattle.std.specs.Prelude.{◌<◌, ◌≡◌, Option, Some, None}
use Rattle.model.specs.Base.{ℕ, List, Option as Maybe, true}
use Rattle.model.specs.declared.Memory.{Memory as StoredMemory}
use Rattle.model.specs.declared.System.{System as StoredSystem}
use Rattle.model.specs.Memory.{System, Ref, fixed_ref, user_ref, system_at, place_named}
use Rattle.model.specs.Told.{Told}
use Rattle.model.specs.Stored.{system_of, systems_of, name_shaped, memory_shaped}
use Rattle.facts.specs.Refusals.{told_or}
use Rattle.memory.specs.declared.find.Found.{Found}
use Rattle.memory.specs.declared.find.Found.TheVariants.{User, Fixed}

-- the system that was found, a user system being one of l
abbrev pub ref_of : List System → Found → Ref
ref_of l (User k) = user_ref l k
ref_of l (Fixed g) = fixed_ref g

-- [Error 7] what the answer says: the system that was found, or number 7
unfoldable pub found_told : List System → Option Found → Told Ref
found_told l f = told_or 7 (ref_of l) f

-- the system itself, if there is one
abbrev pub found_ref : List System → Option Found → Maybe Ref
found_ref l f = (found_told l f).value

-- its place: 0 is no user system
unfoldable pub found_place : Option Found → ℕ
found_place (Some (User k)) = k
found_place (Some (Fixed g)) = 0
found_place None = 0

-- a user system's place is not that of a fixed one
abbrev pub Real : Option Found → Type 0
Real (Some (User k)) = 0 < k
Real (Some (Fixed g)) = Unit {0}
Real None = Unit {0}

-- the name n stands at this place of the memory m, 0 if it stands at none, and this is the system there
pub record Stands (m : StoredMemory) (n : List ℕ) (place : ℕ) (s : StoredSystem) : Type 0 where
  pub place_is : place ≡ place_named (systems_of m) n
  pub system_is : system_of s ≡ system_at (systems_of m) place
  pub shaped : memory_shaped m ≡ true → name_shaped s ≡ true
