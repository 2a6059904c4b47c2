-- What one look at a memory tells of two names.
use Rattle.std.specs.Prelude.{◌≡◌, length, is_some}
use Rattle.model.specs.Base.{ℕ, List, true, not, eqb}
use Rattle.model.specs.declared.Position.{Position}
use Rattle.model.specs.declared.Memory.{Memory as StoredMemory}
use Rattle.model.specs.Memory.{Memory, State, Meant, meant, find, system_at}
use Rattle.model.specs.Request.{Change}
use Rattle.model.specs.Lists.{kept}
use Rattle.model.specs.Refusals.{Rung, absent, first, change_ladder}
use Rattle.model.specs.Words.{reserved}
use Rattle.model.specs.Told.{or_number}
use Rattle.model.specs.Stored.{system_of, systems_of, memory_of, name_shaped}
use Rattle.chains.specs.Flat.{LinksOf}
use Rattle.memory.specs.Found.{found_told}
use Rattle.commands.specs.declared.subject.Subject.{Subject}
use Rattle.commands.specs.declared.subject.Looked.{Looked}

-- what it says of the name's system
abbrev pub meant_of : Subject → Meant
meant_of x = record { place = x.place; group = x.group; kind = x.kind }

-- all that is stored of it is right of the name n in the memory m
pub record Tells (m : Memory) (n : List ℕ) (x : Subject) : Type 0 where
  pub found_is : found_told m.systems x.found ≡ or_number 7 (find m n)
  pub absent_is : not (is_some x.found) ≡ absent m n
  pub reserved_is : x.reserved ≡ reserved n
  pub meant_is : meant_of x ≡ meant m n

-- all that was seen of the names a and b, and of the links, is right of the stored memory m
pub record Sees (m : StoredMemory) (a b : List ℕ) (k : Looked) : Type 0 where
  pub first : Tells (memory_of m) a k.first
  pub second : Tells (memory_of m) b k.second
  pub source : system_of k.source ≡ system_at (systems_of m) k.first.place
  pub named : name_shaped k.source ≡ true
  pub links : LinksOf (systems_of m) k.links.preds k.links.count
  pub counted : k.links.count ≡ length (systems_of m)
  pub stored : m.count ≡ length (systems_of m)
  pub enabled : k.enabled ≡ m.enabled

-- [Errors, end] the number of the change's refusal in this memory, at this level
abbrev pub NumberOf : ℕ → Memory → Change → ℕ → Type 0
NumberOf level m c n = (st : State) → st.level ≡ level → n ≡ first (change_ladder st m c)

-- [Errors, end; 02 §1] the same of a change that goes by the platform's position, and by no level
abbrev pub NumberAt : Position → Memory → Change → ℕ → Type 0
NumberAt p m c n = (st : State) → st.position ≡ p → n ≡ first (change_ladder st m c)

-- [02 §9] the ladder without 20, which the permanent memory tells
abbrev pub without_twenty : List Rung → List Rung
without_twenty rungs = kept (λ (r : Rung). not (eqb r.0 20)) rungs

-- [Errors, end; 02 §9] the number of the change's refusal as far as this memory tells it, at this level
abbrev pub NumberButTwenty : ℕ → Memory → Change → ℕ → Type 0
NumberButTwenty level m c n = (st : State) → st.level ≡ level → n ≡ first (without_twenty (change_ladder st m c))
