-- The links of some systems laid flat, and the systems that flat links stand for. Types and names play no part in a chain.
use Rattle.std.specs.Prelude.{ℕ, ◌≤◌, ◌≡◌, List, [], map, take}
use Rattle.model.specs.declared.Kind.TheVariants.{Ksd}
use Rattle.model.specs.declared.Enabled.{Enabled}
use Rattle.model.specs.Limits.{max_systems}
use Rattle.model.specs.Pose.{origin}
use Rattle.model.specs.Memory.{System, Memory, no_turn}

-- the predecessors' places
abbrev pub preds_of : List System → List ℕ
preds_of l = map (λ (s : System). s.pred) l

-- a system of which no more is told than its predecessor
abbrev pub linked_to : ℕ → System
linked_to p = record { kind = Ksd; name = []; offset = origin; turns = no_turn; pred = p }

abbrev pub linked_by : List ℕ → List System
linked_by ps = map linked_to ps

abbrev pub memory_by : List ℕ → Enabled → Memory
memory_by ps e = record { systems = linked_by ps; enabled = e }

-- the first count of the stored places are the predecessors of the systems l
pub record LinksOf (l : List System) (preds : List ℕ) (count : ℕ) : Type 0 where
  pub links : take count preds ≡ preds_of l
  pub few : count ≤ max_systems
