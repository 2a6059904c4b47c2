-- Document 01, "Poses and chains" and "Memory and state": the resultant, the steps and the chain of a system, each by its predecessor's, in every
-- well-formed memory. The statement only; it is proved in proofs/Chains.
use Rattle.std.specs.Prelude.{◌≤◌, ◌<◌, ◌≡◌, ◌∷◌}
use Rattle.model.specs.Base.{ℕ, suc, List, [], true, length}
use Rattle.model.specs.Limits.{max_systems}
use Rattle.model.specs.Pose.{turned, after, rot_of, plus, neutral}
use Rattle.model.specs.Memory.{System, Memory, system_at}
use Rattle.model.specs.Chain.{steps, chain, resultant}
use Rattle.model.specs.WellFormed.{memory_fine}

-- [Poses; Memory 3] a fixed system: the pose that changes nothing, no steps, an empty chain
pub record AtFixed (l : List System) : Type 0 where
  pub pose : resultant l 0 ≡ neutral
  pub no_steps : steps l 0 ≡ 0
  pub no_chain : chain l 0 ≡ []

-- [Poses; Memory 3] the system at place k, with own offset t and own rotation S, on the one at place q with resultant offset p and rotation R
pub record OnPredecessor (l : List System) (k q : ℕ) : Type 0 where
  -- p + R·t
  pub offset : (resultant l k).at ≡ plus (resultant l q).at (turned (resultant l q).rot (system_at l k).offset)
  -- R·S
  pub rotation : (resultant l k).rot ≡ after (resultant l q).rot (rot_of (system_at l k).turns)
  -- one more than the predecessor's, and 16 at most
  pub one_more : steps l k ≡ suc (steps l q)
  pub few : steps l k ≤ max_systems
  -- the predecessor, and then its chain
  pub links : chain l k ≡ q ∷ chain l q

-- [Poses; Memory 3] in every well-formed memory, of the fixed systems and of each user system
pub record Recurrences (m : Memory) : Type 0 where
  pub fixed : AtFixed m.systems
  pub user : (k : ℕ) → 0 < k → k ≤ length m.systems → OnPredecessor m.systems k (system_at m.systems k).pred

abbrev pub ByPredecessor : Type 0
ByPredecessor = (m : Memory) → memory_fine m ≡ true → Recurrences m
