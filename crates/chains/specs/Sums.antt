-- What is claimed of the sums along chains (document 02 §4): how far they lead along each axis. The statement only; proofs/Sums.antt proves it.
use Rattle.std.specs.Prelude.{ℕ, ◌≤◌, ◌≡◌, true, length}
use Rattle.model.specs.Memory.{Memory}
use Rattle.model.specs.Chain.{resultant, pose_in}
use Rattle.model.specs.WellFormed.{memory_fine}
use Rattle.pose.specs.Poses.{Within, reach}
use Rattle.chains.specs.Walk.{farthest, farthest_apart}

-- [02 §4; Poses] every resultant of the memory; and [02 §3] every system of it, seen from another
pub record WithinSums (m : Memory) : Type 0 where
  pub resultants : (q : ℕ) → q ≤ length m.systems → Within farthest (resultant m.systems q).at
  pub seen : (a b : ℕ) → a ≤ length m.systems → b ≤ length m.systems → Within farthest_apart (pose_in m.systems a b).at

-- [02 §4] of every well-formed memory; sixteen links of two metres are 32 metres along an axis; and the machine's numbers hold far more than two such sums
pub record SumsHold : Type 0 where
  pub within : (m : Memory) → memory_fine m ≡ true → WithinSums m
  pub metres : farthest ≡ 32000000000
  pub held : farthest_apart ≤ reach
