-- What the walk to the predecessor needs and what it reaches.
use Rattle.std.specs.Prelude.{ℕ, ◌+◌, ◌*◌, ◌≤◌, ◌<◌, ◌≡◌, true, ◌⊎◌, List, ℤ, length}
use Rattle.model.specs.Limits.{max_systems, offset_limit}
use Rattle.model.specs.Pose.{Pose, neutral, followed, inverse, rot_of}
use Rattle.model.specs.Memory.{System, system_at}
use Rattle.model.specs.Chain.{steps, no_ring, resultant}
use Rattle.pose.specs.Poses.{Within, reach}
use Rattle.chains.specs.declared.frames.Reached.{Reached}
use Rattle.chains.specs.Frames.{offset_at, turns_at, framed}

-- how far off the origin a chain can lead along an axis: each link adds at most one own offset
abbrev pub farthest : ℕ
farthest = max_systems * offset_limit

-- a bound for how far apart two chains lead (a memory has systems for half of that)
abbrev pub farthest_apart : ℕ
farthest_apart = farthest + farthest

-- a resultant, and the number of links to it
pub record Walk : Type 0 where
  pub pose : Pose
  pub steps : ℕ

abbrev pub walk_of : Reached → Walk
walk_of r = record { pose = record { at = r.at; rot = r.rot }; steps = r.steps }

-- document 01's resultant and steps of the system at a place
abbrev pub walked : List System → ℕ → Walk
walked l place = record { pose = resultant l place; steps = steps l place }

-- no link yet
abbrev pub at_fixed : Walk
at_fixed = record { pose = neutral; steps = 0 }

-- a walk, and a system's own pose followed on from it
abbrev pub link_on : Walk → Pose → Walk
link_on w own = record { pose = followed w.pose own; steps = w.steps + 1 }

-- a walk that goes on from a base: its pose followed on from the base's, and the links of both
abbrev pub onward : Walk → Walk → Walk
onward base w = record { pose = followed base.pose w.pose; steps = base.steps + w.steps }

-- [02 §3] a walk undone: another one that goes on from it is seen from its end
abbrev pub undone_of : Walk → Walk
undone_of w = record { pose = inverse w.pose; steps = w.steps }

-- every chain ends, and no sum on the way grows too large. Every well-formed memory has it (`walkable` in proofs/Ready.antt)
pub record Walkable (l : List System) : Type 0 where
  pub few : length l ≤ max_systems
  pub ringless : no_ring l ≡ true
  pub preds : (place : ℕ) → (system_at l place).pred ≤ length l
  pub offsets : (place : ℕ) → Within offset_limit (system_at l place).offset

-- the own pose of system i, counted from 0
abbrev pub pose_at : List ℤ → List ℕ → ℕ → Pose
pose_at xs ts i = record { at = offset_at xs i; rot = rot_of (turns_at ts i) }

-- system i has its numbers
abbrev pub Holds : List ℤ → List ℕ → ℕ → Type 0
Holds xs ts i = (i * 3 + 3 ≤ length xs) × (i * 3 + 3 ≤ length ts)

-- system i can be followed on from a walk: its numbers are there, and no sum grows too large
pub record Linkable (xs : List ℤ) (ts : List ℕ) (i : ℕ) (w : Walk) : Type 0 where
  pub numbers : Holds xs ts i
  pub near : Within reach w.pose.at
  pub own : Within reach (offset_at xs i)
  pub steps : w.steps < max_systems + max_systems

-- every system has its numbers, and a walk along them ends
pub record Laid (xs : List ℤ) (ts ps : List ℕ) : Type 0 where
  pub offsets : length ps * 3 ≤ length xs
  pub turns : length ps * 3 ≤ length ts
  pub systems : Walkable (framed xs ts ps)

-- a place to walk from, and a depth that is enough for it
pub record Enough (l : List System) (place depth : ℕ) : Type 0 where
  pub there : place ≤ length l
  pub deep : steps l place ≤ depth
  pub bounded : depth ≤ max_systems

-- a walk no farther off, and no longer, than a chain leads
pub record Near (w : Walk) : Type 0 where
  pub at : Within farthest w.pose.at
  pub steps : w.steps ≤ max_systems

-- what is known at a stop: what a walk reaches there or, where that is the fixed system, any walk to go on from
abbrev pub Known : List System → ℕ → Walk → Type 0
Known l stop w = (w ≡ walked l stop) ⊎ ((stop ≡ 0) × Near w)

-- what is then reached at a place: what a walk reaches there, in at most 16 links; or that walk going on from the other
pub record Reaches (l : List System) (stop : ℕ) (known : Walk) (place : ℕ) (r : Walk) : Type 0 where
  pub walk : known ≡ walked l stop → r ≡ walked l place
  pub few : known ≡ walked l stop → r.steps ≤ max_systems
  pub on : stop ≡ 0 → r ≡ onward known (walked l place)
