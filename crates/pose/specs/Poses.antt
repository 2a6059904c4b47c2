-- What a pose of the code stands for, and how far off the origin it may be.
use Rattle.std.specs.Prelude.{ℕ, ◌-◌, ◌^◌, ◌≤◌, nat_abs}
use Rattle.model.specs.Pose.{Pose}
use Rattle.pose.specs.Types.{Vec3, StoredPose}

-- the pose of the definitions that a pose of the code stands for
abbrev pub pose_of : StoredPose → Pose
pose_of p = record { at = p.at; rot = p.rot }

-- each coordinate is within ±h
pub record Within (h : ℕ) (v : Vec3) : Type 0 where
  pub x_within : nat_abs v.x ≤ h
  pub y_within : nat_abs v.y ≤ h
  pub z_within : nat_abs v.z ≤ h

-- The bounds of the machine's numbers, far beyond any offset limit: a coordinate of at most `widest` has a negative,
-- and two of at most `reach` have a sum.
abbrev pub widest : ℕ
widest = 2 ^ 63 - 1

abbrev pub reach : ℕ
reach = 2 ^ 62 - 1
