-- Document 02 §1: the platform's position, and the spot that it is over.
use Rattle.std.specs.Prelude.{◌&&◌}
use Rattle.model.specs.Base.{ℕ, Bool, not, nat_abs, eqb, leb}
use Rattle.model.specs.Types.{OperatingPart, Single, Pair, Angles, Position}
use Rattle.model.specs.Limits.{angle_limit}
use Rattle.model.specs.Pose.{Pose, unturned, followed}
use Rattle.model.specs.Memory.{Memory}
use Rattle.model.specs.Chain.{resultant}
use Rattle.model.specs.Words.{offsets_fine}

-- ---- the position

-- [02 §1] U V W within a whole turn either way
abbrev pub angles_fine : Angles → Bool
angles_fine a = leb (nat_abs a.u) angle_limit && leb (nat_abs a.v) angle_limit && leb (nat_abs a.w) angle_limit

-- [02 §1] X Y Z within the offset limit, U V W within theirs
unfoldable pub position_fine : Position → Bool
position_fine p = offsets_fine p.offset && angles_fine p.angles

-- [02 §1; Error 15] U, V or W is not zero. 360 degrees are not zero
unfoldable pub aslant : Position → Bool
aslant p = not (eqb (nat_abs p.angles.u) 0 && eqb (nat_abs p.angles.v) 0 && eqb (nat_abs p.angles.w) 0)

-- ---- where the stage is

-- [02 §1] the place of the enabled operating system; of a pair, of its work half. A substitute is ZERO, place 0
abbrev pub operating_place : OperatingPart → ℕ
operating_place (Single p) = p
operating_place (Pair w t) = w

-- [02 §1] the resultant of the enabled operating system
abbrev pub operating_pose : Memory → Pose
operating_pose m = resultant m.systems (operating_place m.enabled.operating)

-- [02 §1] the offset of the position as a pose: no turn, since KSF is refused with 15 while there is one
abbrev pub step_to : Position → Pose
step_to p = record { at = p.offset; rot = unturned }

-- [02 §1] the spot that the platform is over, in the group's fixed system. The position is told as the enabled operating system has it: so the resultant of that
-- system, followed by the position
unfoldable pub spot : Memory → Position → Pose
spot m p = followed (operating_pose m) (step_to p)
