use native.Mathlib.Omega.{arith}
use Rattle.model.specs.Pose.{times, quarter_z}
use Rattle.pose.proofs.Naming.{times_left}
use Rattle.pose.proofs.rotation.about_z.Goals as goal
-- `pose::rotation::about_z` meets its contract: four quarter turns are none, and each of the others is computed.
use mathlib.Core.Path.{refl, sym}

pub returns-in-0 : goal.returns-in-0
unfolding times
returns-in-0 c = sym (times_left quarter_z refl c.args.quarters 0 c.in-0.is)

pub returns-in-1 : goal.returns-in-1
unfolding times
returns-in-1 c = sym (times_left quarter_z refl c.args.quarters 1 c.in-1.is)

pub returns-in-2 : goal.returns-in-2
unfolding times
returns-in-2 c = sym (times_left quarter_z refl c.args.quarters 2 c.in-2.is)

pub returns-in_default : goal.returns-in_default
unfolding times
returns-in_default c = sym (times_left quarter_z refl c.args.quarters 3 (omega (arith)))
