use native.Mathlib.Omega.{arith}
use Rattle.model.specs.Pose.{times, quarter_y}
use Rattle.pose.proofs.Naming.{after_left}
use Rattle.pose.proofs.rotation.about_y.Goals as goal
-- `pose::rotation::about_y` meets its contract: four quarter turns are none, and each of the others is computed.
use mathlib.Core.Path.{refl, ◌∙◌}

pub returns-in-0 : goal.returns-in-0
unfolding times
returns-in-0 c = after_left quarter_y refl c.args.s c.args.quarters 0 c.in-0.is

pub returns-in-1 : goal.returns-in-1
unfolding times
returns-in-1 c =
    let p = c.args in
    let s = p.s in
    (λ i. record { a = s.c; b = s.b; c = c.flipped.ensures i }) ∙ after_left quarter_y refl s p.quarters 1 c.in-1.is

pub returns-in-2 : goal.returns-in-2
unfolding times
returns-in-2 c =
    let p = c.args in
    let s = p.s in
    (λ i. record { a = c.flipped-in-2.ensures i; b = s.b; c = c.flipped-in-2-2.ensures i }) ∙ after_left quarter_y refl s p.quarters 2 c.in-2.is

pub returns-in_default : goal.returns-in_default
unfolding times
returns-in_default c =
    let p = c.args in
    let s = p.s in
    (λ i. record { a = c.flipped-in_default.ensures i; b = s.b; c = s.a }) ∙ after_left quarter_y refl s p.quarters 3 (omega (arith))
