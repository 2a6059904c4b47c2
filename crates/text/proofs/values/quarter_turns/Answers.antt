use mathlib.Core.Path.{◌≡◌, ap, ◌∙◌}
use native.Mathlib.Omega.{arith}
use lib.IntN.{nat_abs}
use mir.Facts.{to_z-of_z}
use Rattle.signed.proofs.Signs.{sign_under, sign_over}
use Rattle.model.specs.Words.{quarters}
use Rattle.text.proofs.ValueLaws.{angle_small}
use Rattle.text.proofs.values.quarter_turns.Goals.{After-magnitude}
use Rattle.text.proofs.values.quarter_turns.Goals as goal

is : (c : After-magnitude) → c.magnitude.result ≡ nat_abs c.args.z
is c = c.magnitude.ensures ∙ ap nat_abs (to_z-of_z c.ranges.z)

pub overflow_cast-q : goal.overflow_cast-q
overflow_cast-q c = rw (is (goal.at.overflow_cast-q c).After-magnitude) (let h = angle_small c.args.z c.requires in omega arith)

pub overflow_sub-result : goal.overflow_sub-result
overflow_sub-result c = rw (is (goal.at.overflow_sub-result c).After-magnitude) (let h = angle_small c.args.z c.requires in omega arith)

pub returns-then-z-lt0 : goal.returns-then-z-lt0
unfolding quarters
returns-then-z-lt0 c =
    rw (is (goal.at.returns-then-z-lt0 c).After-magnitude, sign_under c.args.z (rw (to_z-of_z c.ranges.z) at c.if-z-lt0.true))

pub returns : goal.returns
unfolding quarters
returns c =
    rw (is (goal.at.returns c).After-magnitude, sign_over c.args.z (rw (to_z-of_z c.ranges.z) at c.if-z-lt0.false))
