use mathlib.Core.Path.{◌≡◌, ap, ◌∙◌}
use lib.IntN.{nat_abs}
use mir.Facts.{to_z-of_z}
use borrow.Author.Tests.{eq-eqb, ne_eqb}
use Rattle.model.specs.Words.{angle?}
use Rattle.text.proofs.values.angle_fine.Goals.{After-magnitude-m}
use Rattle.text.proofs.values.angle_fine.Goals as goal

is : (c : After-magnitude-m) → c.magnitude-m.result ≡ nat_abs c.args.z
is c = c.magnitude-m.ensures ∙ ap nat_abs (to_z-of_z c.ranges.z)

pub returns-then-m-eq0 : goal.returns-then-m-eq0
unfolding angle?
returns-then-m-eq0 c = rw (← is (goal.at.returns-then-m-eq0 c).After-magnitude-m, eq-eqb _ _ c.if-m-eq0.true, c.from.ensures)

pub returns-else-m-eq0 : goal.returns-else-m-eq0
unfolding angle?
returns-else-m-eq0 c = rw (← is (goal.at.returns-else-m-eq0 c).After-magnitude-m, ne_eqb _ _ c.if-m-eq0.false)
