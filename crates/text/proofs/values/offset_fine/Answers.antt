use mathlib.Core.Path.{◌≡◌, ap, ◌∙◌}
use lib.IntN.{nat_abs}
use mir.Facts.{to_z-of_z}
use Rattle.model.specs.Words.{offset?}
use Rattle.text.proofs.values.offset_fine.Goals.{After-magnitude}
use Rattle.text.proofs.values.offset_fine.Goals as goal

is : (c : After-magnitude) → c.magnitude.result ≡ nat_abs c.args.z
is c = c.magnitude.ensures ∙ ap nat_abs (to_z-of_z c.ranges.z)

pub returns : goal.returns
unfolding offset?
returns c = rw (is (goal.at.returns c).After-magnitude)
