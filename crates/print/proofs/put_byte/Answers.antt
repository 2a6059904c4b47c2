use mathlib.Core.Path.{refl}
use Rattle.print.specs.Over.{over}
use Rattle.print.proofs.put_byte.Goals as goal

pub returns : goal.returns
unfolding over
returns c = record { place = refl; bytes = refl }
