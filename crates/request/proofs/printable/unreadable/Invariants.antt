use mathlib.Core.Path.{◌≡◌}
use mathlib.Core.Bool.{◌&&◌}
use lib.ListN.{drop}
use Rattle.model.specs.Lists.{all, between}
use Rattle.request.proofs.printable.unreadable.Given as goal

abbrev pub invariant-loop-b : goal.invariant-loop-b
invariant-loop-b l = all (between 32 126) l.line ≡ l.fine && all (between 32 126) (drop l.b-index l.line)
