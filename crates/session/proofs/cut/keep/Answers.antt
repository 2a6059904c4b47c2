-- `keep`: what is copied is as much as is enough.
use mathlib.Core.Path.{◌≡◌}
use native.Mathlib.Omega.{arith}
use borrow.Author.Rules.{rules}
use lib.ListN.{length}
use Rattle.session.specs.Feed.{enough}
use Rattle.session.proofs.Cutting.{keeps}
use Rattle.session.proofs.cut.keep.Goals as goal

pub returns : goal.returns
returns c =
    let h = c.args.held in
    let long : length h.bytes ≡ enough = search rules in
    keeps h.bytes c.args.part.now _ h.count _ _ (omega (arith, h.few, long)) h.few c.min-more.ensures c.copy_from_slice.ensures.after
