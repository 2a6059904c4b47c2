-- `join`: what was held, and then the part.
use Rattle.script.proofs.Cutting.{keeps_join}
use Rattle.script.proofs.cut.join.Goals as goal

pub returns : goal.returns
returns c =
    keeps_join c.args.held.now c.args.part.now c.keep-count.ensures.wrote c.keep.ensures.wrote c.keep.ensures.within
