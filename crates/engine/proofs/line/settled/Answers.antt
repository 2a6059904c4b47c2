-- What passes is what was decided: the look at the permanent memory changes no deed.
use Rattle.std.proofs.Common.{sym, ◌∙◌, ap}
use Rattle.model.specs.Stored.{memory_of}
use Rattle.commands.proofs.Settled.{passes_whole}
use Rattle.engine.specs.Taken.{step_of}
use Rattle.engine.proofs.line.settled.Goals as goal

pub returns : goal.returns
returns c =
    let step = c.in_ok-step.step in
    let passes = passes_whole (memory_of c.args.saved) step.deed _ (sym c.in_ok-settled.was ∙ c.settled.ensures) in
    rw c.in_ok-step.was (ap (step_of step.length) (sym passes))
