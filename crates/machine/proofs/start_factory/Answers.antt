-- `start_factory` gives the factory state.
use mathlib.Core.Path.{ap, ◌∙◌}
use Rattle.model.specs.Memory.{Memory, started}
use Rattle.model.specs.Stored.{holds}
use Rattle.machine.proofs.Calls.{start_holds}
use Rattle.machine.proofs.start_factory.Goals as goal

pub returns : goal.returns
returns c =
    let made = c.factory_memory in
    rw c.started.ensures (start_holds made.result made.ensures.shaped ∙ ap (λ (n : Memory). holds (started n)) made.ensures.stands_for)
