-- `start_image` gives what the image gives, or with 14 the factory state.
use Rattle.machine.proofs.Calls.{start_taken, start_refused}
use Rattle.machine.proofs.start_image.Goals as goal

pub returns-in-Ok : goal.returns-in-Ok
returns-in-Ok c = rw c.started.ensures (start_taken _ c.in-Ok.m c.in-Ok.ensures)

pub returns-in-Err : goal.returns-in-Err
returns-in-Err c = start_refused _ c.in-Err.why c.in-Err.ensures c.start_factory.result c.start_factory.ensures
