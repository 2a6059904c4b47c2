-- `put_image`: the machine's own image, where one is due.
use mathlib.Core.Path.{◌≡◌, ◌∙◌}
use Rattle.engine.specs.Answers.{written_by}
use Rattle.engine.proofs.Taking.{written_is}
use Rattle.bench.proofs.Serving.{image_written}
use Rattle.bench.proofs.serve.put_image.Goals as goal

pub returns-then-due : goal.returns-then-due
returns-then-due c =
    let w = c.write_image in
    let e : c.unwrap_or.result ≡ written_by w.result.outcome = c.unwrap_or.ensures ∙ written_is w.result.outcome in
    rw e (image_written c.args.due c.args.s c.requires.fine_state c.args.out.now c.requires.room_for_image w.result _ w.ensures)
