use Rattle.std.proofs.Common.{refl, ap}
use Rattle.model.specs.Stored.{view_of}
use Rattle.script.specs.Obey.{asking}
use Rattle.script.proofs.ObeyLaws.{answers_by}
use Rattle.script.proofs.obey.obey_use.Goals as goal

pub returns : goal.returns
returns c =
    answers_by (ap (asking (view_of c.args.s)) c.in_use.ensures)
    (record { state = refl; text = c.put_told-end.ensures.wrote; inside = c.put_told-end.ensures.within })
