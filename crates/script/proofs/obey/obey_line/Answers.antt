use Rattle.std.proofs.Common.{ap, ◌∙◌}
use Rattle.model.specs.Stored.{view_of}
use Rattle.script.specs.Obey.{lent}
use Rattle.script.proofs.ObeyLaws.{answers_by, lent_line}
use Rattle.script.proofs.obey.obey_line.Goals as goal

pub returns : goal.returns
returns c =
    answers_by (ap lent c.line-r.ensures ∙ lent_line (view_of c.args.s) c.args.line.now c.args.lent.now) c.say.ensures
