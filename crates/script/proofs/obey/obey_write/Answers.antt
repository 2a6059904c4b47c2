use Rattle.std.proofs.Common.{ap, ◌∙◌}
use Rattle.model.specs.Stored.{view_of}
use Rattle.script.specs.Obey.{lent}
use Rattle.script.proofs.ObeyLaws.{answers_by, lent_image}
use Rattle.script.proofs.obey.obey_write.Goals as goal

pub returns : goal.returns
returns c =
    answers_by (ap lent c.write_image-r.ensures ∙ lent_image (view_of c.args.s) c.args.lent.now) c.say.ensures
