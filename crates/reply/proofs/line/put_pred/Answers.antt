use Rattle.reply.specs.Lines.{pred_text}
use Rattle.reply.proofs.line.put_pred.Goals as goal

pub put_system_name-requires : goal.put_system_name-requires
unfolding pred_text
put_system_name-requires c = (λ h. c.requires.0, rw c.group_of.ensures c.requires.1)

pub returns : goal.returns
unfolding pred_text
returns c = rw c.group_of.ensures at c.put_system_name.ensures
