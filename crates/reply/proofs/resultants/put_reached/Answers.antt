use Rattle.model.proofs.Poses.Showing.{shown_fine}
use Rattle.reply.proofs.resultants.put_reached.Goals as goal

pub put_resultant-requires : goal.put_resultant-requires
put_resultant-requires c =
    rw c.shown_of-shown.ensures (c.requires.0.name_fits, c.requires.0.near, shown_fine c.args.r.rot, c.requires.1)

pub returns : goal.returns
returns c = rw c.shown_of-shown.ensures at c.put_resultant.ensures
