use Rattle.model.specs.Pose.{after, times, quarter_x, quarter_y, rot_of}
use Rattle.pose.specs.Types.{Rot}
use Rattle.pose.proofs.rotation.named.Goals as goal
-- `pose::rotation::named` meets its contract: the three turns, one after the other.
use mathlib.Core.Path.{ap, ◌∙◌}

pub returns : goal.returns
unfolding rot_of
returns c =
    let t = c.args.t in
    let x = after (times t.u quarter_x) in
    let y = after (times t.v quarter_y) in
    c.about_x.ensures ∙ ap x c.about_y.ensures ∙ ap (λ (r : Rot). x (y r)) c.about_z.ensures
