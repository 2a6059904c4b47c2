use Rattle.model.specs.Pose.{plus}
use Rattle.pose.specs.Poses.{Within, reach}
use Rattle.pose.proofs.Bounds.{within_turned}
use Rattle.pose.proofs.Pose.follow.Goals as goal
-- `pose::Pose::follow` meets its contract: a turn keeps the bound that the sum asks for.
use mathlib.Core.Path.{ap, sym, subst, ◌∙◌}

pub returns : goal.returns
returns c =
    λ i. record { at = (c.sum-at.ensures ∙ ap (plus c.args.self.at) c.turn-turned.ensures) i; rot = c.compose-rot.ensures i }

pub sum-at-requires : goal.sum-at-requires
sum-at-requires c = record {
  p_near = c.requires.self_near;
  q_near = subst (Within reach) (sym c.turn-turned.ensures) (within_turned reach c.args.self.rot c.args.own.at c.requires.own_near);
}
