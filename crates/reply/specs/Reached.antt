-- KLT?: the line of what a walk reached, and the system that a place is.
use Rattle.model.specs.Base.{ℕ, zero, suc, List}
use Rattle.model.specs.Kinds.{of_group}
use Rattle.model.specs.Pose.{shown}
use Rattle.model.specs.Memory.{System, Ref, fixed_ref, user_ref}
use Rattle.model.specs.Chain.{steps, pose_in}
use Rattle.model.specs.Stored.{bytes_of}
use Rattle.std.specs.Prelude.{◌≤◌, ◌<◌, ◌+◌}
use Rattle.model.specs.declared.Name.{Name}
use Rattle.model.specs.Limits.{name_limit}
use Rattle.pose.specs.Poses.{Within, reach}
use Rattle.chains.specs.declared.frames.Reached.{Reached}
use Rattle.chains.specs.Walk.{Walk}
use Rattle.reply.specs.Types.{Group}
use Rattle.reply.specs.Lines.{name_text, resultant_text}

-- what a walk reached, and the name of its system, can be written
pub record Reachable (n : Name) (r : Reached) : Type 0 where
  pub name_fits : n.len ≤ name_limit
  pub near : Within reach r.at

-- a walk, seen from an end by that name
abbrev pub walk_text : List ℕ → List ℕ → Walk → List ℕ
walk_text n e w = resultant_text n e w.pose.at (shown w.pose.rot) w.steps

-- from the end of its chain
abbrev pub reached_text : List ℕ → Group → Walk → List ℕ
reached_text n g w = walk_text n (of_group g).end w

-- [02 §3] what is reached of the system at place a, seen from that at place b
abbrev pub seen_walk : List System → ℕ → ℕ → Walk
seen_walk l a b = record { pose = pose_in l a b; steps = steps l a + steps l b }

-- the names of the systems at two places, and what is seen of the one from the other, can be written
pub record Seeable (place : ℕ) (name : Name) (from : ℕ) (end : Name) (r : Reached) : Type 0 where
  pub name_fits : 0 < place → name.len ≤ name_limit
  pub end_fits : 0 < from → end.len ≤ name_limit
  pub near : Within reach r.at

-- of the system at a place of the group, from another place of it
abbrev pub relative_text : Group → ℕ → Name → ℕ → Name → Walk → List ℕ
relative_text g place name from end w = walk_text (name_text g place (bytes_of name)) (name_text g from (bytes_of end)) w

-- place 0 is the group's fixed system, any other the user system that stands there
abbrev pub ref_at : List System → Group → ℕ → Ref
ref_at l g zero = fixed_ref g
ref_at l g (suc k) = user_ref l (suc k)
