use Rattle.chains.proofs.frames.+reach.Given as goal

-- the depth falls
abbrev pub decreases-reach : goal.decreases-reach
decreases-reach l = l.depth
