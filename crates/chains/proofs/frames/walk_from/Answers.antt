-- `walk_from`: the links are given, the frames are laid flat beside them, and the walk reaches what the memory's own chain leads to.
use Rattle.std.proofs.Common.{◌∙◌, refl, rules}
use mathlib.Core.Logic.{inl}
use Rattle.chains.proofs.Copies.{length_mapped}
use Rattle.chains.proofs.Flattened.{FlatOf, can_walk, deep_enough, flat_walk}
use Rattle.chains.proofs.Reaching.{walked_fixed}
use Rattle.chains.proofs.frames.walk_from.Goals.{After-flat}
use Rattle.chains.proofs.frames.walk_from.Goals as goal

pub returns-then-place-eq0 : goal.returns-then-place-eq0
returns-then-place-eq0 c = c.unmoved-start.ensures ∙ walked_fixed _ _ c.if-place-eq0.true

-- the numbers that the walk is lent are those of the memory
flat : (c : After-flat) → FlatOf c.args.m c.flat.result.now c.frames_of-frames.result.offsets c.frames_of-frames.result.turns
flat c = record {
  good = c.requires.fine_memory;
  long = search (length_mapped, rules);
  links = c.flat.ensures ∙ c.requires.links_of.links;
  frames = c.frames_of-frames.ensures;
  wide = search rules;
  broad = search rules;
}

pub reach-requires : goal.reach-requires
reach-requires c = record {
  laid = can_walk (flat c);
  known = inl (c.unmoved-start.ensures ∙ walked_fixed _ 0 refl);
  enough = deep_enough (flat c) _ c.requires.place_le_count;
}

pub returns : goal.returns
returns c =
    c.reach.ensures.walk (c.unmoved-start.ensures ∙ walked_fixed _ 0 refl) ∙ flat_walk (flat (goal.at.returns c).After-flat) _
