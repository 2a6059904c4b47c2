use Prim.Native.Nat.{◌+◌}
use mathlib.Core.Path.{◌≡◌, refl, ap, ◌∙◌}
use mathlib.Core.Logic.{inl, inr}
use native.Mathlib.Omega.{arith}
use Rattle.model.specs.Chain.{steps, pose_in}
use Rattle.model.specs.Stored.{systems_of}
use Rattle.chains.specs.Walk.{walk_of, walked, onward, undone_of}
use Rattle.chains.proofs.Copies.{length_mapped}
use Rattle.chains.proofs.Reaching.{walked_fixed}
use Rattle.chains.proofs.Flattened.{FlatOf, can_walk, deep_enough, flat_walk, walk_near, undone_near}
use borrow.Author.Rules.{rules}
use Rattle.reply.proofs.relative.seen_at.Goals.{After-unmoved-start, After-reach-there, After-undone-back}
use Rattle.reply.proofs.relative.seen_at.Goals as goal

-- the numbers of the memory, laid flat
flat : (c : After-unmoved-start) → FlatOf c.args.m c.flat-ps.result.now c.frames_of-frames.result.offsets c.frames_of-frames.result.turns
flat c = record {
  good = c.requires.fine_memory;
  long = search (length_mapped, rules);
  links = c.flat-ps.ensures ∙ c.links_of-links.ensures.links;
  frames = c.frames_of-frames.ensures;
  wide = search rules;
  broad = search rules;
}

pub reach-there-requires : goal.reach-there-requires
reach-there-requires c =
    let f = flat (goal.at.reach-there-requires c).After-unmoved-start in record {
      laid = can_walk f;
      known = inl (c.unmoved-start.ensures ∙ walked_fixed _ 0 refl);
      enough = deep_enough f _ c.requires.there.1;
    }

pub undone-back-requires : goal.undone-back-requires
undone-back-requires c =
    let f = flat (goal.at.undone-back-requires c).After-unmoved-start in
    walk_near f c.args.from c.requires.there.1 (c.reach-there.ensures.walk (c.unmoved-start.ensures ∙ walked_fixed _ 0 refl) ∙ flat_walk f _)

pub reach-requires : goal.reach-requires
reach-requires c =
    let f = flat (goal.at.reach-requires c).After-unmoved-start in
    let back : walk_of c.undone-back.result ≡ undone_of (walked (systems_of c.args.m) c.args.from) =
    c.undone-back.ensures ∙ ap undone_of (c.reach-there.ensures.walk (c.unmoved-start.ensures ∙ walked_fixed _ 0 refl) ∙ flat_walk f _) in record {
      laid = can_walk f;
      known = inr (refl, undone_near f c.args.from c.requires.there.1 back);
      enough = deep_enough f _ c.requires.there.0;
    }

pub returns : goal.returns
unfolding pose_in
returns c =
    let f = flat (goal.at.returns c).After-unmoved-start in
    let back : walk_of c.undone-back.result ≡ undone_of (walked (systems_of c.args.m) c.args.from) =
    c.undone-back.ensures ∙ ap undone_of (c.reach-there.ensures.walk (c.unmoved-start.ensures ∙ walked_fixed _ 0 refl) ∙ flat_walk f _) in
    let l = systems_of c.args.m in
    let both : steps l c.args.from + steps l c.args.place ≡ steps l c.args.place + steps l c.args.from = omega arith in
    c.reach.ensures.on refl ∙ (λ d. onward (back d) (flat_walk f c.args.place d))
    ∙ (λ d. record { pose = pose_in l c.args.place c.args.from; steps = both d })
