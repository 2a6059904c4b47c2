-- `spot`: the enabled operating system's resultant, and the position's offset, turned as that is, from there.
use mathlib.Core.Path.{◌≡◌, ap, subst, sym, ◌∙◌}
use native.Mathlib.Omega.{arith}
use borrow.Author.Rules.{rules}
use lib.ListN.{length}
use Rattle.model.specs.Limits.{offset_limit}
use Rattle.model.specs.Pose.{Pose, plus, placed}
use Rattle.model.specs.Chain.{resultant}
use Rattle.model.specs.Words.{offsets_fine}
use Rattle.model.specs.Stage.{angles_fine, position_fine, operating_pose, spot}
use Rattle.model.specs.Stored.{systems_of, memory_of}
use Rattle.model.proofs.Basics.{and_split}
use Rattle.model.proofs.Poses.Turning.{after_unturned}
use Rattle.model.proofs.Shape.{systems_of_count}
use Rattle.pose.specs.Poses.{Within, widest, reach}
use Rattle.pose.proofs.Bounds.{within_more, within_turned}
use Rattle.chains.specs.Walk.{farthest, Walk, walk_of, Near}
use Rattle.chains.proofs.Copies.{length_mapped}
use Rattle.chains.proofs.Flattened.{operating_there}
use Rattle.chains.proofs.Reaching.{walked_near}
use Rattle.chains.proofs.Ready.{walkable, offsets_in}
use Rattle.commands.proofs.stage.spot.Goals.{Start}
use Rattle.commands.proofs.stage.spot.Goals.{After-walk_from-r}
use Rattle.commands.proofs.stage.spot.Goals.{Start}
use Rattle.commands.proofs.stage.spot.Goals as goal

long : (c : Start) → length c.args.m.systems ≡ 16
long c = search (length_mapped, rules)

pub walk_from-r-requires : goal.walk_from-r-requires
walk_from-r-requires c = record {
  fine_memory = c.requires.fine_memory;
  links_of = c.requires.links_of;
  place_le_count = rw c.operating_place.ensures (operating_there c.args.m c.requires.fine_memory (long (goal.at.walk_from-r-requires c).Start));
}

-- what was reached is no farther off than a chain leads
near : (c : After-walk_from-r) → Near (walk_of c.walk_from-r.result)
near c =
    let m = c.args.m in
    let there = operating_there m c.requires.fine_memory ((search (length_mapped, rules))) in
    subst Near (sym c.walk_from-r.ensures)
    (walked_near (systems_of m) (walkable (memory_of m) c.requires.fine_memory.formed) c.operating_place.result (omega (arith, c.operating_place.ensures, there, systems_of_count m c.requires.fine_memory.shape ((search (length_mapped, rules))))))

-- the step that is taken from there
step_near : (c : Start) → Within offset_limit c.args.p.offset
unfolding position_fine
step_near c = let p = c.args.p in offsets_in p.offset (and_split (offsets_fine p.offset) (angles_fine p.angles) c.requires.p_fine).0

pub turn-step-requires : goal.turn-step-requires
turn-step-requires c =
    within_more offset_limit widest c.args.p.offset (omega arith) (step_near (goal.at.turn-step-requires c).Start)

pub sum-at-requires : goal.sum-at-requires
sum-at-requires c =
    let turned = within_turned offset_limit c.walk_from-r.result.rot c.args.p.offset (step_near (goal.at.sum-at-requires c).Start) in record {
      p_near = within_more farthest reach _ (omega arith) (near (goal.at.sum-at-requires c).After-walk_from-r).at;
      q_near = subst (Within reach) (sym c.turn-step.ensures) (within_more offset_limit reach _ (omega arith) turned);
    }

pub returns : goal.returns
unfolding spot
returns c =
    let m = c.args.m in
    let frame = operating_pose (memory_of m) in
    let here : (walk_of c.walk_from-r.result).pose ≡ frame =
    ap (λ (k : Walk). k.pose) c.walk_from-r.ensures ∙ ap (resultant (systems_of m)) c.operating_place.ensures in
    let at = c.sum-at.ensures ∙ ap (plus c.walk_from-r.result.at) c.turn-step.ensures ∙ ap (λ (q : Pose). placed q c.args.p.offset) here in
    let rot = ap (λ (q : Pose). q.rot) here ∙ sym (after_unturned frame.rot) in
    λ i. record { at = at i; rot = rot i }
