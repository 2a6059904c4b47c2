-- The walk's laws over flat numbers: one link on, and how far off the origin it can be.
use Prim.Native.Nat.{ℕ, zero, suc, ◌+◌, ◌-◌, ◌*◌, ◌<◌, ◌≤◌}
use mathlib.Core.Path.{◌≡◌, refl, sym, ap, subst, ◌∙◌}
use mathlib.Core.List.{List}
use native.Mathlib.Omega.{arith}
use native.Mathlib.Nat.{suc-mul}
use native.Mathlib.Numerals.{add-one}
use lib.IntN.{ℤ}
use lib.ListN.{length, get_or}
use Rattle.model.specs.Limits.{max_systems, offset_limit}
use Rattle.model.specs.Pose.{followed, inverse, rot_of}
use Rattle.model.specs.Memory.{System, system_at, blank}
use Rattle.model.specs.Chain.{pred_of, steps, own_pose, pose_over, resultant, pose_in}
use Rattle.model.proofs.Chains.Hops.{pred_of_is, ring_free, pred_in_range}
use Rattle.model.proofs.Chains.Steps.{Ends, steps_zero, steps_within, steps_pred, resultant_zero, resultant_pred}
use Rattle.model.proofs.Poses.Laws.{follow_assoc, neutral_before, neutral_behind}
use Rattle.pose.specs.Poses.{Within, reach}
use Rattle.pose.proofs.Bounds.{within_origin, within_more, within_followed, within_inverse}
use Rattle.chains.specs.Frames.{frame, framed, offset_at, turns_at}
use Rattle.chains.specs.Walk.{farthest, farthest_apart, Walk, walked, at_fixed, link_on, onward, undone_of, Walkable, Laid, Enough, pose_at, Linkable, Near}
use Rattle.chains.proofs.Laid.{framed_length, framed_at}

-- ---- bounds: each link adds at most one own offset

module _ (l : List System) (w : Walkable l) where
  within_over : (n q : ℕ) → Within (n * offset_limit) (pose_over l n q).at
  unfolding pose_over own_pose
  within_over zero q = within_origin (0 * offset_limit)
  within_over (suc n) q =
      within_more (n * offset_limit + offset_limit) (suc n * offset_limit) (pose_over l (suc n) q).at (omega (arith, suc-mul n offset_limit))
      (within_followed (n * offset_limit) offset_limit (pose_over l n (pred_of l q)) (own_pose l q) (within_over n (pred_of l q)) (w.offsets q))

  pub few_steps : (q : ℕ) → q ≤ length l → steps l q ≤ max_systems
  few_steps q h = omega (arith, steps_within l q (ring_free l w.ringless q h), w.few)

  pub enough_from : (q : ℕ) → q ≤ length l → Enough l q max_systems
  enough_from q h = record { there = h; deep = few_steps q h; bounded = omega arith }

  pub resultant_far : (q : ℕ) → q ≤ length l → Within farthest (resultant l q).at
  unfolding resultant
  resultant_far q h =
      within_more (steps l q * offset_limit) farthest (resultant l q).at (omega (arith, few_steps q h)) (within_over (steps l q) q)

  pub walked_near : (q : ℕ) → q ≤ length l → Near (walked l q)
  walked_near q h = record { at = resultant_far q h; steps = few_steps q h }

  -- a walk undone is as far off as the walk
  pub walked_undone : (q : ℕ) → q ≤ length l → Near (undone_of (walked l q))
  walked_undone q h = record { at = within_inverse farthest (resultant l q) (resultant_far q h); steps = few_steps q h }

  -- one system seen from another
  pub seen_far : (a b : ℕ) → a ≤ length l → b ≤ length l → Within farthest_apart (pose_in l a b).at
  unfolding pose_in
  seen_far a b h k =
      within_followed farthest farthest (inverse (resultant l b)) (resultant l a) (within_inverse farthest (resultant l b) (resultant_far b k)) (resultant_far a h)

-- ---- one link on, over flat numbers

system_user : (l : List System) (q i : ℕ) → q ≡ suc i → system_at l q ≡ get_or l i blank
unfolding system_at
system_user l q i e = rw e

pub walked_fixed : (l : List System) (q : ℕ) → q ≡ 0 → at_fixed ≡ walked l q
walked_fixed l q e = (λ d. record { pose = sym (resultant_zero l) d; steps = sym (steps_zero l) d }) ∙ ap (walked l) (sym e)

-- place q is that of system i
pub record UserPlace (xs : List ℤ) (ts ps : List ℕ) (q i : ℕ) : Type 0 where
  pub laid : Laid xs ts ps
  pub is : q ≡ suc i
  pub there : q ≤ length (framed xs ts ps)

module _ {xs : List ℤ} {ts ps : List ℕ} {q i : ℕ} (u : UserPlace xs ts ps q i) where
  abbrev l : List System
  l = framed xs ts ps

  abbrev p : ℕ
  p = get_or ps i 0

  pub in_preds : i < length ps
  in_preds = omega (arith, framed_length xs ts ps, u.is, u.there)

  frame_here : system_at l q ≡ frame (offset_at xs i) (turns_at ts i) p
  frame_here = system_user l q i u.is ∙ framed_at xs ts ps i in_preds

  link : pred_of l q ≡ p
  link = pred_of_is l q ∙ ap (λ (s : System). s.pred) frame_here

  pub pred_there : p ≤ length l
  pred_there = rw (sym link) (pred_in_range l u.laid.systems.preds q)

  ends : Ends l q
  ends = ring_free l u.laid.systems.ringless q u.there

  pub steps_link : steps l q ≡ suc (steps l p)
  steps_link = steps_pred l q (omega (arith, u.is)) ends ∙ ap (λ (j : ℕ). suc (steps l j)) link

  pub enough_on : (depth : ℕ) → Enough l q depth → Enough l p (depth - 1)
  enough_on depth e = record { there = pred_there; deep = omega (arith, steps_link, e.deep); bounded = omega (arith, e.bounded) }

  own_here : own_pose l q ≡ pose_at xs ts i
  unfolding own_pose
  own_here = ap (λ (s : System). record { at = s.offset; rot = rot_of s.turns }) frame_here

  resultant_link : resultant l q ≡ followed (resultant l p) (pose_at xs ts i)
  resultant_link = resultant_pred l q (omega (arith, u.is)) ends ∙ (λ d. followed (resultant l (link d)) (own_here d))

  pub walked_link : link_on (walked l p) (pose_at xs ts i) ≡ walked l q
  walked_link =
      let n : steps l p + 1 ≡ steps l q = add-one (steps l p) ∙ sym steps_link in
      λ d. record { pose = sym resultant_link d; steps = n d }

  -- what is reached at the predecessor from a base can be followed on from, and that is what is reached at the place from that base
  module _ {w : Walk} (base : Walk) (known : w ≡ onward base (walked l p)) where
    pub can_link : Near base → Linkable xs ts i w
    can_link near =
        let far = within_followed farthest farthest base.pose (resultant l p) near.at (resultant_far l u.laid.systems p pred_there) in
        record {
          numbers = (omega (arith, in_preds, u.laid.offsets), omega (arith, in_preds, u.laid.turns));
          near = subst (λ (v : Walk). Within reach v.pose.at) (sym known) (within_more farthest_apart reach (onward base (walked l p)).pose.at (omega arith) far);
          own =
              within_more offset_limit reach (offset_at xs i) (omega arith) (subst (λ (s : System). Within offset_limit s.offset) frame_here (u.laid.systems.offsets q));
          steps = omega (arith, near.steps, ap (λ (v : Walk). v.steps) known, steps_link, few_steps l u.laid.systems q u.there);
        }

    pub walked_on : {v : Walk} → v ≡ link_on w (pose_at xs ts i) → v ≡ onward base (walked l q)
    walked_on e =
        let own = pose_at xs ts i in
        let n : base.steps + steps l p + 1 ≡ base.steps + (steps l p + 1) = omega arith in
        e ∙ ap (λ (u : Walk). link_on u own) known
        ∙ (λ d. record { pose = follow_assoc base.pose (resultant l p) own d; steps = n d })
        ∙ ap (onward base) walked_link

-- ---- bases

-- a walk from the fixed system itself
pub from_fixed : (w : Walk) → onward at_fixed w ≡ w
from_fixed w = let n : 0 + w.steps ≡ w.steps = omega arith in λ d. record { pose = neutral_before w.pose d; steps = n d }

-- a walk to the fixed system
pub to_fixed : (l : List System) (base : Walk) → onward base (walked l 0) ≡ base
to_fixed l base =
    let n : base.steps + 0 ≡ base.steps = omega arith in
    ap (onward base) (sym (walked_fixed l 0 refl)) ∙ (λ d. record { pose = neutral_behind base.pose d; steps = n d })
