-- From a well-formed memory to what the walk asks, and from what the walk gives back to the memory's own resultants.
use Prim.Native.Nat.{ℕ, zero, suc, ◌*◌, ◌≤◌, ◌<◌}
use mathlib.Core.Path.{◌≡◌, refl, sym, ap, subst, ◌∙◌}
use mathlib.Core.Bool.{true}
use mathlib.Core.List.{List}
use native.Mathlib.Omega.{arith}
use native.Mathlib.Decide.{dec_lt}
use borrow.Author.Tests.{leb-true}
use lib.IntN.{ℤ, nat_abs}
use lib.ListN.{length, length-map, get_or-map}
use Rattle.model.specs.Limits.{max_systems, offset_limit}
use Rattle.model.specs.declared.Vec3.{Vec3}
use Rattle.model.specs.Words.{offset?, offsets_fine}
use Rattle.model.specs.Memory.{System, Memory, system_at, blank}
use Rattle.model.specs.WellFormed.{memory_fine}
use Rattle.model.proofs.Memories.Fine.{Systems, own_of, offsets_of_lem, fine_of, preds_within, blank_beyond}
use Rattle.pose.specs.Poses.{Within}
use Rattle.pose.proofs.Bounds.{within_origin}
use Rattle.chains.specs.Flat.{preds_of}
use Rattle.chains.specs.Frames.{frame_of, frames_of, framed}
use Rattle.chains.specs.Walk.{walked, Walkable, Laid, Enough}
use Rattle.chains.proofs.Same.{frames_steps, frames_no_ring, frames_resultant}
use Rattle.chains.proofs.Reaching.{enough_from}

-- ---- a well-formed memory can be walked

offset_in : (z : ℤ) → offset? z ≡ true → nat_abs z ≤ offset_limit
unfolding offset?
offset_in z e = leb-true (nat_abs z) offset_limit e

pub offsets_in : (t : Vec3) → offsets_fine t ≡ true → Within offset_limit t
offsets_in t e =
    let o = offsets_of_lem t e in
    record { x_within = offset_in t.x o.x; y_within = offset_in t.y o.y; z_within = offset_in t.z o.z }

-- where no system stands, the offsets are 0
offsets_at : (l : List System) → Systems l → (q : ℕ) → Within offset_limit (system_at l q).offset
unfolding system_at
offsets_at l f zero = within_origin offset_limit
offsets_at l f (suc i) = go (dec_lt (length l) (suc i))
  where
    go : Dec (length l < suc i) → Within offset_limit (system_at l (suc i)).offset
    go (yes h) = rw (blank_beyond l (suc i) h) (within_origin offset_limit)
    go (no h) = offsets_in (system_at l (suc i)).offset (own_of (system_at l (suc i)) (f.own (suc i) (omega arith, omega arith))).offset

pub walkable : (m : Memory) → memory_fine m ≡ true → Walkable m.systems
walkable m e =
    let f = fine_of m e in
    record { few = f.systems.few; ringless = f.ringless; preds = preds_within f.systems; offsets = offsets_at m.systems f.systems }

-- ---- its frames too, and flat numbers that stand for them

frame_at : (l : List System) (q : ℕ) → system_at (frames_of l) q ≡ frame_of (system_at l q)
unfolding system_at
frame_at l zero = refl
frame_at l (suc i) = get_or-map frame_of l i blank

walkable_frames : (l : List System) → Walkable l → Walkable (frames_of l)
walkable_frames l w =
    let n : length (frames_of l) ≡ length l = length-map l frame_of in
    record {
      few = omega (arith, w.few);
      ringless = frames_no_ring l ∙ w.ringless;
      preds = λ q. rw (frame_at l q) (omega (arith, w.preds q));
      offsets = λ q. rw (frame_at l q) (w.offsets q);
    }

module _ (l : List System) (w : Walkable l) (xs : List ℤ) (ts ps : List ℕ) (links : ps ≡ preds_of l) (frames : framed xs ts (preds_of l) ≡ frames_of l) where
  stands : framed xs ts ps ≡ frames_of l
  stands = ap (framed xs ts) links ∙ frames

  pub ready : length l * 3 ≤ length xs → length l * 3 ≤ length ts → Laid xs ts ps
  ready hx ht =
      let n : length ps ≡ length l = ap length links ∙ length-map l (λ (s : System). s.pred) in
      record { offsets = omega arith; turns = omega arith; systems = subst Walkable (sym stands) (walkable_frames l w) }

  pub ready_at : (q : ℕ) → q ≤ length l → Enough (framed xs ts ps) q max_systems
  ready_at q h =
      let n : length (frames_of l) ≡ length l = length-map l frame_of in
      subst (λ (k : List System). Enough k q max_systems) (sym stands) (enough_from (frames_of l) (walkable_frames l w) q (omega arith))

  pub ready_walk : (q : ℕ) → walked (framed xs ts ps) q ≡ walked l q
  ready_walk q = rw stands (λ d. record { pose = frames_resultant l q d; steps = frames_steps l q d })
