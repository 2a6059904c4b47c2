-- Document 02 §5: the laws of poses by offset and shown triple. Of named rotations the shown triple tells all, so that alike poses are the same pose.
use mathlib.Core.Path.{◌≡◌, refl, sym, ap, ◌∙◌}
use mathlib.Core.Bool.{true}
use mathlib.Core.List.{List}
use Prim.Native.Nat.{ℕ, zero, suc, ◌+◌, ◌-◌, ◌≤◌}
use native.Mathlib.Omega.{arith}
use lib.IntN.{ℤ, pos, negsuc, neg_ℤ}
use Rattle.model.specs.Types.{Dir, Nx, Ny, Nz, Rot, Vec3}
use Rattle.model.specs.Pose.{Pose, coord, turned, plus, minus, origin, placed, neutral, followed, transposed, shown}
use Rattle.model.specs.Memory.{System, system_at}
use Rattle.model.specs.Chain.{pred_of, hop, steps, own_pose, pose_over, resultant}
use Rattle.model.specs.Words.{offset?}
use Rattle.model.specs.Words.{offsets_fine}
use Rattle.model.specs.Arithmetic.{Alike, Named, FollowingOn, OneInverse, Showing, Regrouping, Arithmetic}
use Rattle.model.proofs.Chains.Hops.{ring_free}
use Rattle.model.proofs.Chains.Steps.{Ends, steps_hop}
use Rattle.model.proofs.Memories.Fine.{fine_of, offsets_of_lem, offsets_from}
use Rattle.model.proofs.Poses.Turning.{coord_keeps, plus_assoc, origin_plus, minus_plus}
use Rattle.model.proofs.Poses.Showing.{named_turns, place_triple, shown_names, shown_first, shown_tells, shown_unturned, shown_alike, turned_tells}
use Rattle.model.proofs.Poses.Laws.{placed_followed, follow_assoc, neutral_before, neutral_behind, named_after, named_unturned, transposed_undoes, inverse_before, inverse_behind, only_before, only_behind}

-- ---- alike and the same

pub alike : (p q : Pose) → p ≡ q → Alike p q
alike p q e = record { offset = ap (λ (s : Pose). s.at) e; turns = ap (λ (s : Pose). shown s.rot) e }

one : (p q : Pose) → Named p.rot → Named q.rot → Alike p q → p ≡ q
one p q m n a = λ i. record { at = a.offset i; rot = shown_tells p.rot q.rot m n a.turns i }

-- whatever is alike to the neutral pose is neutral
none : (p : Pose) → Alike p neutral → p ≡ neutral
none p a = λ i. record { at = a.offset i; rot = shown_unturned p.rot a.turns i }

-- ---- poses by how they place points

-- a pose's offset is where it places the origin
at_origin : (p : Pose) → placed p origin ≡ p.at
at_origin p = ap (λ (s : Pose). s.at) (neutral_behind p)

-- and its turn is what is left of where it places a point
less_offset : (p : Pose) (v : Vec3) → plus (minus p.at) (placed p v) ≡ turned p.rot v
less_offset p v =
    sym (plus_assoc (minus p.at) p.at (turned p.rot v)) ∙ ap (λ (w : Vec3). plus w (turned p.rot v)) (minus_plus p.at) ∙
    origin_plus (turned p.rot v)

placed_tells : (p q : Pose) → ((v : Vec3) → placed p v ≡ placed q v) → p ≡ q
placed_tells p q h =
    let e = sym (at_origin p) ∙ h origin ∙ at_origin q in
    let turns : (v : Vec3) → turned p.rot v ≡ turned q.rot v = λ v. sym (less_offset p v) ∙ (λ i. plus (minus (e i)) (h v i)) ∙ less_offset q v in
    λ i. record { at = e i; rot = turned_tells p.rot q.rot turns i }

-- ---- the limit is the same either way, so that a turn stays within it

offset_neg : (z : ℤ) → offset? (neg_ℤ z) ≡ offset? z
unfolding offset?
offset_neg (pos zero) = refl
offset_neg (pos (suc n)) = refl
offset_neg (negsuc n) = refl

fine_turned : (r : Rot) (v : Vec3) → offsets_fine v ≡ true → offsets_fine (turned r v) ≡ true
fine_turned r v fine =
    let o = offsets_of_lem v fine in
    let keeps : (d : Dir) → offset? (coord d v) ≡ true = coord_keeps (λ z. offset? z ≡ true) (λ z e. offset_neg z ∙ e) v o.x o.y o.z in
    offsets_from (turned r v) (record { x = keeps r.a; y = keeps r.b; z = keeps r.c })

-- (the opposite of a point is what three mirrored axes make of it)
fine_minus : (v : Vec3) → offsets_fine v ≡ true → offsets_fine (minus v) ≡ true
fine_minus v = fine_turned (record { a = Nx; b = Ny; c = Nz }) v

-- ---- chains

pub named_over : (l : List System) (i q : ℕ) → Named (pose_over l i q).rot
unfolding pose_over own_pose
named_over l zero q = named_unturned
named_over l (suc i) q = named_after (pose_over l i (pred_of l q)).rot (own_pose l q).rot (named_over l i (pred_of l q)) (named_turns (system_at l q).turns)

cut_over : (l : List System) (i j q : ℕ) → pose_over l (i + j) q ≡ followed (pose_over l i (hop l j q)) (pose_over l j q)
unfolding pose_over hop
cut_over l i zero q = let e : i + 0 ≡ i = omega arith in ap (λ (n : ℕ). pose_over l n q) e ∙ sym (neutral_behind (pose_over l i q))
cut_over l i (suc j) q =
    let e : i + suc j ≡ suc (i + j) = omega arith in
    let p = pred_of l q in
    ap (λ (n : ℕ). pose_over l n q) e ∙ ap (λ (s : Pose). followed s (own_pose l q)) (cut_over l i j p) ∙
    follow_assoc (pose_over l i (hop l j p)) (pose_over l j p) (own_pose l q)

cut_resultant : (l : List System) (q j : ℕ) → Ends l q → j ≤ steps l q → resultant l q ≡ followed (resultant l (hop l j q)) (pose_over l j q)
unfolding resultant
cut_resultant l q j e h =
    let n = steps l q - j in
    let s : steps l q ≡ n + j = omega arith in
    ap (λ (k : ℕ). pose_over l k q) s ∙ cut_over l n j q ∙
    ap (λ (k : ℕ). followed (pose_over l k (hop l j q)) (pose_over l j q)) (sym (steps_hop l q j n e (omega arith)))

-- ---- the claims

following_on : FollowingOn
following_on =
    record {
      associative = λ p q t. alike _ _ (follow_assoc p q t);
      neutral_before = λ p. alike _ _ (neutral_before p);
      neutral_behind = λ p. alike _ _ (neutral_behind p);
      named = λ p t m n. named_after p.rot t.rot m n;
      places = placed_followed;
      replaced = λ p q s t k l m n a b. alike _ _ (λ i. followed (one p q k l a i) (one s t m n b i));
    }

one_inverse : (p : Pose) → Named p.rot → OneInverse p
one_inverse p n =
    record {
      named = (transposed_undoes p.rot n).named;
      within = λ fine. fine_turned (transposed p.rot) (minus p.at) (fine_minus p.at fine);
      undoes = record { before = alike _ _ (inverse_before p n); behind = alike _ _ (inverse_behind p n) };
      only_before = λ q a. alike _ _ (only_before p n q (none _ a));
      only_behind = λ q a. alike _ _ (only_behind p n q (none _ a));
    }

showing : Showing
showing =
    record {
      names = shown_names;
      first = shown_first;
      order = place_triple;
      triples = shown_alike;
      poses = λ p q m n. ((λ a v. ap (λ (s : Pose). placed s v) (one p q m n a)), (λ h. alike p q (placed_tells p q h)));
    }

regrouping : Regrouping
regrouping =
    record {
      named = named_over;
      resultants = λ m fine q j h below. alike _ _ (cut_resultant m.systems q j (ring_free m.systems (fine_of m fine).ringless q h) below);
      pieces = λ l i j q. alike _ _ (cut_over l i j q);
    }

pub arithmetic_of_poses : Arithmetic
arithmetic_of_poses = record { following = following_on; undoing = one_inverse; showing = showing; regrouping = regrouping }
