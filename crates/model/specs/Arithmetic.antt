-- Document 02 §5: the arithmetic of poses, by which recipe writers regroup chains. The statements only; `arithmetic_of_poses` in proofs/Poses proves them.
-- Only `within` speaks of the offset limit; the other laws hold beyond it too, as for the resultants of long chains.
use Rattle.std.specs.Prelude.{◌≤◌, ◌≡◌, ◌↔◌, ◌+◌}
use Rattle.model.specs.Base.{ℕ, List, true, length}
use Rattle.model.specs.Types.{Rot, Vec3, Turns}
use Rattle.model.specs.Pose.{Pose, turned, rot_of, placed, neutral, followed, inverse, triple, place, shown}
use Rattle.model.specs.Memory.{System, Memory}
use Rattle.model.specs.Chain.{hop, steps, pose_over, resultant}
use Rattle.model.specs.Words.{offsets_fine}
use Rattle.model.specs.WellFormed.{memory_fine}

-- [02 §5] the comparison in every law: one offset and one shown triple
pub record Alike (p q : Pose) : Type 0 where
  pub offset : p.at ≡ q.at
  pub turns : shown p.rot ≡ shown q.rot

-- [02 §5] some triple of quarter turns names the rotation. (No triple names three equal axes, for example.)
pub record Named (r : Rot) : Type 0 where
  pub name : Turns
  pub is : rot_of name ≡ r

-- [02 §5] following on is associative, the neutral pose is neutral on either side, and a named rotation followed by a named one is named. Following on places
-- a point as the two poses do one after the other, and a pose may be replaced by one that is alike.
pub record FollowingOn : Type 0 where
  pub associative : (p q t : Pose) → Alike (followed (followed p q) t) (followed p (followed q t))
  pub neutral_before : (p : Pose) → Alike (followed neutral p) p
  pub neutral_behind : (p : Pose) → Alike (followed p neutral) p
  pub named : (p t : Pose) → Named p.rot → Named t.rot → Named (followed p t).rot
  pub places : (p t : Pose) (v : Vec3) → placed (followed p t) v ≡ placed p (placed t v)
  pub replaced :
      (p q s t : Pose) → Named p.rot → Named q.rot → Named s.rot → Named t.rot
      → Alike p q → Alike s t → Alike (followed p s) (followed q t)

-- [02 §5] what an inverse is: q undoes p, before it and behind it
pub record Undoes (q p : Pose) : Type 0 where
  pub before : Alike (followed q p) neutral
  pub behind : Alike (followed p q) neutral

-- [02 §5] the pose has one inverse: it is turned by quarters and within the limit too, it undoes, and whatever undoes from either side is alike to it
pub record OneInverse (p : Pose) : Type 0 where
  pub named : Named (inverse p).rot
  pub within : offsets_fine p.at ≡ true → offsets_fine (inverse p).at ≡ true
  pub undoes : Undoes (inverse p) p
  pub only_before : (q : Pose) → Alike (followed q p) neutral → Alike q (inverse p)
  pub only_behind : (q : Pose) → Alike (followed p q) neutral → Alike q (inverse p)

-- [02 §5; Poses] the shown triple names the rotation, and is the first that does, by the places in dictionary order (`order`). Triples are shown alike
-- exactly when no point tells them apart; and poses are alike exactly when no point does, so that nothing is lost by comparing them so.
pub record Showing : Type 0 where
  pub names : (r : Rot) → Named r → rot_of (shown r) ≡ r
  pub first : (t : Turns) → place (shown (rot_of t)) ≤ place t
  pub order : (k : ℕ) → place (triple k) ≡ k
  pub triples : (s t : Turns) → (shown (rot_of s) ≡ shown (rot_of t)) ↔ ((v : Vec3) → turned (rot_of s) v ≡ turned (rot_of t) v)
  pub poses : (p q : Pose) → Named p.rot → Named q.rot → Alike p q ↔ ((v : Vec3) → placed p v ≡ placed q v)

-- [02 §5] the resultant of the system at place q is that of the system j links down its chain, followed by the pose over these links
abbrev pub CutAt : List System → ℕ → ℕ → Type 0
CutAt l q j = Alike (resultant l q) (followed (resultant l (hop l j q)) (pose_over l j q))

-- [02 §5] the machine's poses have named rotations, and its chains may be cut at any link, the piece between two systems too
pub record Regrouping : Type 0 where
  pub named : (l : List System) (i q : ℕ) → Named (pose_over l i q).rot
  pub resultants : (m : Memory) → memory_fine m ≡ true → (q j : ℕ) → q ≤ length m.systems → j ≤ steps m.systems q → CutAt m.systems q j
  pub pieces : (l : List System) (i j q : ℕ) → Alike (pose_over l (i + j) q) (followed (pose_over l i (hop l j q)) (pose_over l j q))

-- [02 §5] every law, in one
pub record Arithmetic : Type 0 where
  pub following : FollowingOn
  pub undoing : (p : Pose) → Named p.rot → OneInverse p
  pub showing : Showing
  pub regrouping : Regrouping
