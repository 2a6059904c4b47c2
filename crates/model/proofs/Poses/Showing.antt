-- The shown triple names the rotation and is the first that does, and rotations are told apart by it, as they are by how they turn points.
use mathlib.Core.Path.{◌≡◌, refl, sym, ap, subst, ◌∙◌}
use mathlib.Core.Bool.{Bool, true}
use mathlib.Core.Logic.{◌↔◌}
use Prim.Native.Nat.{ℕ, zero, suc, ◌≤◌, ◌<◌}
use native.Mathlib.Omega.{arith}
use native.Mathlib.Decide.{dec_lt}
use lib.Dec.{T}
use lib.IntN.{ℤ, pos, negsuc}
use borrow.Author.Tests.{eq-eqb}
use Rattle.model.specs.Types.{Dir, Px, Nx, Py, Ny, Pz, Nz, Rot, Turns, Vec3}
use Rattle.model.specs.Lists.{least}
use Rattle.model.specs.Pose.{coord, turned, unturned, times, rot_of, axis_number, same_rot, triple, place, shown}
use Rattle.model.specs.WellFormed.{turns_fine}
use Rattle.model.specs.Arithmetic.{Named}
use Rattle.model.proofs.Basics.{least_le, least_hit, least_miss, true_false}
use Rattle.model.proofs.Memories.Fine.{turns_from_lem}
use Rattle.model.proofs.Poses.Naming.{same_is, triple_number, rot_of_number, at_turns}

pub named_turns : (t : Turns) → Named (rot_of t)
named_turns t = record { name = t; is = refl }

-- ---- it names the rotation

-- the triple that r is shown as names it
unfoldable pub shown_test : Rot → Bool
shown_test r = same_rot (rot_of (shown r)) r

pub tested : (r : Rot) → T (shown_test r) → rot_of (shown r) ≡ r
unfolding shown_test
tested r t = same_is (rot_of (shown r)) r t

pub shown_names : (r : Rot) → Named r → rot_of (shown r) ≡ r
unfolding shown_test shown times rot_of same_rot least
shown_names r n = subst (λ (o : Rot). rot_of (shown o) ≡ o) n.is (tested (rot_of n.name) (at_turns shown_test tt n.name))

-- rotations that are shown alike are one
pub shown_tells : (r s : Rot) → Named r → Named s → shown r ≡ shown s → r ≡ s
shown_tells r s m n e = sym (shown_names r m) ∙ ap rot_of e ∙ shown_names s n

-- ---- it is the first that does

-- the place of the first triple that names r
abbrev first_of : Rot → ℕ
first_of r = least 63 (λ k. same_rot (rot_of (triple k)) r)

pub place_triple : (k : ℕ) → place (triple k) ≡ k
place_triple k = omega arith

same_self : (r : Rot) → same_rot r r ≡ true
unfolding same_rot
same_self r = rw (eq-eqb (axis_number r.a) (axis_number r.a) refl, eq-eqb (axis_number r.b) (axis_number r.b) refl, eq-eqb (axis_number r.c) (axis_number r.c) refl) refl

-- no triple of the 64 that names r stands before it
not_before : (r : Rot) (k : ℕ) → rot_of (triple k) ≡ r → first_of r ≤ k
not_before r k e = go (dec_lt k (first_of r))
  where
    names : same_rot (rot_of (triple k)) r ≡ true
    names = subst (λ (o : Rot). same_rot (rot_of (triple k)) o ≡ true) e (same_self (rot_of (triple k)))

    go : Dec (k < first_of r) → first_of r ≤ k
    go (yes h) = true_false (sym names ∙ least_miss 63 (λ j. same_rot (rot_of (triple j)) r) k h)
    go (no h) = omega arith

pub shown_first : (t : Turns) → place (shown (rot_of t)) ≤ place t
unfolding shown
shown_first t =
    let r = rot_of t in
    rw (place_triple (first_of r)) (omega (arith, not_before r (triple_number t) (rot_of_number t)))

-- it has 0 to 3 quarter turns
pub shown_fine : (r : Rot) → turns_fine (shown r) ≡ true
unfolding shown
shown_fine r =
    let h = least_le 63 (λ k. same_rot (rot_of (triple k)) r) in
    turns_from_lem (triple (first_of r)) (record { u = omega (arith, h); v = omega arith; w = omega arith })

-- no turn is the only rotation that is shown as none
pub shown_unturned : (r : Rot) → shown r ≡ shown unturned → r ≡ unturned
unfolding shown times rot_of same_rot least
shown_unturned r e =
    let z : first_of r ≡ 0 = sym (place_triple (first_of r)) ∙ ap place e in
    let hit = least_hit 63 (λ k. same_rot (rot_of (triple k)) r) (omega arith) in
    let now : same_rot (rot_of (triple 0)) r ≡ true = subst (λ (k : ℕ). same_rot (rot_of (triple k)) r ≡ true) z hit in
    sym (same_is (rot_of (triple 0)) r (subst T (sym now) tt))

-- ---- rotations by how they turn points

-- a point that tells the signed axes apart
abbrev mark : Vec3
mark = record { x = pos 1; y = pos 2; z = pos 3 }

axis : ℤ → Dir
axis (pos zero) = Px
axis (pos (suc zero)) = Px
axis (pos (suc (suc zero))) = Py
axis (pos (suc (suc (suc n)))) = Pz
axis (negsuc zero) = Nx
axis (negsuc (suc zero)) = Ny
axis (negsuc (suc (suc n))) = Nz

axis_marked : (d : Dir) → axis (coord d mark) ≡ d
unfolding axis
axis_marked Px = refl
axis_marked Nx = refl
axis_marked Py = refl
axis_marked Ny = refl
axis_marked Pz = refl
axis_marked Nz = refl

same_marked : (d e : Dir) → coord d mark ≡ coord e mark → d ≡ e
same_marked d e p = sym (axis_marked d) ∙ ap axis p ∙ axis_marked e

-- rotations that turn every point alike are one
pub turned_tells : (r s : Rot) → ((v : Vec3) → turned r v ≡ turned s v) → r ≡ s
turned_tells r s h =
    let p = h mark in
    λ i.
    record {
      a = same_marked r.a s.a (ap (λ (q : Vec3). q.x) p) i;
      b = same_marked r.b s.b (ap (λ (q : Vec3). q.y) p) i;
      c = same_marked r.c s.c (ap (λ (q : Vec3). q.z) p) i;
    }

-- two triples are shown alike exactly where they turn every point alike
pub shown_alike : (s t : Turns) → (shown (rot_of s) ≡ shown (rot_of t)) ↔ ((v : Vec3) → turned (rot_of s) v ≡ turned (rot_of t) v)
shown_alike s t = (
  (λ e v. ap (λ (r : Rot). turned r v) (shown_tells (rot_of s) (rot_of t) (named_turns s) (named_turns t) e)),
  (λ h. ap shown (turned_tells (rot_of s) (rot_of t) h)),
)
