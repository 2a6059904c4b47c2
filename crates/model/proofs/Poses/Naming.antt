-- Rotations by the triples that name them: what one computed test at 64 triples says of every triple.
use mathlib.Core.Path.{◌≡◌, refl, sym, ap, subst, ◌∙◌}
use mathlib.Core.Bool.{Bool, ◌&&◌}
use Prim.Native.Nat.{ℕ, zero, suc, ◌+◌, ◌*◌, ◌/◌, ◌%◌, ◌<◌}
use native.Mathlib.Omega.{arith}
use lib.Dec.{T, eqb, eqb→eq}
use mir.Facts.{and_yes}
use Rattle.model.specs.Types.{Dir, Px, Nx, Py, Ny, Pz, Nz, Rot, Turns}
use Rattle.model.specs.Pose.{after, unturned, times, quarter_x, quarter_y, quarter_z, rot_of, axis_number, same_rot, triple, place}
use Rattle.model.proofs.Upto.{upto, at}
use Rattle.model.proofs.Poses.Turning.{after_assoc}

-- ---- the comparison of two rotations

-- the signed axis with a number
abbrev pub axis_at : ℕ → Dir
axis_at zero = Px
axis_at (suc zero) = Nx
axis_at (suc (suc zero)) = Py
axis_at (suc (suc (suc zero))) = Ny
axis_at (suc (suc (suc (suc zero)))) = Pz
axis_at (suc (suc (suc (suc (suc n))))) = Nz

pub axis_at_number : (d : Dir) → axis_at (axis_number d) ≡ d
axis_at_number Px = refl
axis_at_number Nx = refl
axis_at_number Py = refl
axis_at_number Ny = refl
axis_at_number Pz = refl
axis_at_number Nz = refl

same_axis : (d e : Dir) → T (eqb (axis_number d) (axis_number e)) → d ≡ e
same_axis d e t = sym (axis_at_number d) ∙ ap axis_at (eqb→eq (axis_number d) (axis_number e) t) ∙ axis_at_number e

-- what the definitions' comparison of two rotations says
pub same_is : (r s : Rot) → T (same_rot r s) → r ≡ s
unfolding same_rot
same_is r s t =
    let ta = eqb (axis_number r.a) (axis_number s.a) in
    let tb = eqb (axis_number r.b) (axis_number s.b) in
    let tc = eqb (axis_number r.c) (axis_number s.c) in
    let h = and_yes (ta && tb) tc t in
    let k = and_yes ta tb h.0 in
    λ i. record { a = same_axis r.a s.a k.0 i; b = same_axis r.b s.b k.1 i; c = same_axis r.c s.c h.1 i }

-- ---- four quarter turns are none

module _ (q : Rot) (four : after q (after q (after q q)) ≡ unturned) where
  round : (r : Rot) → after q (after q (after q (after q r))) ≡ r
  round r =
      sym (after_assoc q (after q (after q q)) r ∙ ap (after q) (after_assoc q (after q q) r) ∙
      ap (λ (s : Rot). after q (after q s)) (after_assoc q q r)) ∙
      ap (λ (s : Rot). after s r) four

  rounds : (k m : ℕ) → times (k * 4 + m) q ≡ times m q
  unfolding times
  rounds zero m = let e : 0 * 4 + m ≡ m = omega arith in ap (λ (n : ℕ). times n q) e
  rounds (suc k) m =
      let e : suc k * 4 + m ≡ suc (suc (suc (suc (k * 4 + m)))) = omega arith in
      ap (λ (n : ℕ). times n q) e ∙ round (times (k * 4 + m) q) ∙ rounds k m

  pub times_quarters : (n : ℕ) → times n q ≡ times (n % 4) q
  times_quarters n = let e : n ≡ n / 4 * 4 + n % 4 = omega arith in ap (λ (j : ℕ). times j q) e ∙ rounds (n / 4) (n % 4)

-- ---- triples by their places

pub triple_place : (t : Turns) → t.v < 4 → t.w < 4 → triple (place t) ≡ t
triple_place t below-v below-w =
    let u : place t / 16 ≡ t.u = omega arith in
    let v : place t / 4 % 4 ≡ t.v = omega arith in
    let w : place t % 4 ≡ t.w = omega arith in
    λ i. record { u = u i; v = v i; w = w i }

-- a triple without whole turns
abbrev less_whole : Turns → Turns
less_whole t = record { u = t.u % 4; v = t.v % 4; w = t.w % 4 }

-- a triple's place among the 64, four quarter turns counting as none
abbrev pub triple_number : Turns → ℕ
triple_number t = place (less_whole t)

-- whole turns do not count: any triple names what the one of the 64 at its number does
pub rot_of_number : (t : Turns) → rot_of (triple (triple_number t)) ≡ rot_of t
unfolding rot_of
rot_of_number t =
    let x = times_quarters quarter_x refl t.u in
    let y = times_quarters quarter_y refl t.v in
    let z = times_quarters quarter_z refl t.w in
    ap rot_of (triple_place (less_whole t) (omega arith) (omega arith)) ∙ sym (λ i. after (x i) (after (y i) (z i)))

triple_number_below : (t : Turns) → triple_number t < 64
triple_number_below t = omega arith

-- a test that the rotations of the 64 triples pass is passed by every triple's
pub at_turns : (f : Rot → Bool) → T (upto 64 (λ k. f (rot_of (triple k)))) → (t : Turns) → T (f (rot_of t))
at_turns f all t =
    subst (λ (r : Rot). T (f r)) (rot_of_number t) (at 64 (λ k. f (rot_of (triple k))) all (triple_number t) (triple_number_below t))
