-- Rotations by their numbers, and quarter turns by what is left of whole ones.
use mathlib.Core.Path.{◌≡◌, sym, ap, ◌∙◌}
use Prim.Native.Nat.{ℕ, ◌+◌, ◌*◌, ◌/◌, ◌%◌, ◌<◌}
use native.Mathlib.Omega.{arith}
use Rattle.model.specs.Pose.{after, unturned, times, axis_number}
use Rattle.model.proofs.Poses.Naming.{axis_at, axis_at_number, times_quarters}
use Rattle.pose.specs.Types.{Dir, Px, Nx, Py, Ny, Pz, Nz, Rot}

-- ---- numbers of axes and rotations

-- a rotation's number, below 216: its three axes as digits to the base six
abbrev pub rot_number : Rot → ℕ
rot_number r = axis_number r.a * 36 + axis_number r.b * 6 + axis_number r.c

abbrev pub rot_at : ℕ → Rot
rot_at n = record { a = axis_at (n / 36); b = axis_at (n / 6 % 6); c = axis_at (n % 6) }

pub axis_number_below : (d : Dir) → axis_number d < 6
axis_number_below Px = omega arith
axis_number_below Nx = omega arith
axis_number_below Py = omega arith
axis_number_below Ny = omega arith
axis_number_below Pz = omega arith
axis_number_below Nz = omega arith

digits : (i j k : ℕ) → i < 6 → j < 6 → k < 6 → ((i * 36 + j * 6 + k) / 36 ≡ i) × ((i * 36 + j * 6 + k) / 6 % 6 ≡ j) × ((i * 36 + j * 6 + k) % 6 ≡ k)
digits i j k hi hj hk = (omega arith, omega arith, omega arith)

pub rot_at_number : (r : Rot) → rot_at (rot_number r) ≡ r
rot_at_number r =
    let d = digits (axis_number r.a) (axis_number r.b) (axis_number r.c) (axis_number_below r.a) (axis_number_below r.b) (axis_number_below r.c) in
    λ i.
    record {
      a = (ap axis_at d.0 ∙ axis_at_number r.a) i;
      b = (ap axis_at d.1 ∙ axis_at_number r.b) i;
      c = (ap axis_at d.2 ∙ axis_at_number r.c) i;
    }

-- ---- so many turns by what is left of them, and after a rotation

module _ (q : Rot) (four : after q (after q (after q q)) ≡ unturned) where
  pub times_left : (n k : ℕ) → n % 4 ≡ k → times n q ≡ times k q
  times_left n k e = times_quarters q four n ∙ ap (λ (j : ℕ). times j q) e

  pub after_left : (s : Rot) (n k : ℕ) → n % 4 ≡ k → after (times k q) s ≡ after (times n q) s
  after_left s n k e = ap (λ (r : Rot). after r s) (sym (times_left n k e))
