-- How far off the origin: a turn keeps a bound on each coordinate, and a sum adds two.
use Prim.Native.Nat.{ℕ, ◌+◌, ◌≤◌}
use native.Mathlib.Omega.{arith}
use lib.IntN.{nat_abs}
use Rattle.signed.proofs.Sizes.{nat_abs_neg}
use Rattle.model.proofs.Poses.Turning.{coord_keeps}
use Rattle.model.specs.Pose.{Pose, coord, turned, plus, minus, origin, followed, transposed, inverse}
use Rattle.pose.specs.Types.{Dir, Nx, Ny, Nz, Rot, Vec3}
use Rattle.pose.specs.Poses.{Within}
use Rattle.pose.proofs.Sums.{nat_abs_add}

pub within_origin : (h : ℕ) → Within h origin
within_origin h = record { x_within = omega arith; y_within = omega arith; z_within = omega arith }

pub within_more : (h k : ℕ) (v : Vec3) → h ≤ k → Within h v → Within k v
within_more h k v l w = record { x_within = omega arith; y_within = omega arith; z_within = omega arith }

pub within_coord : (h : ℕ) (d : Dir) (v : Vec3) → Within h v → nat_abs (coord d v) ≤ h
within_coord h d v w =
    coord_keeps (λ z. nat_abs z ≤ h) (λ z k. rw (nat_abs_neg z) k) v w.x_within w.y_within w.z_within d

pub within_turned : (h : ℕ) (r : Rot) (v : Vec3) → Within h v → Within h (turned r v)
within_turned h r v w =
    record { x_within = within_coord h r.a v w; y_within = within_coord h r.b v w; z_within = within_coord h r.c v w }

-- (the opposite of a point is what three mirrored axes make of it)
pub within_minus : (h : ℕ) (v : Vec3) → Within h v → Within h (minus v)
within_minus h v w = within_turned h (record { a = Nx; b = Ny; c = Nz }) v w

pub within_plus : (h k : ℕ) (v w : Vec3) → Within h v → Within k w → Within (h + k) (plus v w)
within_plus h k v w hv hw =
    record {
      x_within = omega (arith, nat_abs_add v.x w.x);
      y_within = omega (arith, nat_abs_add v.y w.y);
      z_within = omega (arith, nat_abs_add v.z w.z);
    }

-- each link of a chain adds at most its own offset
pub within_followed : (h k : ℕ) (p t : Pose) → Within h p.at → Within k t.at → Within (h + k) (followed p t).at
within_followed h k p t hp ht = within_plus h k p.at (turned p.rot t.at) hp (within_turned k p.rot t.at ht)

-- and what is undone stands as far off
pub within_inverse : (h : ℕ) (p : Pose) → Within h p.at → Within h (inverse p).at
within_inverse h p w = within_turned h (transposed p.rot) (minus p.at) (within_minus h p.at w)
