-- Rotations compose as they act, and they act on sums. Each law goes by the six cases of one signed axis.
use mathlib.Core.Path.{◌≡◌, refl, sym}
use lib.IntN.{ℤ, pos, neg_ℤ, ◌+ℤ◌, neg_ℤ-neg_ℤ, neg_ℤ-+ℤ, +ℤ_assoc, +ℤ_idl, +ℤ_idr, +ℤ_invl, +ℤ_invr}
use Rattle.model.specs.Types.{Dir, Px, Nx, Py, Ny, Pz, Nz, Rot, Vec3}
use Rattle.model.specs.Pose.{flip, coord, row, turned, after, unturned, plus, minus, origin}

-- ---- turning a point

coord_flip : (d : Dir) (v : Vec3) → coord (flip d) v ≡ neg_ℤ (coord d v)
coord_flip Px v = refl
coord_flip Nx v = sym (neg_ℤ-neg_ℤ v.x)
coord_flip Py v = refl
coord_flip Ny v = sym (neg_ℤ-neg_ℤ v.y)
coord_flip Pz v = refl
coord_flip Nz v = sym (neg_ℤ-neg_ℤ v.z)

coord_row : (d : Dir) (s : Rot) (v : Vec3) → coord (row d s) v ≡ coord d (turned s v)
coord_row Px s v = refl
coord_row Nx s v = coord_flip s.a v
coord_row Py s v = refl
coord_row Ny s v = coord_flip s.b v
coord_row Pz s v = refl
coord_row Nz s v = coord_flip s.c v

-- r·s turns a point as s and then r do
pub turned_after : (r s : Rot) (v : Vec3) → turned (after r s) v ≡ turned r (turned s v)
turned_after r s v = λ i. record { x = coord_row r.a s v i; y = coord_row r.b s v i; z = coord_row r.c s v i }

coord_plus : (d : Dir) (v w : Vec3) → coord d (plus v w) ≡ coord d v +ℤ coord d w
coord_plus Px v w = refl
coord_plus Nx v w = neg_ℤ-+ℤ v.x w.x
coord_plus Py v w = refl
coord_plus Ny v w = neg_ℤ-+ℤ v.y w.y
coord_plus Pz v w = refl
coord_plus Nz v w = neg_ℤ-+ℤ v.z w.z

pub turned_plus : (r : Rot) (v w : Vec3) → turned r (plus v w) ≡ plus (turned r v) (turned r w)
turned_plus r v w = λ i. record { x = coord_plus r.a v w i; y = coord_plus r.b v w i; z = coord_plus r.c v w i }

coord_origin : (d : Dir) → coord d origin ≡ pos 0
coord_origin Px = refl
coord_origin Nx = refl
coord_origin Py = refl
coord_origin Ny = refl
coord_origin Pz = refl
coord_origin Nz = refl

pub turned_origin : (r : Rot) → turned r origin ≡ origin
turned_origin r = λ i. record { x = coord_origin r.a i; y = coord_origin r.b i; z = coord_origin r.c i }

-- what is so of each coordinate, and stays so when the sign changes, is so of whatever a signed axis reads
module _ (P : ℤ → Type 0) (negated : (z : ℤ) → P z → P (neg_ℤ z)) (v : Vec3) (x : P v.x) (y : P v.y) (z : P v.z) where
  pub coord_keeps : (d : Dir) → P (coord d v)
  coord_keeps Px = x
  coord_keeps Nx = negated v.x x
  coord_keeps Py = y
  coord_keeps Ny = negated v.y y
  coord_keeps Pz = z
  coord_keeps Nz = negated v.z z

-- ---- composing

flip_flip : (d : Dir) → flip (flip d) ≡ d
flip_flip Px = refl
flip_flip Nx = refl
flip_flip Py = refl
flip_flip Ny = refl
flip_flip Pz = refl
flip_flip Nz = refl

row_flip : (d : Dir) (s : Rot) → row (flip d) s ≡ flip (row d s)
row_flip Px s = refl
row_flip Nx s = sym (flip_flip s.a)
row_flip Py s = refl
row_flip Ny s = sym (flip_flip s.b)
row_flip Pz s = refl
row_flip Nz s = sym (flip_flip s.c)

row_after : (d : Dir) (s t : Rot) → row (row d s) t ≡ row d (after s t)
row_after Px s t = refl
row_after Nx s t = row_flip s.a t
row_after Py s t = refl
row_after Ny s t = row_flip s.b t
row_after Pz s t = refl
row_after Nz s t = row_flip s.c t

pub after_assoc : (r s t : Rot) → after (after r s) t ≡ after r (after s t)
after_assoc r s t = λ i. record { a = row_after r.a s t i; b = row_after r.b s t i; c = row_after r.c s t i }

row_unturned : (d : Dir) → row d unturned ≡ d
row_unturned Px = refl
row_unturned Nx = refl
row_unturned Py = refl
row_unturned Ny = refl
row_unturned Pz = refl
row_unturned Nz = refl

-- (the other side computes)
pub after_unturned : (r : Rot) → after r unturned ≡ r
after_unturned r = λ i. record { a = row_unturned r.a i; b = row_unturned r.b i; c = row_unturned r.c i }

-- ---- sums

pub plus_assoc : (u v w : Vec3) → plus (plus u v) w ≡ plus u (plus v w)
plus_assoc u v w = λ i. record { x = +ℤ_assoc u.x v.x w.x i; y = +ℤ_assoc u.y v.y w.y i; z = +ℤ_assoc u.z v.z w.z i }

pub plus_origin : (v : Vec3) → plus v origin ≡ v
plus_origin v = λ i. record { x = +ℤ_idr v.x i; y = +ℤ_idr v.y i; z = +ℤ_idr v.z i }

pub origin_plus : (v : Vec3) → plus origin v ≡ v
origin_plus v = λ i. record { x = +ℤ_idl v.x i; y = +ℤ_idl v.y i; z = +ℤ_idl v.z i }

pub plus_minus : (v : Vec3) → plus v (minus v) ≡ origin
plus_minus v = λ i. record { x = +ℤ_invr v.x i; y = +ℤ_invr v.y i; z = +ℤ_invr v.z i }

pub minus_plus : (v : Vec3) → plus (minus v) v ≡ origin
minus_plus v = λ i. record { x = +ℤ_invl v.x i; y = +ℤ_invl v.y i; z = +ℤ_invl v.z i }
