-- Document 01, "Poses and chains": quarter turns, rotations, poses, and the shown triple; with the inverse of document 02 §5.
use Rattle.std.specs.Prelude.{◌+◌, ◌*◌, ◌/◌, ◌%◌, ◌&&◌, ◌+ℤ◌}
use Rattle.model.specs.Base.{ℕ, zero, suc, Bool, ℤ, pos, neg_ℤ, eqb}
use Rattle.model.specs.Types.{Dir, Px, Nx, Py, Ny, Pz, Nz, Rot, Vec3, Turns}
use Rattle.model.specs.Lists.{least}

-- ---- rotations, as signed axes

abbrev pub flip : Dir → Dir
flip Px = Nx
flip Nx = Px
flip Py = Ny
flip Ny = Py
flip Pz = Nz
flip Nz = Pz

-- the coordinate of a column that d names, with its sign
abbrev pub coord : Dir → Vec3 → ℤ
coord Px t = t.x
coord Nx t = neg_ℤ t.x
coord Py t = t.y
coord Ny t = neg_ℤ t.y
coord Pz t = t.z
coord Nz t = neg_ℤ t.z

abbrev pub row : Dir → Rot → Dir
row Px r = r.a
row Nx r = flip r.a
row Py r = r.b
row Ny r = flip r.b
row Pz r = r.c
row Nz r = flip r.c

-- [Poses] R·t, a rotation applied to a column
abbrev pub turned : Rot → Vec3 → Vec3
turned r t = record { x = coord r.a t; y = coord r.b t; z = coord r.c t }

-- [Poses] R·S, first S and then R
abbrev pub after : Rot → Rot → Rot
after r s = record { a = row r.a s; b = row r.b s; c = row r.c s }

-- [Poses] no turn
abbrev pub unturned : Rot
unturned = record { a = Px; b = Py; c = Pz }

-- ---- the quarter turns, by where each takes the axes

-- [Poses] about X: y goes to z, z to −y
abbrev pub quarter_x : Rot
quarter_x = record { a = Px; b = Nz; c = Py }

-- [Poses] about Y: z goes to x, x to −z
abbrev pub quarter_y : Rot
quarter_y = record { a = Pz; b = Py; c = Nx }

-- [Poses] about Z: x goes to y, y to −x
abbrev pub quarter_z : Rot
quarter_z = record { a = Ny; b = Px; c = Pz }

-- [Poses] one turn, so many times
unfoldable pub times : ℕ → Rot → Rot
times zero q = unturned
times (suc n) q = after q (times n q)

-- [Poses] Rx(U)·Ry(V)·Rz(W)
unfoldable pub rot_of : Turns → Rot
rot_of t = after (times t.u quarter_x) (after (times t.v quarter_y) (times t.w quarter_z))

-- ---- poses

-- [Poses] an offset p and a rotation R
pub record Pose : Type 0 where
  pub at : Vec3
  pub rot : Rot

abbrev pub plus : Vec3 → Vec3 → Vec3
plus p q = record { x = p.x +ℤ q.x; y = p.y +ℤ q.y; z = p.z +ℤ q.z }

abbrev pub minus : Vec3 → Vec3
minus p = record { x = neg_ℤ p.x; y = neg_ℤ p.y; z = neg_ℤ p.z }

abbrev pub origin : Vec3
origin = record { x = pos 0; y = pos 0; z = pos 0 }

-- [Poses] what stands at q in the system's own axes stands at p + R·q in those of its predecessor
abbrev pub placed : Pose → Vec3 → Vec3
placed p q = plus p.at (turned p.rot q)

-- [Poses] the pose that changes nothing
abbrev pub neutral : Pose
neutral = record { at = origin; rot = unturned }

-- [Poses] the predecessor's pose p, R followed by the own pose t, S: p + R·t and R·S
abbrev pub followed : Pose → Pose → Pose
followed p t = record { at = placed p t.at; rot = after p.rot t.rot }

-- ---- the inverse

-- r, but with e as the row that d names
abbrev pub with_row : Dir → Dir → Rot → Rot
with_row Px e r = record { a = e; b = r.b; c = r.c }
with_row Nx e r = record { a = flip e; b = r.b; c = r.c }
with_row Py e r = record { a = r.a; b = e; c = r.c }
with_row Ny e r = record { a = r.a; b = flip e; c = r.c }
with_row Pz e r = record { a = r.a; b = r.b; c = e }
with_row Nz e r = record { a = r.a; b = r.b; c = flip e }

-- [02 §5] rows become columns. A rotation takes its new X from the axis that its first row names; what undoes it gives X back to that axis, and Y and Z to
-- theirs. (Its rows name each axis once, so that every row is replaced.)
abbrev pub transposed : Rot → Rot
transposed r = with_row r.a Px (with_row r.b Py (with_row r.c Pz r))

-- [02 §5] the inverse of p, R: R⁻¹·(−p) and R⁻¹
abbrev pub inverse : Pose → Pose
inverse p = record { at = turned (transposed p.rot) (minus p.at); rot = transposed p.rot }

-- ---- the shown triple: the first of the 64 in dictionary order that names the rotation

abbrev pub axis_number : Dir → ℕ
axis_number Px = 0
axis_number Nx = 1
axis_number Py = 2
axis_number Ny = 3
axis_number Pz = 4
axis_number Nz = 5

unfoldable pub same_rot : Rot → Rot → Bool
same_rot r s = eqb (axis_number r.a) (axis_number s.a) && eqb (axis_number r.b) (axis_number s.b) && eqb (axis_number r.c) (axis_number s.c)

-- [Poses] the k-th triple in dictionary order
abbrev pub triple : ℕ → Turns
triple k = record { u = k / 16; v = k / 4 % 4; w = k % 4 }

-- [Poses] the place in dictionary order of a triple of 0 to 3 quarter turns
abbrev pub place : Turns → ℕ
place t = t.u * 16 + t.v * 4 + t.w

-- [Poses] the first triple that names the rotation (63, the last, if no earlier one does)
unfoldable pub shown : Rot → Turns
shown r = triple (least 63 (λ k. same_rot (rot_of (triple k)) r))
