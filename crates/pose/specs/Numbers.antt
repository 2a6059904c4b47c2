-- A number for the first two axes of a rotation, by which the code's table of shown triples is read.
use Rattle.std.specs.Prelude.{ℕ, ◌+◌, ◌*◌, eqb}
use Rattle.pose.specs.Types.{Rot}
use Rattle.model.specs.Lists.{least}
use Rattle.model.specs.Pose.{axis_number, rot_of, triple}

-- the numbers of a rotation's first two axes, as digits to the base six
abbrev pub first_axes : Rot → ℕ
first_axes r = axis_number r.a * 6 + axis_number r.b

-- the place of the first triple whose rotation has these first two axes (63 if none has)
unfoldable pub first_place : ℕ → ℕ
first_place axes = least 63 (λ k. eqb (first_axes (rot_of (triple k))) axes)

-- that rotation's third axis and that place, as digits to the base 64
unfoldable pub first_named : ℕ → ℕ
first_named axes = axis_number (rot_of (triple (first_place axes))).c * 64 + first_place axes
