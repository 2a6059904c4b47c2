-- A number read byte by byte. That a whole word read so is the number of document 01 is claimed in Claims.antt.
use Rattle.std.specs.Prelude.{ℕ, ◌+◌, ◌*◌, ◌-◌, ◌/◌, ◌^◌, ◌≤◌, ◌<◌, List, [], ◌∷◌, Bool, true, false, cond, ◌&&◌, eqb, ltb, ℤ}
use Rattle.std.proofs.Math.Option.{Option, none, some}
use Rattle.model.specs.Limits.{whole_digits, decimals, million}
use Rattle.model.specs.Told.{Told, or_number}
use Rattle.model.specs.Words.{digit}
use Rattle.text.specs.declared.numbers.Num.{Num}
use Rattle.text.specs.declared.numbers.Num.TheVariants.{Start, Minus, Whole, Point, Part, Wrong}
use Rattle.text.specs.Values.{with_sign}

-- ---- one byte

-- the first digit
abbrev pub first : Bool → ℕ → Num
first g b = cond (digit b) (Whole g 1 (b - 48)) Wrong

-- a decimal of weight w
abbrev pub part : Bool → ℕ → ℕ → ℕ → Num
part g v w b = cond (digit b) (Part g (v + (b - 48) * w) (w / 10)) Wrong

abbrev pub stepped : Num → ℕ → Num
stepped Start b = cond (eqb b 45) Minus (first false b)
stepped Minus b = first true b
stepped (Whole g k v) b =
    cond (eqb b 46) (Point g (v * million)) (cond (digit b && ltb k whole_digits) (Whole g (k + 1) (10 * v + (b - 48))) Wrong)
stepped (Point g v) b = part g v (10 ^ (decimals - 1)) b
stepped (Part g v w) b = cond (eqb w 0) Wrong (part g v w b)
stepped Wrong b = Wrong

-- ---- a whole word

unfoldable pub folded : Num → List ℕ → Num
folded n [] = n
folded n (b ∷ bs) = folded (stepped n b) bs

abbrev pub wrong : Num → Bool
wrong Start = false
wrong Minus = false
wrong (Whole g k v) = false
wrong (Point g v) = false
wrong (Part g v w) = false
wrong Wrong = true

-- the number, where the bytes so far are one
abbrev pub valued : Num → Option ℤ
valued Start = none
valued Minus = none
valued (Whole g k v) = some (with_sign g (v * million))
valued (Point g v) = none
valued (Part g v w) = some (with_sign g v)
valued Wrong = none

-- what is told of the bytes so far, if they are the whole word: the number read, or 5
abbrev pub num_told : Num → Told ℤ
num_told n = or_number 5 (valued n)

-- ---- the ranges of what was read so far

-- more than the largest number
abbrev pub bound : ℕ
bound = 10 ^ whole_digits * million

abbrev pub Good : Num → Type 0
Good Start = Unit {0}
Good Minus = Unit {0}
Good (Whole g k v) = (k ≤ whole_digits) × (v < 10 ^ k)
Good (Point g v) = v + million ≤ bound
Good (Part g v w) = v + 10 * w ≤ bound
Good Wrong = Unit {0}
