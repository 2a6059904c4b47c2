-- Bytes as pairs of hexadecimal digits, both ways.
use Rattle.std.specs.Prelude.{◌≡◌, ℕ, ◌+◌, ◌-◌, ◌*◌, ◌/◌, ◌%◌, Bool, true, false, cond, ◌&&◌, List, [], ◌∷◌, length, nat_lt, Option as Answer, Some, None}
use Rattle.std.proofs.Math.Option.{Option, none, some}
use Rattle.model.specs.Lists.{between}
use Rattle.print.specs.Over.{over}

-- ---- read

-- what a digit counts for, in either case; 16 for any other byte
unfoldable pub digit_value : ℕ → ℕ
digit_value b = cond (between 48 57 b) (b - 48) (cond (between 97 102 b) (b - 87) (cond (between 65 70 b) (b - 55) 16))

abbrev pub digit? : ℕ → Bool
digit? b = nat_lt (digit_value b) 16

-- the answer of the code to one digit
abbrev pub digit_read : ℕ → Answer ℕ
digit_read b = cond (digit? b) (Some (digit_value b)) None

abbrev pub pair_value : ℕ → ℕ → ℕ
pair_value a b = digit_value a * 16 + digit_value b

-- pairs of digits, to the end
unfoldable pub hex? : List ℕ → Bool
hex? [] = true
hex? (a ∷ []) = false
hex? (a ∷ b ∷ bs) = (digit? a && digit? b) && hex? bs

-- what the pairs say, up to the first that is none
unfoldable pub pairs_read : List ℕ → List ℕ
pairs_read [] = []
pairs_read (a ∷ []) = []
pairs_read (a ∷ b ∷ bs) = cond (digit? a && digit? b) (pair_value a b ∷ pairs_read bs) []

-- the bytes that a text spells
unfoldable pub unhexed : List ℕ → Option (List ℕ)
unhexed h = cond (hex? h) (some (pairs_read h)) none

-- the answer of the code: how many bytes the text spells, if it spells any
abbrev pub decoded : List ℕ → Answer ℕ
decoded h = cond (hex? h) (Some (length (pairs_read h))) None

-- the text was decoded into a lent buffer
pub record Decodes (h before : List ℕ) (r : Answer ℕ) (after : List ℕ) : Type 0 where
  pub answer : r ≡ decoded h
  pub bytes : after ≡ over before 0 (pairs_read h)

-- ---- written

-- a digit, in lower case
abbrev pub glyph : ℕ → ℕ
glyph d = cond (nat_lt d 10) (48 + d) (87 + d)

unfoldable pub hexed : List ℕ → List ℕ
hexed [] = []
hexed (b ∷ bs) = glyph (b / 16) ∷ glyph (b % 16) ∷ hexed bs
