-- Decimal whole numbers of a script.
use Rattle.std.specs.Prelude.{◌≡◌, ℕ, ◌-◌, ◌^◌, ◌≤◌, cond, not, ◌&&◌, List, [], ◌∷◌, length, ℤ, ◌==◌, nat_le, Option as Answer, IfSome}
use Rattle.std.proofs.Math.Option.{Option, none, some}
use Rattle.model.specs.Lists.{all, none?}
use Rattle.model.specs.Words.{digit, spelled, positive, negative}
use Rattle.script.specs.Told.{told_first}

-- ---- digits

-- one or more digits that spell at most so much; zeros may stand first
unfoldable pub whole_of : ℕ → List ℕ → Option ℕ
whole_of most w = cond (not (none? w) && all digit w && nat_le (spelled 0 w) most) (some (spelled 0 w)) none

-- ---- a number with a sign

-- the highest number of 64 bits, and how far the lowest lies below zero
abbrev pub highest : ℕ
highest = 2 ^ 63 - 1

abbrev pub deepest : ℕ
deepest = 2 ^ 63

-- an optional minus, and digits; minus zero is zero
unfoldable pub number_of : List ℕ → Option ℤ
number_of [] = none
number_of (b ∷ bs) = cond (b == 45) (negative (whole_of deepest bs)) (positive (whole_of highest (b ∷ bs)))

-- ---- a run of numbers

-- a number, and those behind it
unfoldable pub both : Option ℤ → Option (List ℤ) → Option (List ℤ)
both none zs = none
both (some z) none = none
both (some z) (some zs) = some (z ∷ zs)

-- the numbers that words spell, if each word is one
unfoldable pub numbers_of : List (List ℕ) → Option (List ℤ)
numbers_of [] = some []
numbers_of (w ∷ ws) = both (number_of w) (numbers_of ws)

-- and if there are places for them
unfoldable pub no_more_than : ℕ → Option (List ℤ) → Option (List ℤ)
no_more_than places none = none
no_more_than places (some zs) = cond (nat_le (length zs) places) (some zs) none

-- ---- the answer of the code

-- words were read into a lent run of so many places
pub record ReadsNumbers (ws : List (List ℕ)) (places : ℕ) (r : Answer ℕ) (run : List ℤ) : Type 0 where
  pub told : told_first r run ≡ no_more_than places (numbers_of ws)
  pub inside : IfSome r (λ n. n ≤ length run)
