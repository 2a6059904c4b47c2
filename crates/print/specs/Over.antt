-- What a writer leaves in the part that it was lent.
use Rattle.std.specs.Prelude.{ℕ, ◌+◌, ◌/◌, ◌%◌, ◌≡◌, List, [], ◌∷◌, length, set}
use Rattle.model.specs.Ascii.{ascii}
use Rattle.model.specs.Lists.{joined}
use Rattle.model.specs.Limits.{million, decimals}
use Rattle.model.specs.Reply.{decimal, last_digits}

-- xs with ys written over it from place i on
unfoldable pub over : List ℕ → ℕ → List ℕ → List ℕ
over xs i [] = xs
over xs i (y ∷ ys) = over (set xs i y) (i + 1) ys

-- the text was written from place at on: next is the place after it, and all other bytes of the part are as before
pub record Wrote (text before : List ℕ) (at : ℕ) (after : List ℕ) (next : ℕ) : Type 0 where
  pub place : next ≡ at + length text
  pub bytes : after ≡ over before at text

-- what stands behind the minus of a value
unfoldable pub millionths : ℕ → List ℕ
millionths m = joined (decimal (m / million) ∷ ascii "." ∷ last_digits decimals (m % million) ∷ [])
