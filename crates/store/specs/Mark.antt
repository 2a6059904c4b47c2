-- What a lock file holds, and the name under which the system shows a descriptor.
use Rattle.model.specs.Base.{ℕ, suc, List, [], cond, eqb, ltb, length, drop, get_or}
use Rattle.std.specs.Prelude.{◌≤◌, ◌<◌, ◌≡◌, ℤ, pos, negsuc, ◌+◌, ◌^◌, ◌∷◌, Option, Some, None}
use Rattle.model.specs.Ascii.{ascii}
use Rattle.model.specs.Lists.{joined, between}
use Rattle.model.specs.Reply.{decimal}

-- the digits of the longest number of 64 bits
abbrev pub longest_number : ℕ
longest_number = 20

-- a number's digits, or nothing below zero
unfoldable pub number_text : ℤ → List ℕ
number_text (pos n) = decimal n
number_text (negsuc n) = []

-- two numbers that a name or a mark has room for
pub record Short (process number : List ℕ) : Type 0 where
  pub process_short : length process ≤ longest_number
  pub number_short : length number ≤ longest_number

-- PID, a space, FD and LF
unfoldable pub mark_text : List ℕ → List ℕ → List ℕ
mark_text process number = joined (process ∷ ascii " " ∷ number ∷ ascii "\n" ∷ [])

-- a descriptor of a process
unfoldable pub shown_as : List ℕ → List ℕ → List ℕ
shown_as process number = joined (ascii "/proc/" ∷ process ∷ ascii "/fd/" ∷ number ∷ [])

-- the program of a process
unfoldable pub program_of : List ℕ → List ℕ
program_of process = joined (ascii "/proc/" ∷ process ∷ ascii "/exe" ∷ [])

-- ---- a mark read back

-- how many digits a text begins with
unfoldable pub leading_digits : List ℕ → ℕ
leading_digits [] = 0
leading_digits (b ∷ bs) = cond (between 48 57 b) (suc (leading_digits bs)) 0

-- the end of a number that begins at a place: it has a digit, it is not too long, something stands behind it, and this byte is what stands there
unfoldable pub number_end : List ℕ → ℕ → ℕ → Option ℕ
number_end text from stop =
    let d = leading_digits (drop from text) in
    cond (eqb d 0) None (cond (ltb longest_number d) None (cond (eqb (from + d) (length text)) None (cond (eqb (get_or text (from + d) 0) stop) (Some (from + d)) None)))

-- by the ends of its two numbers: the second is followed by the last byte
abbrev pub mark_at : List ℕ → ℕ → Option ℕ → Option (ℕ × ℕ)
mark_at text a None = None
mark_at text a (Some b) = cond (eqb (b + 1) (length text)) (Some (a, b)) None

abbrev pub mark_from : List ℕ → Option ℕ → Option (ℕ × ℕ)
mark_from text None = None
mark_from text (Some a) = mark_at text a (number_end text (a + 1) 10)

unfoldable pub mark_of : List ℕ → Option (ℕ × ℕ)
mark_of text = mark_from text (number_end text 0 32)

-- what follows for the places: of a number's end, and of the ends of both
abbrev pub EndsAt : List ℕ → ℕ → ℕ → Type 0
EndsAt text from end = (from < end) × (end < length text) × (end ≤ from + longest_number)

abbrev pub Marked : List ℕ → ℕ × ℕ → Type 0
Marked text (a, b) = (a ≤ longest_number) × (a < b) × (b < length text) × (b ≤ a + suc longest_number)

-- what `put_mark` writes for two numbers is read as these two: a lock whose maker runs is never taken for one without a mark
abbrev pub ReadsBack : Type 0
ReadsBack =
    (p f : ℕ) → p < 10 ^ longest_number → f < 10 ^ longest_number
    → mark_of (mark_text (decimal p) (decimal f)) ≡ Some (length (decimal p), length (decimal p) + 1 + length (decimal f))
