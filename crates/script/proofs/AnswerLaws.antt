-- Laws of the texts of answers, and of their lengths.
use Rattle.std.proofs.Common.{◌≡◌, ℕ, ◌+◌, ◌*◌, ◌^◌, ◌<◌, ◌≤◌, Bool, true, false, cond, List, [], ◌∷◌, length, refl, ap, append-nil, arith, length-append}
use Rattle.std.specs.Prelude.{Result, Ok, Err}
use Rattle.std.specs.Int.{from_bool}
use Rattle.model.specs.Ascii.{ascii}
use Rattle.model.specs.Lists.{joined}
use Rattle.model.specs.Reply.{decimal}
use Rattle.facts.specs.declared.refusals.Refusal.{Refusal}
use Rattle.facts.specs.declared.refusals.Refusal.TheVariants.{IllFormed, Short, Unreadable, Unknown, Malformed, Beyond, Absent, Reserved, Locked, OtherType, InUse, Ring, Full, NoImage, Aslant, Needed}
use Rattle.facts.specs.Refusals.{outcome}
use Rattle.chains.specs.declared.links.Search.{Search}
use Rattle.machine.specs.Calls.{usage_of}
use Rattle.model.proofs.Digits.{decimal_short}
use Rattle.script.specs.Answer.{head, said, usage_text, complaint, beside}
use Rattle.script.specs.Hex.{hexed}
use Rattle.script.proofs.HexLaws.{length_hexed}

pub length_said : (n : ℕ) (t : List ℕ) → length (said n t) ≡ length (head n) + length t + 1
unfolding said joined
length_said n t = simp (length-append, append-nil) (omega arith)

-- a number is a byte
pub head_short : (n : ℕ) → n < 256 → length (head n) ≤ 4
head_short n h = omega (arith, length-append (decimal n) (ascii " "), decimal_short 3 n (omega arith) (omega arith))

said_few : (n : ℕ) (t : List ℕ) → n < 256 → length (said n t) ≤ length t + beside
said_few n t h = omega (arith, length_said n t, head_short n h)

pub said_short : (n : ℕ) (t : List ℕ) → n < 256 → length (said n (hexed t)) ≤ 2 * length t + beside
said_short n t h = omega (arith, said_few n (hexed t) h, length_hexed t)

-- ---- the question of use

pub usage_number : (r : Result Search Refusal) → (usage_of r).number ≡ outcome r
usage_number (Ok s) = refl
usage_number (Err why) = refl

-- what is refused tells nothing
pub usage_refused : (why : Refusal) → usage_text (usage_of (Err why)) ≡ []
unfolding usage_text
usage_refused IllFormed = refl
usage_refused Short = refl
usage_refused Unreadable = refl
usage_refused Unknown = refl
usage_refused Malformed = refl
usage_refused Beyond = refl
usage_refused Absent = refl
usage_refused Reserved = refl
usage_refused Locked = refl
usage_refused OtherType = refl
usage_refused InUse = refl
usage_refused Ring = refl
usage_refused Full = refl
usage_refused NoImage = refl
usage_refused Aslant = refl
usage_refused Needed = refl

pub usage_told : (s : Search) → usage_text (usage_of (Ok s)) ≡ joined (((48 + from_bool s.found) ∷ []) ∷ ascii " " ∷ decimal s.looked ∷ [])
unfolding usage_text
usage_told s = ap (λ (f : List ℕ). joined (f ∷ ascii " " ∷ decimal s.looked ∷ [])) (flag s.found)
  where
    flag : (b : Bool) → cond b (ascii "1") (ascii "0") ≡ (48 + from_bool b) ∷ []
    flag true = refl
    flag false = refl

-- ---- no directive

pub length_complaint : (n : ℕ) → length (complaint n) ≡ length (decimal n) + 3
unfolding complaint joined
length_complaint n = simp (length-append, append-nil) (omega arith)

-- a line's number has 64 bits
pub complaint_short : (n : ℕ) → n < 2 ^ 64 → length (complaint n) ≤ 24
complaint_short n h = omega (arith, length_complaint n, decimal_short 20 n (omega arith) (omega arith))
