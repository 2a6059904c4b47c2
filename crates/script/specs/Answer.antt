-- What a line of a script is answered.
use Rattle.std.specs.Prelude.{ℕ, ◌+◌, ◌*◌, cond, List, [], ◌∷◌, ◌++◌, ◌==◌}
use Rattle.model.specs.Ascii.{ascii}
use Rattle.model.specs.Lists.{joined}
use Rattle.model.specs.Reply.{decimal}
use Rattle.model.specs.Machine.{Usage}
use Rattle.script.specs.Directive.{longest_lent}

-- ---- texts

-- a call: its number and a space, and behind them what it shows
abbrev pub head : ℕ → List ℕ
head number = decimal number ++ ascii " "

unfoldable pub said : ℕ → List ℕ → List ℕ
said number shown = joined (head number ∷ shown ∷ ascii "\n" ∷ [])

-- [02 §2] what the question of use shows if it was answered: 1 or 0, and how many were looked at
unfoldable pub usage_text : Usage → List ℕ
usage_text a = cond (a.number == 0) (joined (cond a.used (ascii "1") (ascii "0") ∷ ascii " " ∷ decimal a.looked ∷ [])) []

-- 1 or 0, a space, and a count of 64 bits
abbrev pub longest_usage : ℕ
longest_usage = 22

-- no directive: the number of the line
unfoldable pub complaint : ℕ → List ℕ
complaint line = joined (ascii "? " ∷ decimal line ∷ ascii "\n" ∷ [])

-- what stands beside a call's bytes: a number of up to three digits, a space and LF
abbrev pub beside : ℕ
beside = 5

-- no answer is longer: two digits for each byte of the longest lent buffer
abbrev pub longest_answer : ℕ
longest_answer = 2 * longest_lent + beside
