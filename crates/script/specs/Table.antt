-- The directives of the shared vectors by example: each form in both cases of its digits, with few and many spaces, numbers with either sign and at both ends, and near
-- misses of each; and what is answered.
use Rattle.std.specs.Prelude.{◌≡◌, ℕ, Bool, true, false, List, [], ◌∷◌, ℤ, pos, neg_ℤ}
use Rattle.std.proofs.Math.Option.{Option, none, some}
use Rattle.model.specs.Ascii.{ascii}
use Rattle.model.specs.Machine.{began, start_factory}
use Rattle.model.specs.Sessions.{at}
use Rattle.model.specs.Stored.{holds, of_begun}
use Rattle.script.specs.Hex.{hexed}
use Rattle.script.specs.Directive.{Order, line, restart, write, start, factory, question, position, unclear, order}
use Rattle.script.specs.Obey.{Done, alone, asking, done, answer}

-- a line of a script, and what it orders
pub record Row : Type 0 where
  pub text : List ℕ
  pub orders : Order

-- below zero
abbrev pub minus : ℕ → ℤ
minus n = neg_ℤ (pos n)

abbrev pub rows : List Row
rows =
    record { text = ascii "L 4b4C 4096"; orders = line (75 ∷ 76 ∷ []) 4096 }
    ∷ record { text = ascii "  L  -  0065536 "; orders = line [] 65536 }
    ∷ record { text = ascii "R"; orders = restart }
    ∷ record { text = ascii "W 0"; orders = write 0 }
    ∷ record { text = ascii "I 0100"; orders = start (1 ∷ 0 ∷ []) }
    ∷ record { text = ascii "I -"; orders = start [] }
    ∷ record { text = ascii "N"; orders = factory }
    ∷ record { text = ascii "U 4b"; orders = question (75 ∷ []) }
    ∷ record { text = ascii "U -"; orders = question [] }
    ∷ record { text = ascii "P 5 0 -2000000000 0 1 -360000000"; orders = position (at (pos 5) (pos 0) (minus 2000000000) (pos 0) (pos 1) (minus 360000000)) }
    ∷ record { text = ascii "  P 007  -0 -0012   0000000000000000000000000 90 -1 "; orders = position (at (pos 7) (pos 0) (minus 12) (pos 0) (pos 90) (minus 1)) }
    ∷ record {
      text = ascii "P 9223372036854775807 -9223372036854775808 0 0 0 -9223372036854775807";
      orders = position (at (pos 9223372036854775807) (minus 9223372036854775808) (pos 0) (pos 0) (pos 0) (minus 9223372036854775807));
    }
    ∷ []

-- none of these is a directive
abbrev pub others : List (List ℕ)
others =
    [] ∷ ascii " " ∷ ascii "r" ∷ ascii "LL" ∷ ascii "R R" ∷ ascii "N 1" ∷ ascii "L 4b" ∷ ascii "L 4b 4096 1" ∷ ascii "L 4 4096" ∷ ascii "L 4g 4096"
    ∷ ascii "L 4b 65537" ∷ ascii "W -1" ∷ ascii "W" ∷ ascii "I" ∷ ascii "I 0" ∷ ascii "I --" ∷ ascii "U" ∷ ascii "u 4b" ∷ ascii "U 4" ∷ ascii "U 4b 4b" ∷ ascii "R\t"
    ∷ ascii "P" ∷ ascii "P 0" ∷ ascii "P 0 0" ∷ ascii "P 0 0 0 0 0" ∷ ascii "P 0 0 0 0 0 0 0" ∷ ascii "p 0 0 0 0 0 0" ∷ ascii "PP 0 0 0 0 0 0" ∷ ascii "P0 0 0 0 0 0"
    ∷ ascii "P 9223372036854775808 0 0 0 0 0" ∷ ascii "P 0 0 0 0 0 -9223372036854775809" ∷ ascii "P 0 0 0 0 0 100000000000000000000000000000000"
    ∷ ascii "P 0 0 - 0 0 0" ∷ ascii "P 0 0 +1 0 0 0" ∷ ascii "P 0 0 1.0 0 0 0" ∷ ascii "P 0 0 1f 0 0 0" ∷ ascii "P 0 0 0x1 0 0 0" ∷ ascii "P 0 0 --1 0 0 0" ∷ ascii "P 0 0 1- 0 0 0"
    ∷ ascii "P 0\t0 0 0 0 0" ∷ []

-- every row as it says
abbrev pub AsSaid : List Row → Type 0
AsSaid [] = Unit {0}
AsSaid (r ∷ rs) = (order r.text ≡ r.orders) × AsSaid rs

abbrev pub Unclear : List (List ℕ) → Type 0
Unclear [] = Unit {0}
Unclear (t ∷ ts) = (order t ≡ unclear) × Unclear ts

-- the table
pub record Directives : Type 0 where
  pub as_said : AsSaid rows
  pub no_directive : Unclear others

-- ---- answers: a call that was lent a buffer, one that was not, the question of use, a position, and no directive

-- what the question of use told
abbrev pub answered : ℕ → Bool → ℕ → Option Done
answered n b k = some (asking (holds start_factory) (record { number = n; used = b; looked = k }))

pub record Said : Type 0 where
  pub shown : answer 7 (some (record { state = holds start_factory; number = 0; text = hexed (1 ∷ 171 ∷ []) })) ≡ ascii "0 01ab\n"
  pub refused : answer 7 (some (alone (of_begun (began start_factory 14)))) ≡ ascii "14 \n"
  pub used : answer 7 (answered 0 true 20) ≡ ascii "0 1 20\n"
  pub unused : answer 7 (answered 0 false 3) ≡ ascii "0 0 3\n"
  pub untold : answer 7 (answered 1 false 0) ≡ ascii "1 \n"
  pub placed : answer 7 (done (holds start_factory) (order (ascii "P 1 2 3 4 5 -6"))) ≡ ascii "0 \n"
  pub beyond : answer 7 (done (holds start_factory) (order (ascii "P 0 0 2000000001 0 0 0"))) ≡ ascii "6 \n"
  pub malformed : answer 7 none ≡ ascii "? 7\n"
