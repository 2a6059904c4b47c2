-- Sessions with the machine, from lines of bytes to its answers: the language of specs/Table.antt and specs/Examples.antt. Every call goes through the
-- machine's own step.
use Rattle.std.specs.Prelude.{◌≡◌, ◌+◌, ◌*◌, ◌-◌, ◌∷◌, ◌++◌, ◌&&◌}
use Prim.Native.String.{String}
use Rattle.model.specs.Base.{ℕ, ℤ, List, [], map, Bool, true, false, cond, Option, none, some, eqb, leb, take, replicate}
use Rattle.model.specs.Types.{Position}
use Rattle.model.specs.Ascii.{ascii}
use Rattle.model.specs.Lists.{same, pieces, joined}
use Rattle.model.specs.Memory.{State}
use Rattle.model.specs.Machine.{Outcome, Begun, stepped, restart, write_image, positioned, start_factory, start_image}

-- ---- answers

-- the number and the reply of a call
pub record Answer : Type 0 where
  pub number : ℕ
  pub reply : List ℕ

abbrev pub answer : Outcome → Answer
answer o = record { number = o.number; reply = take o.count o.buffer }

-- accepted, with these bytes
abbrev pub gives : List ℕ → Answer
gives bytes = record { number = 0; reply = bytes }

abbrev pub replies : String → Answer
replies t = gives (ascii t)

-- a reply of several lines, each with what ends it
abbrev pub lists : List String → Answer
lists ts = gives (joined (map ascii ts))

-- accepted, without a reply
abbrev pub taken : Answer
taken = gives []

-- refused with this number
abbrev pub number : ℕ → Answer
number n = record { number = n; reply = [] }

-- bytes in hexadecimal, a space between
abbrev hex_digit : ℕ → ℕ
hex_digit b = cond (leb b 57) (b - 48) (b - 55)

unfoldable pub hex_spelled : ℕ → List ℕ → ℕ
hex_spelled a [] = a
hex_spelled a (b ∷ bs) = hex_spelled (16 * a + hex_digit b) bs

unfoldable pub hex : String → List ℕ
hex t = map (hex_spelled 0) (pieces 32 (ascii t))

-- ---- calls

-- a lent buffer of so many bytes
abbrev pub lent : ℕ → List ℕ
lent n = replicate n 7

-- any bytes as a line, in a state, with a buffer that is just long enough
unfoldable pub sent : State → List ℕ → Outcome
sent st line = stepped st line (lent 4096)

-- the state after some lines
unfoldable pub run : State → List String → State
run st [] = st
run st (l ∷ ls) = run (sent st (ascii l)).state ls

-- the answer to a line that is sent after others, from the factory state
unfoldable pub then : List String → String → Answer
then before l = answer (sent (run start_factory before) (ascii l))

-- the platform's position, in millionths
abbrev pub at : ℤ → ℤ → ℤ → ℤ → ℤ → ℤ → Position
at x y z u v w = record { offset = record { x = x; y = y; z = z }; angles = record { u = u; v = v; w = w } }

-- ---- sessions

infix 70 ◌⇒◌
-- a call, and its answer
pub data Turn : Type 0 where
  ◌⇒◌ : String → Answer → Turn  -- a line
  restarts : Turn  -- a restart, accepted
  stands : Position → ℕ → Turn  -- the position is told, with this number
  writes : List ℕ → Turn  -- the image is written: these bytes
  starts : List ℕ → ℕ → Turn  -- a start from these bytes, with this number

-- what comes of a call
pub record Came : Type 0 where
  pub state : State
  pub answer : Answer

abbrev came : Outcome → Came
came o = record { state = o.state; answer = answer o }

abbrev begun : Begun → Came
begun o = record { state = o.state; answer = number o.number }

unfoldable pub comes : State → Turn → Came
comes st (l ⇒ a) = came (sent st (ascii l))
comes st restarts = begun (restart st)
comes st (stands p n) = begun (positioned st p)
comes st (writes bytes) = came (write_image st (lent 4096))
comes st (starts bytes n) = begun (start_image bytes)

-- the answer that a turn tells
abbrev pub told : Turn → Answer
told (l ⇒ a) = a
told restarts = taken
told (stands p n) = number n
told (writes bytes) = gives bytes
told (starts bytes n) = number n

abbrev pub alike : Answer → Answer → Bool
alike a b = eqb a.number b.number && same a.reply b.reply

-- the first answer that is not as its turn tells, if there is one; each call takes the state that the one before it returned
unfoldable pub otherwise : State → List Turn → Option Answer
otherwise st [] = none
otherwise st (t ∷ ts) = let c = comes st t in elim (alike c.answer (told t)) [ true ↦ otherwise c.state ts | false ↦ some c.answer ]

-- from the factory on, every call is answered as its turn tells
abbrev pub Session : List Turn → Type 0
Session ts = otherwise start_factory ts ≡ none

-- fifteen and sixteen definitions
abbrev pub fifteen : List String
fifteen =
    "KSD A" ∷ "KSD B" ∷ "KSD C" ∷ "KSD D" ∷ "KSD E" ∷ "KSD F" ∷ "KSD G" ∷ "KSD H" ∷ "KSD I" ∷ "KSD J" ∷ "KSD K" ∷ "KSD L" ∷ "KSD M"
    ∷ "KSD N" ∷ "KSD O" ∷ []

abbrev pub sixteen : List String
sixteen = fifteen ++ ("KSD P" ∷ [])
