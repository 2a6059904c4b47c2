-- Histories of the public calls over stored states, as the owners' program holds them: each call is given the stored state that the one before it returned,
-- and all that is known of what it returned is the equation that it promises (`line_answer`, `position_answer`, `restart_answer` of Stored.antt). Demand 3 and the checklist hold of
-- what such states stand for. The statements only; they are proved in proofs/Histories.
use Rattle.std.specs.Prelude.{◌≤◌, ◌<◌, ◌≡◌, ◌∷◌, ◌&&◌}
use Rattle.model.specs.Base.{ℕ, List, [], map, Bool, true, not, some, eqb, length, take}
use Rattle.model.specs.Types.{Position, StoredState}
use Rattle.model.specs.Ascii.{ascii}
use Rattle.model.specs.Limits.{buffer_limit}
use Rattle.model.specs.Memory.{Memory}
use Rattle.model.specs.Request.{reading}
use Rattle.model.specs.Reply.{listing, every_system, resultant_line}
use Rattle.model.specs.Image.{accepted}
use Rattle.model.specs.Machine.{Usage, start_factory, start_image}
use Rattle.model.specs.Trace.{Call, Input, line, moved, entering, restarting}
use Rattle.model.specs.Demand.{Start, factory_start, image_start, asks_to_enable, AfterBoth}
use Rattle.model.specs.Checklist.{Checked}
use Rattle.model.specs.Stored.{state_of, view_of, holds, Answered, Restarted, of_begun, line_answer, image_answer, restart_answer, position_answer, use_answer}

-- ---- what a call returns, and what it promises of that

-- a stored state and a number; where a buffer was lent, the length written and the buffer's bytes
pub record Returned : Type 0 where
  pub state : StoredState
  pub number : ℕ
  pub count : ℕ
  pub buffer : List ℕ

pub record ReturnedAlone : Type 0 where
  pub state : StoredState
  pub number : ℕ

abbrev pub stands_for : Returned → Answered
stands_for r = record { state = view_of r.state; number = r.number; count = r.count; buffer = r.buffer }

abbrev pub stands_alone : ReturnedAlone → Restarted
stands_alone r = record { state = view_of r.state; number = r.number }

-- [Two lists 1] the promise of a command line that is sent in s, with the lent buffer b
abbrev pub LinePromise : StoredState → List ℕ → List ℕ → Returned → Type 0
LinePromise s l b r = stands_for r ≡ line_answer (view_of s) l b

-- [Memory 4] the promise of a restart in s
abbrev pub RestartPromise : StoredState → ReturnedAlone → Type 0
RestartPromise s r = stands_alone r ≡ restart_answer (view_of s)

-- [02 §1] the promise of the position, told in s
abbrev pub PositionPromise : StoredState → Position → ReturnedAlone → Type 0
PositionPromise s p r = stands_alone r ≡ position_answer (view_of s) p

-- [Image] the promise of writing the image in s, into the lent buffer b
abbrev pub WritePromise : StoredState → List ℕ → Returned → Type 0
WritePromise s b r = stands_for r ≡ image_answer (view_of s) b

-- [Image] the promise of a start from bytes
abbrev pub ImagePromise : List ℕ → ReturnedAlone → Type 0
ImagePromise bytes r = stands_alone r ≡ of_begun (start_image bytes)

-- [02 §2] the promise of the question of use in s
abbrev pub UsePromise : StoredState → List ℕ → Usage → Type 0
UsePromise s n r = r ≡ use_answer (view_of s) n

-- ---- histories

-- [Two lists 1] the stored state of a start: the factory's, or an accepted image's
pub data Begins : Start → StoredState → Type 0 where
  at_factory : (s : StoredState) → view_of s ≡ holds start_factory → Begins factory_start s
  at_image : (bytes : List ℕ) (m : Memory) (e : accepted bytes ≡ some m) (r : ReturnedAlone) → ImagePromise bytes r → Begins (image_start bytes m e) r.state

-- [Two lists 1] the first list: from a stored state to the one that its last call returned
pub data Calls : StoredState → List Call → StoredState → Type 0 where
  none : (s : StoredState) → Calls s [] s
  then_line : (s s' : StoredState) (l b : List ℕ) (r : Returned) (cs : List Call) → LinePromise s l b r → Calls r.state cs s' → Calls s (entering (line l b) ∷ cs) s'
  then_moved : (s s' : StoredState) (p : Position) (r : ReturnedAlone) (cs : List Call) →
      PositionPromise s p r → Calls r.state cs s' → Calls s (entering (moved p) ∷ cs) s'
  then_restart : (s s' : StoredState) (r : ReturnedAlone) (cs : List Call) → RestartPromise s r → Calls r.state cs s' → Calls s (restarting ∷ cs) s'

-- [Two lists 1; 02 §1] the second list, with the numbers that its calls returned
pub data Inputs : StoredState → List Input → List ℕ → StoredState → Type 0 where
  none : (s : StoredState) → Inputs s [] [] s
  then_line : (s s' : StoredState) (l b : List ℕ) (r : Returned) (cs : List Input) (ns : List ℕ) →
      LinePromise s l b r → Inputs r.state cs ns s' → Inputs s (line l b ∷ cs) (r.number ∷ ns) s'
  then_moved : (s s' : StoredState) (p : Position) (r : ReturnedAlone) (cs : List Input) (ns : List ℕ) →
      PositionPromise s p r → Inputs r.state cs ns s' → Inputs s (moved p ∷ cs) (r.number ∷ ns) s'

-- [demand 3] none of the lines that ask for KEN, RPA or DPA returned 0
unfoldable pub steady_by : List Input → List ℕ → Bool
steady_by [] ns = true
steady_by (c ∷ cs) [] = true
steady_by (line l b ∷ cs) (n ∷ ns) = not (eqb n 0 && asks_to_enable (reading l)) && steady_by cs ns
steady_by (moved p ∷ cs) (n ∷ ns) = steady_by cs ns

-- ---- demand 3

-- a stored state that has shape stands for a state of the machine
abbrev pub Stands : StoredState → Type 0
Stands s = view_of s ≡ holds (state_of s)

-- [Two lists 2] KLT? sent next, whatever buffer is lent: 2 where it is too short, and otherwise the listing from byte 0 on
pub record KltPrints (s : StoredState) : Type 0 where
  pub short : (b : List ℕ) (r : Returned) → LinePromise s (ascii "KLT?") b r → length b < buffer_limit → r.number ≡ 2
  pub taken : (b : List ℕ) (r : Returned) → LinePromise s (ascii "KLT?") b r → buffer_limit ≤ length b → r.number ≡ 0
  pub text : (b : List ℕ) (r : Returned) → LinePromise s (ascii "KLT?") b r → buffer_limit ≤ length b →
      take r.count r.buffer ≡ listing (map (resultant_line (state_of s).volatile.systems) (every_system (state_of s).volatile.systems))

-- what is so of the stored states when the second list began and after it
pub record StoredAfterBoth (s s' : StoredState) : Type 0 where
  pub began : Stands s
  pub ended : Stands s'
  pub after : AfterBoth (state_of s) (state_of s')
  pub prints : KltPrints s'

-- [demand 3] of every stored state that the public calls can lead to
abbrev pub StoredDemand3 : Type 0
StoredDemand3 =
    (start : Start) (first : List Call) (second : List Input) (numbers : List ℕ) (s₀ s s' : StoredState) →
    Begins start s₀ → Calls s₀ first s → Inputs s second numbers s' → steady_by second numbers ≡ true → StoredAfterBoth s s'

-- ---- the checklist

abbrev pub StoredChecklist : Type 0
StoredChecklist =
    (start : Start) (calls : List Call) (s₀ s : StoredState) → Begins start s₀ → Calls s₀ calls s → Stands s × Checked (state_of s)
