-- What is claimed of every call, in the owners' words: a refusal changes nothing, its number is exact, a line asks for nothing illegal, and a well-formed
-- state stays well formed. The statements only; they are proved in proofs/Ladder and proofs/Histories.
use Rattle.std.specs.Prelude.{◌≤◌, ◌≡◌, ◌↔◌, ◌∷◌, ◌&&◌, ◌||◌}
use Rattle.model.specs.Base.{ℕ, List, [], Bool, true, false, cond, not, none, some, eqb}
use Rattle.model.specs.Types.{Kind, Vec3, Turns, Position}
use Rattle.model.specs.Lists.{any}
use Rattle.model.specs.Kinds.{of_kind}
use Rattle.model.specs.Memory.{Memory, State, started, restarted}
use Rattle.model.specs.Words.{legal_name, offsets_fine}
use Rattle.model.specs.Stage.{position_fine}
use Rattle.model.specs.WellFormed.{turns_fine, no_offset, well_formed}
use Rattle.model.specs.Request.{reading, asks, change, define, locate, copy, set_level}
use Rattle.model.specs.Refusals.{precedence, Rung, short, ladder}
use Rattle.model.specs.Effects.{with_error, with_position}
use Rattle.model.specs.Image.{image, accepted}
use Rattle.model.specs.Use.{use_test}
use Rattle.model.specs.Machine.{Outcome, refused, answered, began, stepped, restart, write_image, positioned, start_factory, start_image, tells_use, refuses_use, ask_use}
use Rattle.model.specs.Trace.{Call, Input, after_calls, after_inputs}
use Rattle.model.specs.Demand.{Start, start_state}

-- ---- refusals change nothing

-- [Errors, end] both memories, the position, the level and every byte of the buffer are as they were, and no length is told
pub record Untouched (st : State) (b : List ℕ) (o : Outcome) : Type 0 where
  pub volatile : o.state.volatile ≡ st.volatile
  pub permanent : o.state.permanent ≡ st.permanent
  pub position : o.state.position ≡ st.position
  pub level : o.state.level ≡ st.level
  pub buffer : o.buffer ≡ b
  pub count : o.count ≡ 0

-- [Errors, end; Error 1] for every state, line and buffer. `lines` says it part by part, `one` and `others` give the state whole
pub record RefusalsChangeNothing : Type 0 where
  pub lines : (st : State) (line b : List ℕ) → ((stepped st line b).number ≡ 0 → ⊥) → Untouched st b (stepped st line b)
  pub one : (st : State) (line b : List ℕ) → (stepped st line b).number ≡ 1 → (stepped st line b).state ≡ st
  pub others : (st : State) (line b : List ℕ) → 2 ≤ (stepped st line b).number → (stepped st line b).state ≡ with_error st (stepped st line b).number
  pub restarts : (st : State) → ((restart st).number ≡ 0 → ⊥) → (restart st).state ≡ st
  pub positions : (st : State) (p : Position) → ((positioned st p).number ≡ 0 → ⊥) → (positioned st p).state ≡ st
  pub images : (st : State) (b : List ℕ) → ((write_image st b).number ≡ 0 → ⊥) → write_image st b ≡ refused st (write_image st b).number b
  pub image_keeps : (st : State) (b : List ℕ) → (write_image st b).state ≡ st

-- ---- the number is exact

-- [Errors] the ladder has number n, and its condition holds
unfoldable pub applies : ℕ → List Rung → Bool
applies n rungs = any (λ (r : Rung). eqb n r.0 && r.1) rungs

-- [Errors, end] the numbers that stand before n in a list of them
unfoldable pub before : ℕ → List ℕ → List ℕ
before n [] = []
before n (k ∷ ks) = cond (eqb k n) [] (k ∷ before n ks)

-- [Errors, end] k is tried before n
unfoldable pub tried_before : ℕ → ℕ → Bool
tried_before n k = any (eqb k) (before n precedence)

-- [Errors, end] n applies, and no number that is tried before it
pub record FirstToApply (n : ℕ) (rungs : List Rung) : Type 0 where
  pub itself : applies n rungs ≡ true
  pub none_before : (k : ℕ) → tried_before n k ≡ true → applies k rungs ≡ false

-- [Errors, end] the rungs have their numbers from this list, in its order
unfoldable pub in_order : List ℕ → List Rung → Bool
in_order ns [] = true
in_order [] (r ∷ rungs) = false
in_order (n ∷ ns) (r ∷ rungs) = elim (eqb n r.0) [ true ↦ in_order ns rungs | false ↦ in_order ns (r ∷ rungs) ]

-- [Errors] no number stands twice in the list
unfoldable pub none_twice : List ℕ → Bool
none_twice [] = true
none_twice (n ∷ ns) = not (any (eqb n) ns) && none_twice ns

-- [Errors, end; Memory 4] for every line and buffer: 1 exactly in a state that is not well formed; else the first number that applies, and only if one does
pub record NumberExact (st : State) (line b : List ℕ) : Type 0 where
  pub one : (stepped st line b).number ≡ 1 ↔ well_formed st ≡ false
  pub others : well_formed st ≡ true → (n : ℕ) → 2 ≤ n → (stepped st line b).number ≡ n ↔ FirstToApply n (ladder st line b)
  pub accepted : well_formed st ≡ true → (stepped st line b).number ≡ 0 ↔ ((n : ℕ) → applies n (ladder st line b) ≡ false)
  pub ordered : in_order precedence (ladder st line b) ≡ true
  pub once : none_twice precedence ≡ true

-- [Image; Errors 1, 2, 6, 14; 02 §2, §1] the calls that are no lines: a restart and the question of use meet only 1, writing only 1 and 2, a start only 14,
-- the position 1 and then 6
pub record OtherNumbersExact : Type 0 where
  pub restart_one : (st : State) → well_formed st ≡ false → restart st ≡ began st 1
  pub restart_taken : (st : State) → well_formed st ≡ true → restart st ≡ began (restarted st) 0
  pub image_one : (st : State) (b : List ℕ) → well_formed st ≡ false → write_image st b ≡ refused st 1 b
  pub image_two : (st : State) (b : List ℕ) → well_formed st ≡ true → short b ≡ true → write_image st b ≡ refused st 2 b
  pub image_taken : (st : State) (b : List ℕ) → well_formed st ≡ true → short b ≡ false → write_image st b ≡ answered st (image st.permanent) b
  pub start_refused : (bytes : List ℕ) → accepted bytes ≡ none → start_image bytes ≡ began start_factory 14
  pub start_taken : (bytes : List ℕ) (m : Memory) → accepted bytes ≡ some m → start_image bytes ≡ began (started m) 0
  pub position_one : (st : State) (p : Position) → well_formed st ≡ false → positioned st p ≡ began st 1
  pub position_six : (st : State) (p : Position) → well_formed st ≡ true → position_fine p ≡ false → positioned st p ≡ began st 6
  pub position_taken : (st : State) (p : Position) → well_formed st ≡ true → position_fine p ≡ true → positioned st p ≡ began (with_position st p) 0
  pub use_one : (st : State) (n : List ℕ) → well_formed st ≡ false → ask_use st n ≡ refuses_use
  pub use_taken : (st : State) (n : List ℕ) → well_formed st ≡ true → ask_use st n ≡ tells_use (use_test st.volatile n)

-- ---- a line asks for nothing illegal

-- [Memory 2; A line; Commands, KSD] of a definition: the name is legal, the offsets are within the limit, the turns 0 to 3 quarters; no offset with KSB
pub record LegalDefinition (k : Kind) (n : List ℕ) (t : Vec3) (u : Turns) : Type 0 where
  pub name : legal_name n ≡ true
  pub offsets : offsets_fine t ≡ true
  pub turns : turns_fine u ≡ true
  pub flat : not (of_kind k).turns_only || no_offset t ≡ true

-- [A line; Errors 5, 6] whatever its bytes
pub record AsksNothingIllegal : Type 0 where
  pub definitions : (line : List ℕ) (k : Kind) (n : List ℕ) (t : Vec3) (u : Turns) → reading line ≡ asks (change (define k n t u)) → LegalDefinition k n t u
  pub locations : (line n : List ℕ) → reading line ≡ asks (change (locate n)) → legal_name n ≡ true
  pub copies : (line s d : List ℕ) → reading line ≡ asks (change (copy s d)) → legal_name d ≡ true
  pub levels : (line : List ℕ) (n : ℕ) → reading line ≡ asks (change (set_level n)) → n ≤ 1

-- ---- well-formedness is kept

-- [Memory 4; Two lists 1] by every call, from either start, and so by every list of calls
pub record WellFormedKept : Type 0 where
  pub line : (st : State) (bytes b : List ℕ) → well_formed st ≡ true → well_formed (stepped st bytes b).state ≡ true
  pub restarting : (st : State) → well_formed st ≡ true → well_formed (restart st).state ≡ true
  pub positioning : (st : State) (p : Position) → well_formed st ≡ true → well_formed (positioned st p).state ≡ true
  pub factory : well_formed start_factory ≡ true
  pub image : (bytes : List ℕ) → well_formed (start_image bytes).state ≡ true
  pub calls : (st : State) (cs : List Call) → well_formed st ≡ true → well_formed (after_calls st cs) ≡ true
  pub inputs : (st : State) (cs : List Input) → well_formed st ≡ true → well_formed (after_inputs st cs) ≡ true
  pub history : (start : Start) (first : List Call) (second : List Input) → well_formed (after_inputs (after_calls (start_state start) first) second) ≡ true
