-- Document 02 §7, the power switch. The bench goes off without warning, after any call. What was last saved is found by a walk along the calls, which looks
-- at their numbers and at the volatile memory, never at the permanent one. That the machine keeps just this, and has it back when it is switched on, is
-- the claim. The statements only; they are proved in proofs/Histories/Switched.
use Rattle.std.specs.Prelude.{◌≤◌, ◌<◌, ◌≡◌, ◌∷◌, ◌++◌, ◌&&◌}
use Rattle.model.specs.Base.{ℕ, List, [], Bool, true, false, cond, not, eqb, length, take}
use Rattle.model.specs.Types.{StoredState}
use Rattle.model.specs.Limits.{buffer_limit}
use Rattle.model.specs.Memory.{Memory, State, factory, started, zero_position}
use Rattle.model.specs.WellFormed.{well_formed}
use Rattle.model.specs.Request.{Query, reading, asks, list}
use Rattle.model.specs.Image.{image}
use Rattle.model.specs.Machine.{refused, answered, began, restart, write_image}
use Rattle.model.specs.Trace.{Call, entering, restarting, called, after_calls}
use Rattle.model.specs.Demand.{Start, factory_start, image_start, start_state, taken}
use Rattle.model.specs.Checklist.{asks_to_save, ListsAlike, start_from}
use Rattle.model.specs.Stored.{memory_of, state_of, FineState, view_of, holds, of_outcome, of_begun}
use Rattle.model.specs.Histories.{Returned, ReturnedAlone, stands_for, stands_alone, LinePromise, RestartPromise, WritePromise, ImagePromise, Begins, Calls}
use Rattle.model.specs.Histories as stored

-- ---- what was last saved

-- [02 §7] the memory that a start begins with
unfoldable pub start_memory : Start → Memory
start_memory factory_start = factory
start_memory (image_start bytes m e) = m

-- [02 §7] the call is a WPA, and it is accepted at its turn
unfoldable pub saves : State → Call → Bool
saves st (entering i) = taken asks_to_save st i
saves st restarting = false

-- [02 §7] the walk: m, until an accepted WPA puts the volatile memory at its turn in m's place
unfoldable pub saved_after : Memory → State → List Call → Memory
saved_after m st [] = m
saved_after m st (c ∷ cs) = saved_after (cond (saves st c) st.volatile m) (called st c) cs

-- [02 §7] from a start
abbrev pub last_saved : Start → List Call → Memory
last_saved start calls = saved_after (start_memory start) (start_state start) calls

-- ---- the walk finds the last one

-- [02 §7] no call is an accepted WPA
unfoldable pub none_saves : State → List Call → Bool
none_saves st [] = true
none_saves st (c ∷ cs) = not (saves st c) && none_saves (called st c) cs

-- [02 §7] m is the first memory, and no WPA was accepted; or one was, none after it, and m is the volatile memory when it came
pub data SavedLast (first : Memory) (st : State) (calls : List Call) (m : Memory) : Type 0 where
  never : none_saves st calls ≡ true → m ≡ first → SavedLast first st calls m
  last : (before : List Call) (c : Call) (later : List Call) → calls ≡ before ++ (c ∷ later) →
      saves (after_calls st before) c ≡ true → none_saves (called (after_calls st before) c) later ≡ true →
      m ≡ (after_calls st before).volatile → SavedLast first st calls m

-- [02 §7] from every start, along every list
abbrev pub FindsTheLast : Type 0
FindsTheLast = (start : Start) (calls : List Call) → SavedLast (start_memory start) (start_state start) calls (last_saved start calls)

-- ---- what the machine has, m being what was last saved

-- [02 §7] every listing asked of st has the bytes that it had in whatever well-formed state had m as volatile memory: the one that saved m, or any other
abbrev pub ListsAs : Memory → State → Type 0
ListsAs m st = (earlier : State) → well_formed earlier ≡ true → earlier.volatile ≡ m → ListsAlike earlier st

-- [02 §7] what is so of a state
pub record BringsBack (m : Memory) (st : State) : Type 0 where
  -- the state is well formed; so was the one that saved m, and its listings are among those compared below
  pub fine : well_formed st ≡ true
  -- m is what it keeps
  pub permanent : st.permanent ≡ m
  -- a restart sent next is accepted and gives what a start with m gives, and every listing is as it was
  pub restarts : restart st ≡ began (record { volatile = m; permanent = m; position = zero_position; level = 0; error = 0 }) 0
  pub lists : ListsAs m (restart st).state
  -- the image that can be written here is m's, and a start from the bytes written is that restart
  pub short : (b : List ℕ) → length b < buffer_limit → write_image st b ≡ refused st 2 b
  pub written : (b : List ℕ) → buffer_limit ≤ length b → write_image st b ≡ answered st (image m) b
  pub starts : (b : List ℕ) → buffer_limit ≤ length b → start_from (write_image st b) ≡ restart st

-- [02 §7; 02 §1] after every start and every list of lines, positions and restarts
abbrev pub PowerSwitch : Type 0
PowerSwitch = (start : Start) (calls : List Call) → BringsBack (last_saved start calls) (after_calls (start_state start) calls)

-- ---- the same of the stored states that the public calls return

-- [02 §7] the walk along what they returned: where a WPA returned 0, the memory that the volatile one stood for at its turn
unfoldable pub saved_by : {s s' : StoredState} {cs : List Call} → Memory → Calls s cs s' → Memory
saved_by m (stored.none s) = m
saved_by m (stored.then_line s s' l b r cs p rest) = saved_by (cond (eqb r.number 0 && asks_to_save (reading l)) (memory_of s.volatile) m) rest
saved_by m (stored.then_moved s s' p r cs q rest) = saved_by m rest
saved_by m (stored.then_restart s s' r cs p rest) = saved_by m rest

-- [02 §7] a listing asked of s, and of any stored state that stands for a well-formed one with m as volatile memory
abbrev pub StoredListsAs : Memory → StoredState → Type 0
StoredListsAs m s =
    (earlier : StoredState) → FineState earlier → memory_of earlier.volatile ≡ m →
    (l b : List ℕ) (q : Query) → reading l ≡ asks (list q) → (r r' : Returned) → LinePromise earlier l b r → LinePromise s l b r' →
    (r'.number ≡ r.number) × (r'.count ≡ r.count) × (r'.buffer ≡ r.buffer)

-- [02 §7] what is so of a stored state, by what its calls promise
pub record StoredBringsBack (m : Memory) (s : StoredState) : Type 0 where
  pub fine : FineState s
  pub permanent : memory_of s.permanent ≡ m
  pub restarts : (r : ReturnedAlone) → RestartPromise s r → stands_alone r ≡ of_begun (began (started m) 0)
  pub lists : (r : ReturnedAlone) → RestartPromise s r → StoredListsAs m r.state
  pub short : (b : List ℕ) (r : Returned) → WritePromise s b r → length b < buffer_limit → stands_for r ≡ of_outcome (refused (state_of s) 2 b)
  pub written : (b : List ℕ) (r : Returned) → WritePromise s b r → buffer_limit ≤ length b → stands_for r ≡ of_outcome (answered (state_of s) (image m) b)
  pub starts : (b : List ℕ) (r : Returned) → WritePromise s b r → buffer_limit ≤ length b →
      (r' : ReturnedAlone) → ImagePromise (take r.count r.buffer) r' → stands_alone r' ≡ of_begun (began (started m) 0)

-- [02 §7] s, to which the calls led from a start, stands for the machine's own state there; both walks find the same, and s brings it back
pub record StoredSwitch (start : Start) (calls : List Call) (s₀ s : StoredState) (history : Calls s₀ calls s) : Type 0 where
  pub stands : view_of s ≡ holds (after_calls (start_state start) calls)
  pub saved : saved_by (start_memory start) history ≡ last_saved start calls
  pub back : StoredBringsBack (saved_by (start_memory start) history) s

-- [02 §7] of every stored state that the public calls can lead to
abbrev pub StoredPowerSwitch : Type 0
StoredPowerSwitch =
    (start : Start) (calls : List Call) (s₀ s : StoredState) → Begins start s₀ → (history : Calls s₀ calls s) → StoredSwitch start calls s₀ s history
