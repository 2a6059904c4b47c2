-- Document 02 §9: what the next start needs is not removed. KRM has one rung more, 20, which looks for the name in the permanent memory (specs/Refusals.antt).
-- Here is what it shuts out and what it leaves free, what an accepted KRM can no longer do, and that a save sets a name free.
-- The statements only; they are proved in proofs/Histories/NextStart.
use Rattle.std.specs.Prelude.{◌≤◌, ◌≡◌, ◌∷◌, ◌&&◌}
use Rattle.model.specs.Base.{ℕ, List, [], Bool, true, false, not, length, take}
use Rattle.model.specs.Types.{StoredState}
use Rattle.model.specs.Limits.{buffer_limit}
use Rattle.model.specs.Memory.{State, is_user, named}
use Rattle.model.specs.WellFormed.{well_formed}
use Rattle.model.specs.Request.{reading, asks, change, remove}
use Rattle.model.specs.Refusals.{first, short, unreadable, locked}
use Rattle.model.specs.Effects.{with_error}
use Rattle.model.specs.Machine.{stepped, restart, write_image}
use Rattle.model.specs.Trace.{Call, called, after_calls}
use Rattle.model.specs.Claims.{tried_before}
use Rattle.model.specs.Checklist.{under_enabled, HeldFast, asks_to_save, switched_on}
use Rattle.model.specs.Stored.{memory_of, state_of, FineState, view_of, holds}
use Rattle.model.specs.Histories.{Returned, ReturnedAlone, LinePromise, RestartPromise, WritePromise, ImagePromise, Calls}
use Rattle.model.specs.PowerSwitch.{saves}

-- ---- what is refused

-- [02 §9] the line asks for KRM of that name
abbrev pub AsksToRemove : List ℕ → List ℕ → Type 0
AsksToRemove line n = reading line ≡ asks (change (remove n))

-- [02 §9] the name of a user system that is enabled in the permanent memory, or on the chain of one, whatever has that name in the volatile memory:
-- KRM of it is refused, with 20 where no number before 20 applies, and nothing but the last error changes
abbrev pub RefusedWhileSaved : State → Type 0
RefusedWhileSaved st =
    (n : List ℕ) → is_user st.permanent n ≡ true → under_enabled st.permanent n ≡ true → (line b : List ℕ) → AsksToRemove line n → HeldFast 20 st line b

-- [02 §9] what a line asks that is refused with 20
pub record AsksForNeeded (st : State) (line : List ℕ) : Type 0 where
  pub name : List ℕ
  pub asked : AsksToRemove line name
  pub needed : under_enabled st.permanent name ≡ true
  -- what 7 and 11 say of it does not hold
  pub there : is_user st.volatile name ≡ true
  pub unused : under_enabled st.volatile name ≡ false

-- [02 §9] any line but KRM has its number whatever was saved: definitions of such a name, copies over it and links of it stay free
abbrev pub OthersStayFree : Type 0
OthersStayFree =
    (st st' : State) → well_formed st ≡ true → well_formed st' ≡ true → st'.volatile ≡ st.volatile → st'.level ≡ st.level → st'.position ≡ st.position →
    (line b : List ℕ) → ((n : List ℕ) → AsksToRemove line n → ⊥) → (stepped st' line b).number ≡ (stepped st line b).number

-- ---- what an accepted KRM leaves

-- [02 §9] no accepted WPA among the calls comes while the name is in use
unfoldable pub never_saved_in_use : List ℕ → State → List Call → Bool
never_saved_in_use n st [] = true
never_saved_in_use n st (c ∷ cs) = not (saves st c && under_enabled st.volatile n) && never_saved_in_use n (called st c) cs

-- [02 §9] a name that st had, and st' has no longer
abbrev pub TakenAway : State → State → List ℕ → Type 0
TakenAway st st' n = (is_user st.volatile n ≡ true) × (is_user st'.volatile n ≡ false)

-- [02 §9] st' is what an accepted KRM of a made of st
pub record TakesNothingNeeded (a : List ℕ) (st st' : State) : Type 0 where
  -- a goes
  pub goes : TakenAway st st' a
  -- names that are in use in the permanent memory stay
  pub stays : (n : List ℕ) → under_enabled st.permanent n ≡ true → is_user st.volatile n ≡ true → is_user st'.volatile n ≡ true
  -- so a restart sent next brings no removed name back into use
  pub next : (n : List ℕ) → TakenAway st st' n → under_enabled (restart st').state.volatile n ≡ false
  -- nor does one that is sent later, or a start from the image then, until the name is saved in use again
  pub later : (n : List ℕ) → TakenAway st st' n → (calls : List Call) → never_saved_in_use n st' calls ≡ true →
      under_enabled (restart (after_calls st' calls)).state.volatile n ≡ false
  pub starts : (n : List ℕ) → TakenAway st st' n → (calls : List Call) → never_saved_in_use n st' calls ≡ true →
      (b : List ℕ) → buffer_limit ≤ length b → under_enabled (switched_on (write_image (after_calls st' calls) b)).volatile n ≡ false

abbrev pub RemovesNothingNeeded : State → Type 0
RemovesNothingNeeded st =
    (line b n : List ℕ) → AsksToRemove line n → (stepped st line b).number ≡ 0 → TakesNothingNeeded n st (stepped st line b).state

-- ---- saving frees it

-- [02 §9] the number of a KRM of the name that no memory holds back: what the buffer, the line's bytes and the level say
abbrev pub unheld : State → List ℕ → List ℕ → List ℕ → ℕ
unheld st n line b = first ((2, short b) ∷ (3, unreadable line) ∷ (9, locked st.level (named st.volatile n).group) ∷ [])

-- [02 §9] its number is neither 11 nor 20, and just that one
pub record Freed (st : State) (n line b : List ℕ) (number : ℕ) : Type 0 where
  pub not_eleven : number ≡ 11 → ⊥
  pub not_twenty : number ≡ 20 → ⊥
  pub exactly : number ≡ unheld st n line b

-- [02 §9] a user system that is not in use; an accepted WPA; then KRM of it, by any line and with any buffer
abbrev pub SavingFrees : State → Type 0
SavingFrees st =
    (n : List ℕ) → is_user st.volatile n ≡ true → under_enabled st.volatile n ≡ false →
    (save b : List ℕ) → asks_to_save (reading save) ≡ true → (stepped st save b).number ≡ 0 →
    (line c : List ℕ) → AsksToRemove line n → Freed (stepped st save b).state n line c (stepped (stepped st save b).state line c).number

-- ---- the same of the stored states that the public calls return

-- [02 §9] KRM of what the permanent memory needs: refused, and the last error alone changes
abbrev pub StoredRefused : StoredState → Type 0
StoredRefused s =
    (n : List ℕ) → is_user (memory_of s.permanent) n ≡ true → under_enabled (memory_of s.permanent) n ≡ true →
    (line b : List ℕ) (r : Returned) → LinePromise s line b r → AsksToRemove line n →
    (r.number ≡ 0 → ⊥) × (view_of r.state ≡ holds (with_error (state_of s) r.number))

-- [02 §9] no start from here brings the name into use: neither a restart, nor one from the bytes of the image
pub record StoredUnused (n : List ℕ) (s : StoredState) : Type 0 where
  pub restarts : (r : ReturnedAlone) → RestartPromise s r → under_enabled (memory_of r.state.volatile) n ≡ false
  pub starts : (b : List ℕ) (w : Returned) → WritePromise s b w → buffer_limit ≤ length b →
      (r : ReturnedAlone) → ImagePromise (take w.count w.buffer) r → under_enabled (memory_of r.state.volatile) n ≡ false

-- [02 §9] KRM, accepted; then any calls, none of which saves the name in use
abbrev pub StoredRemoves : StoredState → Type 0
StoredRemoves s =
    (line b a : List ℕ) (r : Returned) → LinePromise s line b r → AsksToRemove line a → r.number ≡ 0 →
    (n : List ℕ) → is_user (memory_of s.volatile) n ≡ true → is_user (memory_of r.state.volatile) n ≡ false →
    (calls : List Call) (s' : StoredState) → Calls r.state calls s' → never_saved_in_use n (state_of r.state) calls ≡ true → StoredUnused n s'

-- [02 §9] WPA, accepted, and KRM
abbrev pub StoredFrees : StoredState → Type 0
StoredFrees s =
    (n : List ℕ) → is_user (memory_of s.volatile) n ≡ true → under_enabled (memory_of s.volatile) n ≡ false →
    (save b : List ℕ) (r : Returned) → LinePromise s save b r → asks_to_save (reading save) ≡ true → r.number ≡ 0 →
    (line c : List ℕ) (r' : Returned) → LinePromise r.state line c r' → AsksToRemove line n → Freed (state_of r.state) n line c r'.number

-- ---- all of it, of every well-formed state

pub record NextStart : Type 0 where
  -- 20 is tried after 11 and before 12
  pub order : (tried_before 20 11 ≡ true) × (tried_before 12 20 ≡ true)
  pub refused : (st : State) → well_formed st ≡ true → RefusedWhileSaved st
  pub only : (st : State) → well_formed st ≡ true → (line b : List ℕ) → (stepped st line b).number ≡ 20 → AsksForNeeded st line
  pub others : OthersStayFree
  pub removes : (st : State) → well_formed st ≡ true → RemovesNothingNeeded st
  pub frees : (st : State) → well_formed st ≡ true → SavingFrees st
  pub stored_refused : (s : StoredState) → FineState s → StoredRefused s
  pub stored_removes : (s : StoredState) → FineState s → StoredRemoves s
  pub stored_frees : (s : StoredState) → FineState s → StoredFrees s
