-- The field engineer's checklist, from the owners' page of demands, as statements about the state after any history: a start, and any list of calls.
-- The statements only; they are proved in proofs/.
use Rattle.std.specs.Prelude.{◌≤◌, ◌≡◌, ◌∷◌, ◌++◌, ◌||◌}
use Rattle.model.specs.Base.{ℕ, zero, suc, List, [], map, Bool, true, false, some, eqb, length, take}
use Rattle.model.specs.Ascii.{ascii}
use Rattle.model.specs.Lists.{any, same, one_of}
use Rattle.model.specs.Types.{Operating, Orientational, Levelling}
use Rattle.model.specs.Limits.{max_systems, buffer_limit}
use Rattle.model.specs.Kinds.{of_group}
use Rattle.model.specs.Memory.{Memory, State, Ref, name_of, type_of, pred_name, is_user, find, named}
use Rattle.model.specs.Chain.{hop, chain}
use Rattle.model.specs.Use.{operating_places, in_group}
use Rattle.model.specs.Request.{Change, Query, Reading, reading, unknown, malformed, beyond, asks, change, list, last_error, define, locate, link, copy, remove, enable, set_level, save, restore, reset}
use Rattle.model.specs.Effects.{with_error}
use Rattle.model.specs.Refusals.{ladder}
use Rattle.model.specs.Reply.{listing, every_system, enabled_line}
use Rattle.model.specs.Machine.{Outcome, Begun, stepped, restart, write_image, start_image}
use Rattle.model.specs.Trace.{Call, Input, after_calls, after_inputs}
use Rattle.model.specs.Claims.{applies, tried_before}
use Rattle.model.specs.Demand.{Start, start_state, none_taken, Replies, Held, HeldPart, alone, pair, frames}

-- ---- (1) KEN?: for each group one system, or for the operating group a pair

-- a system of the memory, found under its name, with one of these types
pub record Allowed (m : Memory) (types : List (List ℕ)) (r : Ref) : Type 0 where
  pub present : find m (name_of m.systems r) ≡ some r
  pub allowed : one_of types (type_of m.systems r) ≡ true

-- one system, or work and tool, not both the substitute
pub data OneOrPair (m : Memory) : List Ref → Type 0 where
  one : (r : Ref) → Allowed m (ascii "ZERO" ∷ ascii "KSD" ∷ ascii "KSF" ∷ []) r → OneOrPair m (r ∷ [])
  work_and_tool : (w t : Ref) → Allowed m (ascii "ZERO" ∷ ascii "KSW" ∷ []) w → Allowed m (ascii "ZERO" ∷ ascii "KST" ∷ []) t →
      (type_of m.systems w ≡ ascii "ZERO" → type_of m.systems t ≡ ascii "ZERO" → ⊥) → OneOrPair m (w ∷ t ∷ [])

-- the enabled operating systems of a memory: one, or work and tool
abbrev pub operating_refs : Memory → List Ref
operating_refs m = map (in_group Operating) (operating_places m.enabled.operating)

abbrev pub orientational_ref : Memory → Ref
orientational_ref m = in_group Orientational m.enabled.orientational

abbrev pub levelling_ref : Memory → Ref
levelling_ref m = in_group Levelling m.enabled.levelling

-- each group has what it may have enabled, and KEN? shows just that
pub record OneInEachGroup (st : State) : Type 0 where
  pub operating : OneOrPair st.volatile (operating_refs st.volatile)
  pub orientational : Allowed st.volatile (ascii "KSB(PI)" ∷ ascii "KSB(USER)" ∷ []) (orientational_ref st.volatile)
  pub levelling : Allowed st.volatile (ascii "KLD(PI)" ∷ ascii "KLD(USER)" ∷ []) (levelling_ref st.volatile)
  pub shown : Replies st (ascii "KEN?") (listing (map (enabled_line st.volatile.systems)
      (operating_refs st.volatile ++ (orientational_ref st.volatile ∷ levelling_ref st.volatile ∷ []))))

-- ---- (2) KLN? followed down never meets a ring

-- the name that KLN? shows for a name's predecessor
abbrev pub below : Memory → List ℕ → List ℕ
below m n = pred_name m.systems (named m n)

-- the name that so many lines of KLN? lead to
unfoldable pub followed_down : Memory → ℕ → List ℕ → List ℕ
followed_down m zero n = n
followed_down m (suc i) n = followed_down m i (below m n)

-- the lines followed from a system's name pass the names on its chain, one after the other, and end at its group's fixed system, in no more than 16
pub record Down (m : Memory) (n : List ℕ) (r : Ref) : Type 0 where
  pub passes : (i : ℕ) → i ≤ length (chain m.systems r.place) →
      followed_down m i n ≡ name_of m.systems (in_group r.group (hop m.systems i r.place))
  pub ends : followed_down m (length (chain m.systems r.place)) n ≡ (of_group r.group).name
  pub few : length (chain m.systems r.place) ≤ max_systems

-- NAME=BELOW
abbrev pub line_below : Memory → Ref → List ℕ
line_below m r = name_of m.systems r ++ (ascii "=" ++ below m (name_of m.systems r))

-- so it is from every name, and KLN? shows for each system the name below it
pub record LeadsDown (st : State) : Type 0 where
  pub down : (n : List ℕ) (r : Ref) → find st.volatile n ≡ some r → Down st.volatile n r
  pub shown : Replies st (ascii "KLN?") (listing (map (line_below st.volatile) (every_system st.volatile.systems)))

-- ---- (3) a system under an enabled one is neither redefined, linked, copied over nor removed

-- a change of the system of that name
unfoldable pub touches : Change → List ℕ → Bool
touches (define k n t u) a = same n a
touches (locate n) a = same n a
touches (link n b) a = same n a
touches (copy s n) a = same n a
touches (remove n) a = same n a
touches (enable n) a = false
touches (set_level n) a = false
touches save a = false
touches restore a = false
touches reset a = false

-- the name of an enabled system, and those on its chain
abbrev pub names_down : Held → List (List ℕ)
names_down h = h.name ∷ h.chain

-- one of these
abbrev pub under : Held → List ℕ → Bool
under h n = any (same n) (names_down h)

abbrev pub under_part : HeldPart → List ℕ → Bool
under_part (alone h) n = under h n
under_part (pair w t) n = under w n || under t n

unfoldable pub under_enabled : Memory → List ℕ → Bool
under_enabled m n = under_part (frames m).operating n || (under (frames m).orientational n || under (frames m).levelling n)

-- refused with n or a number that is tried before it, and with n where none of those applies; only the last error changes
pub record HeldFast (n : ℕ) (st : State) (line b : List ℕ) : Type 0 where
  pub refused : eqb (stepped st line b).number n || tried_before n (stepped st line b).number ≡ true
  pub itself : ((k : ℕ) → tried_before n k ≡ true → applies k (ladder st line b) ≡ false) → (stepped st line b).number ≡ n
  pub kept : (stepped st line b).state ≡ with_error st (stepped st line b).number

abbrev pub RefusedUnderEnabled : State → Type 0
RefusedUnderEnabled st =
    (n : List ℕ) → is_user st.volatile n ≡ true → under_enabled st.volatile n ≡ true →
    (line b : List ℕ) (c : Change) → reading line ≡ asks (change c) → touches c n ≡ true → HeldFast 11 st line b

-- ---- (4) save, switch off, switch on, list

unfoldable pub asks_to_save : Reading → Bool
asks_to_save unknown = false
asks_to_save malformed = false
asks_to_save beyond = false
asks_to_save (asks (change (define k n t u))) = false
asks_to_save (asks (change (locate n))) = false
asks_to_save (asks (change (link a b))) = false
asks_to_save (asks (change (copy s d))) = false
asks_to_save (asks (change (remove a))) = false
asks_to_save (asks (change (enable a))) = false
asks_to_save (asks (change (set_level n))) = false
asks_to_save (asks (change save)) = true
asks_to_save (asks (change restore)) = false
asks_to_save (asks (change reset)) = false
asks_to_save (asks (list q)) = false
asks_to_save (asks last_error) = false

-- the same answer to every listing, whatever bytes ask for it
abbrev pub ListsAlike : State → State → Type 0
ListsAlike st st' = (line b : List ℕ) (q : Query) → reading line ≡ asks (list q) →
    ((stepped st' line b).number ≡ (stepped st line b).number) × ((stepped st' line b).count ≡ (stepped st line b).count)
    × ((stepped st' line b).buffer ≡ (stepped st line b).buffer)

-- a start from the bytes that a call wrote
abbrev pub start_from : Outcome → Begun
start_from o = start_image (take o.count o.buffer)

abbrev pub switched_on : Outcome → State
switched_on o = (start_from o).state

-- st saved by an accepted WPA; then lines without another, and positions; then a restart, or an image written and a start from the bytes written
pub record ComesBack (st : State) (later : State) : Type 0 where
  pub memory : (restart later).state.volatile ≡ st.volatile
  pub lists : ListsAlike st (restart later).state
  pub image_memory : (b : List ℕ) → buffer_limit ≤ length b → (switched_on (write_image later b)).volatile ≡ st.volatile
  pub image_lists : (b : List ℕ) → buffer_limit ≤ length b → ListsAlike st (switched_on (write_image later b))

abbrev pub SavedComesBack : State → Type 0
SavedComesBack st =
    (line b : List ℕ) → asks_to_save (reading line) ≡ true → (stepped st line b).number ≡ 0 →
    (later : List Input) → none_taken asks_to_save (stepped st line b).state later ≡ true →
    ComesBack st (after_inputs (stepped st line b).state later)

-- ---- all four, after every history

pub record Checked (st : State) : Type 0 where
  pub groups : OneInEachGroup st
  pub chains : LeadsDown st
  pub in_use : RefusedUnderEnabled st
  pub saved : SavedComesBack st

abbrev pub Checklist : Type 0
Checklist = (start : Start) (calls : List Call) → Checked (after_calls (start_state start) calls)
