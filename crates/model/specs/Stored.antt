-- What a stored value stands for (document 01, "Empty programs": free is only what lies beyond the last user system or a name's last byte).
use Rattle.std.specs.Prelude.{◌≡◌, ◌&&◌}
use Rattle.model.specs.Base.{ℕ, List, map, Bool, true, false, leb, take, replicate}
use Rattle.model.specs.Types.{Position, Name, StoredSystem, StoredMemory, StoredState}
use Rattle.model.specs.Lists.{all}
use Rattle.model.specs.Limits.{max_systems, name_limit}
use Rattle.model.specs.Memory.{System, Memory, State}
use Rattle.model.specs.WellFormed.{memory_fine, well_formed}
use Rattle.model.specs.Machine.{Outcome, Begun, Usage, stepped, restart, write_image, positioned, refuses_use, ask_use}

-- ---- values

-- the bytes of a stored name
abbrev pub bytes_of : Name → List ℕ
bytes_of n = take n.len n.bytes

-- no name: where none is meant
abbrev pub empty_name : Name
empty_name = record { bytes = replicate name_limit 0; len = 0 }

abbrev pub system_of : StoredSystem → System
system_of s = record { kind = s.kind; name = bytes_of s.name; offset = s.offset; turns = s.turns; pred = s.pred }

abbrev pub systems_of : StoredMemory → List System
systems_of m = map system_of (take m.count m.systems)

abbrev pub memory_of : StoredMemory → Memory
memory_of m = record { systems = systems_of m; enabled = m.enabled }

abbrev pub state_of : StoredState → State
state_of s = record { volatile = memory_of s.volatile; permanent = memory_of s.permanent; position = s.position; level = s.level; error = s.error }

-- ---- shape: the count and the lengths lie within their arrays

abbrev pub name_shaped : StoredSystem → Bool
name_shaped s = leb s.name.len name_limit

unfoldable pub memory_shaped : StoredMemory → Bool
memory_shaped m = leb m.count max_systems && all name_shaped (take m.count m.systems)

unfoldable pub shaped : StoredState → Bool
shaped s = memory_shaped s.volatile && memory_shaped s.permanent

-- ---- shape, and well formed

-- a stored memory that stands for a well-formed one
pub record FineMemory (m : StoredMemory) : Type 0 where
  pub shape : memory_shaped m ≡ true
  pub formed : memory_fine (memory_of m) ≡ true

-- a stored state that stands for a well-formed one
pub record FineState (s : StoredState) : Type 0 where
  pub shape : shaped s ≡ true
  pub formed : well_formed (state_of s) ≡ true

-- ---- the calls over stored states

-- a stored state stands for a state of the machine, or, without shape, for itself alone
pub data View : Type 0 where
  shapeless : StoredState → View
  holds : State → View

unfoldable pub view_of : StoredState → View
view_of s = elim (shaped s) [ true ↦ holds (state_of s) | false ↦ shapeless s ]

-- what a call returns, over views
pub record Answered : Type 0 where
  pub state : View
  pub number : ℕ
  pub count : ℕ
  pub buffer : List ℕ

pub record Restarted : Type 0 where
  pub state : View
  pub number : ℕ

abbrev pub of_outcome : Outcome → Answered
of_outcome o = record { state = holds o.state; number = o.number; count = o.count; buffer = o.buffer }

abbrev pub of_begun : Begun → Restarted
of_begun o = record { state = holds o.state; number = o.number }

-- [Error 1] a state without shape comes back as it is, and so does the buffer
abbrev pub unaltered : StoredState → List ℕ → Answered
unaltered s b = record { state = shapeless s; number = 1; count = 0; buffer = b }

-- a command line
unfoldable pub line_answer : View → List ℕ → List ℕ → Answered
line_answer (shapeless s) line b = unaltered s b
line_answer (holds st) line b = of_outcome (stepped st line b)

-- the image of the permanent memory
unfoldable pub image_answer : View → List ℕ → Answered
image_answer (shapeless s) b = unaltered s b
image_answer (holds st) b = of_outcome (write_image st b)

-- a restart
unfoldable pub restart_answer : View → Restarted
restart_answer (shapeless s) = record { state = shapeless s; number = 1 }
restart_answer (holds st) = of_begun (restart st)

-- [02 §1] the position is told
unfoldable pub position_answer : View → Position → Restarted
position_answer (shapeless s) p = record { state = shapeless s; number = 1 }
position_answer (holds st) p = of_begun (positioned st p)

-- [02 §2] the question of use; it gives no state back
unfoldable pub use_answer : View → List ℕ → Usage
use_answer (shapeless s) n = refuses_use
use_answer (holds st) n = ask_use st n
