-- What is decided of a change, and what becomes of a state.
use Rattle.std.specs.Prelude.{◌≤◌, ◌<◌, ◌≡◌, length, ◌&&◌, Result, Ok, Err}
use Rattle.model.specs.Base.{ℕ, List, Bool, true, false, cond, eqb}
use Rattle.model.specs.declared.Memory.{Memory as StoredMemory}
use Rattle.model.specs.declared.State.{State as StoredState}
use Rattle.model.specs.Limits.{max_systems}
use Rattle.model.specs.Memory.{Memory, State, factory}
use Rattle.model.specs.Use.{name_in_use}
use Rattle.model.specs.Request.{Change, asks, change}
use Rattle.model.specs.Checklist.{asks_to_save}
use Rattle.model.specs.Machine.{Outcome}
use Rattle.model.specs.Effects.{with_volatile, with_error, removed_at}
use Rattle.model.specs.Stored.{system_of, systems_of, memory_of, state_of, name_shaped, shaped}
use Rattle.facts.specs.declared.refusals.Refusal.{Refusal}
use Rattle.facts.specs.declared.refusals.Refusal.TheVariants.{Needed}
use Rattle.facts.specs.Refusals.{number_of, outcome}
use Rattle.memory.specs.Put.{put_at, holding}
use Rattle.commands.specs.declared.changed.Deed.{Deed}
use Rattle.commands.specs.declared.changed.Deed.TheVariants.{Keep, SetError, Put, Remove, Enable, SetLevel, Save, Restore, Reset}
use Rattle.commands.specs.Obeyed.{obeyed}

-- ---- what an accepted line does

-- [Commands] the state once it is done
unfoldable pub done : Deed → State → State
done Keep st = st
done (SetError n) st = with_error st n
done (Put k x) st = with_volatile st (put_at st.volatile k (system_of x))
done (Remove k x) st = with_volatile st (removed_at st.volatile k)
done (Enable e) st = with_volatile st (holding st.volatile.systems e)
done (SetLevel n) st = record { volatile = st.volatile; permanent = st.permanent; position = st.position; level = n; error = st.error }
done Save st = record { volatile = st.volatile; permanent = st.volatile; position = st.position; level = st.level; error = st.error }
done Restore st = with_volatile st st.permanent
done Reset st = with_volatile st factory

-- it puts the volatile memory in the permanent one's place
unfoldable pub saving : Deed → Bool
saving Save = true
saving d = false

-- [02 §9] where p is the permanent memory: a removal is refused where p has its name in use
unfoldable pub settle : Memory → Deed → Result Deed Refusal
settle p (Remove k x) = cond (name_in_use p (system_of x).name) (Err Needed) (Ok (Remove k x))
settle p d = Ok d

-- [Memory 1] its place is one of the stored memory's, or a free one, and the system that it puts there or takes away has shape
unfoldable pub Fits : Deed → StoredMemory → Type 0
Fits (Put k x) m = (k ≤ max_systems) × (k ≡ 0 → m.count < max_systems) × (name_shaped x ≡ true)
Fits (Remove k x) m = (0 < k) × (k ≤ length (systems_of m)) × (name_shaped x ≡ true)
Fits d m = Unit {0}

-- ---- what is decided of a line: what it does, or why it is refused

-- [Errors, end] the state once it is done; a refusal sets the last error
abbrev pub done_by : Result Deed Refusal → State → State
done_by (Ok d) st = done d st
done_by (Err why) st = with_error st (number_of why)

-- [02 §9] where p is the permanent memory
abbrev pub settles : Memory → Result Deed Refusal → Result Deed Refusal
settles p (Ok d) = settle p d
settles p (Err why) = Err why

-- [02 §9] its number where p is the permanent memory
abbrev pub number_in : Result Deed Refusal → Memory → ℕ
number_in r p = outcome (settles p r)

-- it saves
abbrev pub saving_by : Result Deed Refusal → Bool
saving_by (Ok d) = saving d
saving_by (Err why) = false

-- [Memory 1] what it does fits
abbrev pub FitsBy : Result Deed Refusal → StoredMemory → Type 0
FitsBy (Ok d) m = Fits d m
FitsBy (Err why) m = Unit {0}

-- a decision that can be carried out on the stored memory m
pub record Doable (m : StoredMemory) (r : Result Deed Refusal) : Type 0 where
  pub fits : FitsBy r m

-- the stored state t is s once the decision is carried out; it has shape where s has
pub record Applied (s : StoredState) (r : Result Deed Refusal) (t : StoredState) : Type 0 where
  pub state : state_of t ≡ done_by r (state_of s)
  pub shape : shaped s ≡ true → shaped t ≡ true

-- [Errors, end; 02 §9] the outcome of a decision in a state, with so many bytes written and the lent buffer as it is then
abbrev pub outcome_of : Result Deed Refusal → State → ℕ → List ℕ → Outcome
outcome_of r st count b = record { state = done_by (settles st.permanent r) st; number = number_in r st.permanent; count = count; buffer = b }

-- the decision is the document's of the change c in the stored state s, which has no reply, and can be carried out
pub record Decides (s : StoredState) (c : Change) (r : Result Deed Refusal) : Type 0 where
  pub outcome : (b : List ℕ) → outcome_of r (state_of s) 0 b ≡ obeyed (state_of s) (asks (change c)) b
  pub doable : Doable s.volatile r
  -- it saves where the change is an accepted WPA, and nowhere else
  pub saves : saving_by r ≡ eqb (number_in r (memory_of s.permanent)) 0 && asks_to_save (asks (change c))
