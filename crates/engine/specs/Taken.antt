-- What a step stands for: the outcome that it makes of a state, that it can be carried out there, and whether it saves.
use Rattle.std.specs.Prelude.{ℕ, ◌≡◌, List, Bool, ◌&&◌, eqb, Result, Ok, Err}
use Rattle.facts.specs.declared.refusals.Refusal.{Refusal}
use Rattle.facts.specs.Refusals.{outcome}
use Rattle.model.specs.declared.State.{State as StoredState}
use Rattle.model.specs.Memory.{Memory, State}
use Rattle.model.specs.Machine.{Outcome}
use Rattle.model.specs.Stored.{state_of}
use Rattle.commands.specs.declared.changed.Deed.{Deed}
use Rattle.commands.specs.Done.{settle, done_by, saving_by, Doable}
use Rattle.engine.specs.declared.answer.Step.{Step}
use Rattle.engine.specs.Answers.{written_by}

-- what is done, or why nothing is
abbrev pub deed_of : Result Step Refusal → Result Deed Refusal
deed_of (Ok r) = Ok r.deed
deed_of (Err why) = Err why

-- how much was written, or why nothing was
abbrev pub length_of : Result Step Refusal → Result ℕ Refusal
length_of (Ok r) = Ok r.length
length_of (Err why) = Err why

-- how many bytes of the lent buffer were written; a refusal writes none
abbrev pub count_of : Result Step Refusal → ℕ
count_of r = written_by (length_of r)

-- a deed, with so many bytes written, however a refusal is told
abbrev pub step_of : {E : Type 0} → ℕ → Result Deed E → Result Step E
step_of n (Ok d) = Ok (record { deed = d; length = n })
step_of n (Err why) = Err why

-- [02 §9] the step where p is the permanent memory: a removal is refused where p has the name in use
abbrev pub settled_by : Memory → Result Step Refusal → Result Step Refusal
settled_by p (Ok r) = step_of r.length (settle p r.deed)
settled_by p (Err why) = Err why

-- the outcome of a settled step, with the lent buffer that it left
abbrev pub outcome_by : State → Result Step Refusal → List ℕ → Outcome
outcome_by st r b = record { state = done_by (deed_of r) st; number = outcome r; count = count_of r; buffer = b }

-- the outcome of a step
abbrev pub taken_of : State → Result Step Refusal → List ℕ → Outcome
taken_of st r b = outcome_by st (settled_by st.permanent r) b

-- the step is this outcome's in the stored state s; asked says that the line asks to save
pub record Takes (s : StoredState) (asked : Bool) (o : Outcome) (r : Result Step Refusal) (b : List ℕ) : Type 0 where
  pub outcome : taken_of (state_of s) r b ≡ o
  pub doable : Doable s.volatile (deed_of r)
  pub saves : saving_by (deed_of r) ≡ eqb o.number 0 && asked
