-- From what a call decided or a reply's writer left to the step that a line takes.
use Prim.Native.Nat.{ℕ}
use mathlib.Core.Path.{◌≡◌, refl, sym, ap, ◌∙◌}
use mathlib.Core.List.{List}
use mathlib.Core.Bool.{Bool, true, false, ◌&&◌}
use mathlib.Core.Logic.{◌⊎◌, inl, inr, ⊎_elim}
use lib.Dec.{eqb}
use Rattle.std.specs.Prelude.{Result, Ok, Err, IsErr, IsErrAnd}
use Rattle.std.specs.Result.{result_unwrap_or}
use Rattle.facts.specs.declared.refusals.Refusal.{Refusal}
use Rattle.facts.specs.Refusals.{number_of, outcome}
use Rattle.model.specs.declared.Memory.{Memory as StoredMemory}
use Rattle.model.specs.declared.State.{State as StoredState}
use Rattle.model.specs.Effects.{with_error}
use Rattle.model.specs.Memory.{Memory, State}
use Rattle.model.specs.Machine.{Outcome, answered, refused, stepped}
use Rattle.model.specs.Request.{Change, Query, asks, change, list}
use Rattle.model.specs.Refusals.{first, query_ladder}
use Rattle.model.specs.Reply.{listed}
use Rattle.model.specs.Checklist.{asks_to_save}
use Rattle.model.specs.Stored.{FineState, shaped, memory_of, state_of, of_outcome}
use Rattle.reply.specs.Lines.{Replied}
use Rattle.commands.specs.declared.changed.Deed.{Deed}
use Rattle.commands.specs.declared.changed.Deed.TheVariants.{Keep, SetError}
use Rattle.commands.specs.declared.subject.Looked.{Looked}
use Rattle.commands.specs.Obeyed.{obeyed}
use Rattle.commands.specs.declared.subject.Subject.{Subject}
use Rattle.commands.specs.Subject.{Tells, Sees}
use Rattle.commands.specs.Done.{done, done_by, saving, saving_by, settle, settles, Fits, Doable, outcome_of, Decides, Applied}
use Rattle.commands.proofs.LastError.{accepted_error}
use Rattle.commands.proofs.Settled.{not_zero, saving_settled, doable_settled}
use Rattle.engine.specs.declared.answer.Step.{Step}
use Rattle.engine.specs.Answers.{written_by, answered_of}
use Rattle.engine.specs.Taken.{deed_of, length_of, count_of, step_of, settled_by, outcome_by, taken_of, Takes}
use Rattle.engine.proofs.Steps.{obeyed_listed}
use Rattle.engine.proofs.Views.{answer_holds}

-- what was seen of a memory is so of any that is the same
pub seen_in : {v m : StoredMemory} {x y : List ℕ} {k : Looked} → v ≡ m → Sees m x y k → Sees v x y k
seen_in e t = rw e t

pub tells_in : {v m : StoredMemory} {x : List ℕ} {a : Subject} → v ≡ m → Tells (memory_of m) x a → Tells (memory_of v) x a
tells_in e t = rw e t

-- the same outcome, told in another way
pub retold : {s : StoredState} {w : Bool} {o p : Outcome} {r : Result Step Refusal} {b : List ℕ} → p ≡ o → Takes s w o r b → Takes s w p r b
retold e t = rw e t

-- the same line, read in another way
pub asked_as : {s : StoredState} {v w : Bool} {o : Outcome} {r : Result Step Refusal} {b : List ℕ} → v ≡ w → Takes s w o r b → Takes s v o r b
asked_as e t = rw e t

-- ---- a refusal, and a change

-- what `?` hands on
pub handed_on : {why : Refusal} {r : Result Step Refusal} → IsErr r × IsErrAnd r (λ e. e ≡ why) → r ≡ Err why
handed_on {r = Ok x} p = absurd p.1
handed_on {r = Err e} p = ap (λ (v : Refusal). Err v) p.1

-- a refusal is a step taken
pub refusal_taken : (s : StoredState) (w : Bool) (why : Refusal) (b : List ℕ) {o : Outcome} → o ≡ refused (with_error (state_of s) (number_of why)) (number_of why) b
    → Takes s w o (Err why) b
refusal_taken s w why b is = retold is (record { outcome = refl; doable = record { fits = tt }; saves = rw (not_zero why) refl })

-- a deed without a reply, by what it does
deed_step : (n : ℕ) (d : Result Deed Refusal) → deed_of (step_of n d) ≡ d
deed_step n (Ok x) = refl
deed_step n (Err why) = refl

step_outcome : (st : State) (d : Result Deed Refusal) (b : List ℕ) → outcome_by st (step_of 0 d) b ≡ record { state = done_by d st; number = outcome d; count = 0; buffer = b }
step_outcome st (Ok x) b = refl
step_outcome st (Err why) b = refl

silent_outcome : (st : State) (d : Result Deed Refusal) (b : List ℕ) → taken_of st (step_of 0 d) b ≡ outcome_of d st 0 b
silent_outcome st (Ok x) b = step_outcome st (settle st.permanent x) b
silent_outcome st (Err why) b = refl

-- a decided change is a step taken
pub change_taken : {s : StoredState} {c : Change} {d : Result Deed Refusal} {r : Result Step Refusal} (b : List ℕ) → Decides s c d → r ≡ step_of 0 d
    → Takes s (asks_to_save (asks (change c))) (obeyed (state_of s) (asks (change c)) b) r b
change_taken {s} {c} {d} b p e =
    rw e (record {
      outcome = silent_outcome (state_of s) d b ∙ p.outcome b;
      doable = rw (deed_step 0 d) p.doable;
      saves = rw (deed_step 0 d) (p.saves ∙ ap (λ (o : Outcome). eqb o.number 0 && asks_to_save (asks (change c))) (p.outcome b));
    })

-- ---- a reply that was written is a step taken

module _ (s : StoredState) (k : ℕ) (text b c : List ℕ) (written : Replied text b c k) where
  replies : (st : State) → answered st text b ≡ record { state = st; number = 0; count = k; buffer = c }
  replies st = rw (written.count_is, written.bytes) refl

  -- the state stays
  pub reply_taken : {o : Outcome} → o ≡ answered (state_of s) text b → Takes s false o (Ok (record { deed = Keep; length = k })) c
  unfolding done saving settle Fits
  reply_taken is = retold (is ∙ replies (state_of s)) (record { outcome = refl; doable = record { fits = tt }; saves = refl })

  -- the last error is then 0
  pub cleared_taken : {o : Outcome} → o ≡ answered (with_error (state_of s) 0) text b → Takes s false o (Ok (record { deed = SetError 0; length = k })) c
  unfolding done saving settle Fits
  cleared_taken is = retold (is ∙ replies (with_error (state_of s) 0)) (record { outcome = refl; doable = record { fits = tt }; saves = refl })

-- and no step of a line sets another last error than 0, or what it was
pub taken_error : {s : StoredState} {asked : Bool} (line b : List ℕ) {c : List ℕ} {n k : ℕ} → FineState s →
    Takes s asked (stepped (state_of s) line b) (Ok (record { deed = SetError n; length = k })) c → (n ≡ s.error) ⊎ (n ≡ 0)
unfolding done settle
taken_error {s} line b fine t =
    let e = ap (λ (o : Outcome). o.state.error) t.outcome in
    ⊎_elim (λ same. inl (e ∙ same)) (λ cleared. inr (e ∙ cleared)) (accepted_error (state_of s) line b fine.formed (sym (ap (λ (o : Outcome). o.number) t.outcome)))

-- a listing of the volatile memory m
pub list_taken : (s : StoredState) (m : StoredMemory) → s.volatile ≡ m → (q : Query) → first (query_ladder (memory_of m) q) ≡ 0 →
    (r : Step) (k : ℕ) (b c : List ℕ) → Replied (listed (memory_of m) q) b c k → r ≡ record { deed = Keep; length = k } →
    Takes s false (obeyed (state_of s) (asks (list q)) b) (Ok r) c
list_taken s m e q z r k b c p is =
    let st = state_of s in
    let n : first (query_ladder st.volatile q) ≡ 0 = ap (λ (v : StoredMemory). first (query_ladder (memory_of v) q)) e ∙ z in
    rw is (reply_taken s k (listed (memory_of m) q) b c p (obeyed_listed st b q n ∙ ap (λ (v : StoredMemory). answered st (listed (memory_of v) q) b) e))

-- ---- once the permanent memory has been looked at

module _ (p : Memory) where
  deed_settled : (r : Result Step Refusal) → deed_of (settled_by p r) ≡ settles p (deed_of r)
  deed_settled (Ok r) = deed_step r.length (settle p r.deed)
  deed_settled (Err why) = refl

  -- it can still be carried out
  pub can_settled : {m : StoredMemory} (r : Result Step Refusal) → Doable m (deed_of r) → Doable m (deed_of (settled_by p r))
  can_settled r can = rw (deed_settled r) (doable_settled p can)

  -- and saves where it did
  pub saves_settled : (r : Result Step Refusal) → saving_by (deed_of (settled_by p r)) ≡ saving_by (deed_of r)
  saves_settled r = rw (deed_settled r) (saving_settled p (deed_of r))

-- how much is written
length_number : (r : Result Step Refusal) → outcome (length_of r) ≡ outcome r
length_number (Ok r) = refl
length_number (Err why) = refl

-- a step taken, settled, and carried out on the whole state: an answer
pub taken_answers : {s : StoredState} {w : Bool} {o : Outcome} {r : Result Step Refusal} {b : List ℕ} (t : StoredState) →
    Takes s w o r b → let d = settled_by (memory_of s.permanent) r in Applied s (deed_of d) t → shaped s ≡ true →
    answered_of (record { state = t; outcome = length_of d }) b ≡ of_outcome o
taken_answers {s} {w} {o} {r} {b} t taken applied shape =
    let d = settled_by (memory_of s.permanent) r in
    answer_holds (record { state = t; outcome = length_of d }) b (applied.shape shape)
    ∙ (λ i. of_outcome (record { state = applied.state i; number = length_number d i; count = count_of d; buffer = b }))
    ∙ ap of_outcome taken.outcome

-- how much was written, by std's word: of a refusal, no byte
pub written_is : (r : Result ℕ Refusal) → result_unwrap_or r 0 ≡ written_by r
written_is (Ok n) = refl
written_is (Err why) = refl
