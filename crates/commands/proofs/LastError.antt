-- The last error behind an accepted line: as it was, or 0 behind ERR?. So a deed that sets it clears it, or sets what it was.
use Prim.Native.Nat.{ℕ}
use mathlib.Core.Path.{◌≡◌, refl, sym, ap, ◌∙◌}
use mathlib.Core.Bool.{true}
use mathlib.Core.List.{List, []}
use mathlib.Core.Logic.{◌⊎◌, inl, inr}
use borrow.Author.Tests.{eq-eqb}
use Rattle.std.specs.Prelude.{Ok}
use Rattle.model.specs.declared.State.{State as StoredState}
use Rattle.model.specs.Memory.{Memory, State}
use Rattle.model.specs.Request.{Change, Reading, reading, unknown, malformed, beyond, asks, change, list, last_error, define, locate, link, copy, remove, enable, set_level, save, restore, reset}
use Rattle.model.specs.Refusals.{first, reading_ladder}
use Rattle.model.specs.Effects.{changed, next}
use Rattle.model.specs.Machine.{Outcome, carried_out, stepped}
use Rattle.model.specs.WellFormed.{well_formed}
use Rattle.model.specs.Stored.{state_of}
use Rattle.model.proofs.Ladder.Refusing.{judged_number, judged_taken, step_number, step_taken}
use Rattle.commands.specs.Obeyed.{obeyed}
use Rattle.commands.specs.declared.changed.Deed.TheVariants.{SetError}
use Rattle.commands.specs.Done.{done, settle, Decides}

changed_error : (st : State) (m : Memory) (c : Change) → (changed st m c).error ≡ st.error
unfolding changed
changed_error st m (define k n t u) = refl
changed_error st m (locate n) = refl
changed_error st m (link a b) = refl
changed_error st m (copy a b) = refl
changed_error st m (remove a) = refl
changed_error st m (enable a) = refl
changed_error st m (set_level n) = refl
changed_error st m save = refl
changed_error st m restore = refl
changed_error st m reset = refl

carried_error : (st : State) (r : Reading) (b : List ℕ) → ((carried_out st r b).state.error ≡ st.error) ⊎ ((carried_out st r b).state.error ≡ 0)
unfolding carried_out next
carried_error st unknown b = inl refl
carried_error st malformed b = inl refl
carried_error st beyond b = inl refl
carried_error st (asks (change c)) b = inl (changed_error st st.volatile c)
carried_error st (asks (list q)) b = inl refl
carried_error st (asks last_error) b = inr refl

pub accepted_error : (st : State) (line b : List ℕ) → well_formed st ≡ true → (stepped st line b).number ≡ 0 →
    ((stepped st line b).state.error ≡ st.error) ⊎ ((stepped st line b).state.error ≡ 0)
accepted_error st line b w z = rw (step_taken st w line b (reading line) refl (sym (step_number st line b w) ∙ z)) (carried_error st (reading line) b)

change_leaves_error : (st : State) (c : Change) (b : List ℕ) → (obeyed st (asks (change c)) b).number ≡ 0 → (obeyed st (asks (change c)) b).state.error ≡ st.error
unfolding obeyed carried_out next
change_leaves_error st c b z =
    let n = first (reading_ladder st (asks (change c))) in
    let e : n ≡ 0 = sym (judged_number st n (asks (change c)) b) ∙ z in
    ap (λ (o : Outcome). o.state.error) (judged_taken st n (asks (change c)) b (eq-eqb n 0 e)) ∙ changed_error st st.volatile c

-- what is decided of a change sets no other last error
pub decided_error : {s : StoredState} {c : Change} {n : ℕ} → Decides s c (Ok (SetError n)) → n ≡ s.error
unfolding done settle
decided_error {s} {c} d =
    ap (λ (o : Outcome). o.state.error) (d.outcome []) ∙ change_leaves_error (state_of s) c [] (sym (ap (λ (o : Outcome). o.number) (d.outcome [])))
