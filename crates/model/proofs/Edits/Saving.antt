-- The permanent memory is set by an accepted WPA, and by nothing else: by no other line, no refusal, no position and no restart.
use Prim.Native.Nat.{ℕ}
use mathlib.Core.Path.{◌≡◌, refl, ap}
use mathlib.Core.List.{List}
use mathlib.Core.Bool.{cond, ◌&&◌}
use mathlib.Core.Logic.{⊎_elim}
use native.Mathlib.Omega.{arith}
use borrow.Author.Tests.{ne_eqb}
use lib.Dec.{eqb}
use Rattle.model.specs.Types.{Position}
use Rattle.model.specs.Memory.{State}
use Rattle.model.specs.WellFormed.{well_formed}
use Rattle.model.specs.Request.{Reading, reading, unknown, malformed, beyond, asks, change, list, last_error, define, link, copy, remove, enable, set_level, save, restore, reset, locate}
use Rattle.model.specs.Effects.{changed, next}
use Rattle.model.specs.Machine.{Begun, carried_out, stepped, restart, positioned}
use Rattle.model.specs.Checklist.{asks_to_save}
use Rattle.model.proofs.Basics.{either}
use Rattle.model.proofs.Ladder.Refusing.{by_case, carried_number, restart_ill, restart_fine, position_case}

-- what is carried out
pub permanent_read : (st : State) (r : Reading) (b : List ℕ) → (carried_out st r b).state.permanent ≡ cond (asks_to_save r) st.volatile st.permanent
unfolding carried_out asks_to_save next changed
permanent_read st unknown b = refl
permanent_read st malformed b = refl
permanent_read st beyond b = refl
permanent_read st (asks (change (define k n t u))) b = refl
permanent_read st (asks (change (locate n))) b = refl
permanent_read st (asks (change (link n d))) b = refl
permanent_read st (asks (change (copy s d))) b = refl
permanent_read st (asks (change (remove n))) b = refl
permanent_read st (asks (change (enable n))) b = refl
permanent_read st (asks (change (set_level n))) b = refl
permanent_read st (asks (change save)) b = refl
permanent_read st (asks (change restore)) b = refl
permanent_read st (asks (change reset)) b = refl
permanent_read st (asks (list q)) b = refl
permanent_read st (asks last_error) b = refl

-- after a line
pub line_permanent : (st : State) (line b : List ℕ) →
    (stepped st line b).state.permanent ≡ cond (eqb (stepped st line b).number 0 && asks_to_save (reading line)) st.volatile st.permanent
line_permanent st line b =
    by_case st line b (λ o. o.state.permanent ≡ cond (eqb o.number 0 && asks_to_save (reading line)) st.volatile st.permanent)
    (λ w. refl)
    (λ n h h'. rw (ne_eqb n 0 (omega arith)))
    (λ w z. rw (carried_number st (reading line) b) (permanent_read st (reading line) b))

-- after a position
pub position_permanent : (st : State) (p : Position) → (positioned st p).state.permanent ≡ st.permanent
position_permanent st p = position_case st p (λ o. o.state.permanent ≡ st.permanent) (λ w. refl) refl (λ w f. refl)

-- after a restart
pub restart_permanent : (st : State) → (restart st).state.permanent ≡ st.permanent
restart_permanent st =
    ⊎_elim (λ w. ap (λ (o : Begun). o.state.permanent) (restart_fine st w)) (λ w. ap (λ (o : Begun). o.state.permanent) (restart_ill st w)) (either (well_formed st))
