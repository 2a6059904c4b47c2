-- Document 02 §1: what becomes of the platform's position along the calls: `position_kept`.
use Prim.Native.Nat.{ℕ}
use mathlib.Core.Path.{◌≡◌, refl, ap, ◌∙◌}
use mathlib.Core.List.{List, [], ◌∷◌}
use mathlib.Core.Bool.{true, cond}
use mathlib.Core.Option.{Option, none, some}
use mathlib.Core.Logic.{⊎_elim}
use Rattle.model.specs.Types.{Position}
use Rattle.model.specs.Memory.{Memory, State, zero_position}
use Rattle.model.specs.Stage.{position_fine}
use Rattle.model.specs.WellFormed.{well_formed}
use Rattle.model.specs.Request.{Reading, reading, unknown, malformed, beyond, asks, change, list, last_error, define, locate, link, copy, remove, enable, set_level, save, restore, reset}
use Rattle.model.specs.Refusals.{short}
use Rattle.model.specs.Effects.{changed, next, with_position}
use Rattle.model.specs.Image.{accepted}
use Rattle.model.specs.Machine.{Begun, carried_out, stepped, restart, start_image, positioned}
use Rattle.model.specs.Trace.{Call, line, moved, entering, restarting, called, after_calls, after_inputs}
use Rattle.model.specs.Demand.{Start, factory_start, image_start, start_state}
use Rattle.model.specs.StageClaims.{stands_after, WritesAlike, PositionKept}
use Rattle.model.proofs.Basics.{either}
use Rattle.model.proofs.Ladder.Refusing.{by_case, restart_fine, image_short, image_fine, position_taken, position_beyond, position_case}
use Rattle.model.proofs.Ladder.Exact.{start_none, start_some}
use Rattle.model.proofs.Histories.Kept.{well_formed_kept}

carried_position : (st : State) (r : Reading) (b : List ℕ) → (carried_out st r b).state.position ≡ st.position
unfolding carried_out next changed
carried_position st unknown b = refl
carried_position st malformed b = refl
carried_position st beyond b = refl
carried_position st (asks (change (define k n t u))) b = refl
carried_position st (asks (change (locate n))) b = refl
carried_position st (asks (change (link x y))) b = refl
carried_position st (asks (change (copy s d))) b = refl
carried_position st (asks (change (remove n))) b = refl
carried_position st (asks (change (enable n))) b = refl
carried_position st (asks (change (set_level n))) b = refl
carried_position st (asks (change save)) b = refl
carried_position st (asks (change restore)) b = refl
carried_position st (asks (change reset)) b = refl
carried_position st (asks (list q)) b = refl
carried_position st (asks last_error) b = refl

line_position : (st : State) (bytes b : List ℕ) → (stepped st bytes b).state.position ≡ st.position
line_position st bytes b =
    by_case st bytes b (λ o. o.state.position ≡ st.position) (λ w. refl) (λ n h h'. refl) (λ w z. carried_position st (reading bytes) b)

image_position : (bytes : List ℕ) → (start_image bytes).state.position ≡ zero_position
image_position bytes = go (accepted bytes) refl
  where
    go : (o : Option Memory) → accepted bytes ≡ o → (start_image bytes).state.position ≡ zero_position
    go none e = ap (λ (o : Begun). o.state.position) (start_none bytes e)
    go (some m) e = ap (λ (o : Begun). o.state.position) (start_some bytes m e)

start_position : (start : Start) → (start_state start).position ≡ zero_position
unfolding start_state
start_position factory_start = refl
start_position (image_start bytes m e) = image_position bytes

-- where it stands once it has been told
told_position : (st : State) → well_formed st ≡ true → (p : Position) → (positioned st p).state.position ≡ cond (position_fine p) p st.position
told_position st w p =
    ⊎_elim
    (λ f. ap (λ (o : Begun). o.state.position) (position_taken st p w f) ∙ rw f)
    (λ f. ap (λ (o : Begun). o.state.position) (position_beyond st p w f) ∙ rw f)
    (either (position_fine p))

calls_position : (st : State) → well_formed st ≡ true → (p : Position) → st.position ≡ p → (cs : List Call) → (after_calls st cs).position ≡ stands_after p cs
unfolding after_calls called stands_after
calls_position st w p e [] = e
calls_position st w p e (entering (line bytes b) ∷ cs) =
    calls_position (stepped st bytes b).state (well_formed_kept.line st bytes b w) p (line_position st bytes b ∙ e) cs
calls_position st w p e (entering (moved q) ∷ cs) =
    calls_position (positioned st q).state (well_formed_kept.positioning st q w) (cond (position_fine q) q p)
    (told_position st w q ∙ ap (cond (position_fine q) q) e) cs
calls_position st w p e (restarting ∷ cs) =
    calls_position (restart st).state (well_formed_kept.restarting st w) zero_position (ap (λ (o : Begun). o.state.position) (restart_fine st w)) cs

-- what is written of a state does not hang on its position
unsaved : (st : State) (p : Position) (b : List ℕ) → WritesAlike b (positioned st p).state st
unsaved st p b =
    position_case st p (λ o. o.state ≡ (positioned st p).state → WritesAlike b o.state st)
    (λ ill e. (refl, refl, refl)) (λ e. (refl, refl, refl))
    (λ w f e. alike w (rw (← e) at (well_formed_kept.positioning st p w)))
    refl
  where
    alike : well_formed st ≡ true → well_formed (with_position st p) ≡ true → WritesAlike b (with_position st p) st
    alike w g =
        ⊎_elim
        (λ s. rw (image_short (with_position st p) b g s, image_short st b w s) (refl, refl, refl))
        (λ s. rw (image_fine (with_position st p) b g s, image_fine st b w s) (refl, refl, refl))
        (either (short b))

pub position_kept : PositionKept
unfolding after_calls after_inputs
position_kept =
    record {
      lines = line_position;
      starts = start_position;
      images = image_position;
      calls = λ start cs. calls_position (start_state start) (well_formed_kept.history start [] []) zero_position (start_position start) cs;
      unsaved = unsaved;
    }
