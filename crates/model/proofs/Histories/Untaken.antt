-- What no position changes, and no line unless it asks for a certain thing and is accepted, a list of both without such a line leaves as it was.
use Prim.Native.Nat.{ℕ}
use mathlib.Core.Path.{◌≡◌, refl, ◌∙◌}
use mathlib.Core.List.{List, [], ◌∷◌}
use mathlib.Core.Bool.{Bool, true, false, not, ◌&&◌}
use borrow.Author.Tests.{not-true}
use lib.Dec.{eqb}
use Rattle.model.specs.Types.{Position}
use Rattle.model.specs.Memory.{State}
use Rattle.model.specs.WellFormed.{well_formed}
use Rattle.model.specs.Request.{Reading, reading}
use Rattle.model.specs.Refusals.{refusal}
use Rattle.model.specs.Effects.{with_error, with_position}
use Rattle.model.specs.Machine.{carried_out, stepped}
use Rattle.model.specs.Trace.{Input, after_inputs, line, moved, entered}
use Rattle.model.specs.Demand.{none_taken, taken}
use Rattle.model.proofs.Basics.{and_split}
use Rattle.model.proofs.Ladder.Refusing.{by_case, carried_number, position_case}

-- f is what stays, and p says of a reading that it asks for the thing
module _ {A : Type 0} (p : Reading → Bool) (f : State → A)
    (error : (st : State) (n : ℕ) → f (with_error st n) ≡ f st)
    (position : (st : State) (p : Position) → f (with_position st p) ≡ f st)
    (other : (st : State) (bytes b : List ℕ) → well_formed st ≡ true → refusal st bytes b ≡ 0 → p (reading bytes) ≡ false →
    f (carried_out st (reading bytes) b).state ≡ f st) where
  untaken_line : (st : State) (bytes b : List ℕ) → not (eqb (stepped st bytes b).number 0 && p (reading bytes)) ≡ true →
      f (stepped st bytes b).state ≡ f st
  untaken_line st bytes b =
      by_case st bytes b (λ o. not (eqb o.number 0 && p (reading bytes)) ≡ true → f o.state ≡ f st)
      (λ w e. refl)
      (λ n h h' e. error st n)
      (λ w z e. other st bytes b w z (not_asked e))
    where
      not_asked : not (eqb (carried_out st (reading bytes) b).number 0 && p (reading bytes)) ≡ true → p (reading bytes) ≡ false
      not_asked e = rw (carried_number st (reading bytes) b) at (not-true (eqb (carried_out st (reading bytes) b).number 0 && p (reading bytes)) e)

  untaken_input : (st : State) (c : Input) → not (taken p st c) ≡ true → f (entered st c) ≡ f st
  untaken_input st (line bytes b) e = untaken_line st bytes b e
  untaken_input st (moved q) e = position_case st q (λ o. f o.state ≡ f st) (λ w. refl) refl (λ w h. position st q)

  pub untaken_inputs : (st : State) (cs : List Input) → none_taken p st cs ≡ true → f (after_inputs st cs) ≡ f st
  unfolding none_taken after_inputs
  untaken_inputs st [] s = refl
  untaken_inputs st (c ∷ cs) s =
      let h = and_split (not (taken p st c)) _ s in
      untaken_inputs (entered st c) cs h.1 ∙ untaken_input st c h.0
