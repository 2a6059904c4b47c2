-- A session that begins in a state that the machine's start gave.
use Prim.Native.Nat.{ℕ}
use mathlib.Core.Path.{◌≡◌, refl, sym, ap, ◌∙◌}
use mathlib.Core.List.{List, []}
use mathlib.Core.Bool.{true}
use Rattle.std.proofs.Common.{Ok, Err}
use Rattle.std.specs.Prelude.{Result}
use Rattle.std.proofs.Math.Option.{some}
use Rattle.facts.specs.declared.refusals.Refusal.{Refusal}
use Rattle.facts.specs.Refusals.{outcome}
use Rattle.model.specs.declared.State.{State as StoredState}
use Rattle.model.specs.Memory.{State}
use Rattle.model.specs.Machine.{start_image}
use Rattle.model.specs.Bench.{powered_on}
use Rattle.model.specs.WellFormed.{well_formed}
use Rattle.model.specs.Stored.{FineState, view_of, holds}
use Rattle.model.specs.Tally.{empty_tally}
use Rattle.model.proofs.Views.{view_is}
use Rattle.tally.specs.Counts.{tally_of}
use Rattle.lines.specs.Feed.{holding}
use Rattle.session.specs.Blocks.{held_of}
use Rattle.session.specs.declared.feed.Session.{Session}
use Rattle.bench.specs.Start.{StartsWith}

module _ (s : StoredState) (st : State) (view : view_of s ≡ holds st) (r : Session) (begins : (r.state ≡ s) × (tally_of r.tally ≡ empty_tally) × (r.held.count ≡ 0)) where
  pub begun_held : held_of r ≡ holding st []
  begun_held = rw (begins.0, begins.2, (view_is s st view).1) refl

  pub begun_fine : well_formed st ≡ true → FineState r.state
  begun_fine w =
      let v = view_is s st view in
      record { shape = rw begins.0 v.0; formed = rw (begins.0, v.1) w }

-- a start from bytes: refused, or not
module _ (bytes : List ℕ) (r : Result (Unit {0}) Refusal) (told : outcome r ≡ (start_image bytes).number) where
  pub no_session : (why : Refusal) → r ≡ Err why → StartsWith (some bytes) (Err why)
  unfolding powered_on
  no_session why e = record { number = ap outcome (sym e) ∙ told; held = tt; fine = tt }

  pub some_session : (s : Session) → r ≡ Ok tt → held_of s ≡ holding (start_image bytes).state [] → FineState s.state → StartsWith (some bytes) (Ok s)
  unfolding powered_on
  some_session s e held fine = record { number = ap outcome (sym e) ∙ told; held = held; fine = fine }
