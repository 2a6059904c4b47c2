-- Histories over stored states: each stands for the machine's own history, so what holds of that holds of it.
use Prim.Native.Nat.{ℕ, ◌≤◌}
use mathlib.Core.Path.{◌≡◌, refl, sym, ap, ◌∙◌}
use mathlib.Core.List.{List, map}
use mathlib.Core.Bool.{true, not, ◌&&◌}
use lib.Dec.{eqb}
use lib.ListN.{length, take, drop}
use lib.Seq.{take-append_seam}
use Rattle.model.specs.Types.{StoredState, Position}
use Rattle.model.specs.Ascii.{ascii}
use Rattle.model.specs.Limits.{buffer_limit}
use Rattle.model.specs.Memory.{State}
use Rattle.model.specs.Request.{reading}
use Rattle.model.specs.Reply.{listing, every_system, resultant_line}
use Rattle.model.specs.Machine.{answered, stepped, restart, write_image, positioned}
use Rattle.model.specs.Trace.{Call, Input, called, after_calls, after_inputs}
use Rattle.model.specs.Demand.{Start, start_state, asks_to_enable, none_taken, steady, Replies}
use Rattle.model.specs.Stored.{holds, state_of, view_of, Answered, Restarted, of_outcome, of_begun, line_answer, image_answer, restart_answer, position_answer}
use Rattle.model.specs.Histories.{Returned, ReturnedAlone, stands_for, stands_alone, LinePromise, RestartPromise, WritePromise, Begins, at_factory, at_image, Calls, Inputs, steady_by, Stands, KltPrints, StoredDemand3, StoredChecklist, PositionPromise}
use Rattle.model.specs.Histories as stored
use Rattle.model.proofs.Histories.Demand3.{demand_3}
use Rattle.model.proofs.Histories.Checklist.{checklist}
use Rattle.model.proofs.Basics.{and_split, and_join}
use Rattle.model.proofs.Views.{view_is}

-- ---- views

stands : (s : StoredState) (st : State) → view_of s ≡ holds st → Stands s
stands s st e = e ∙ ap holds (sym (view_is s st e).1)

-- ---- one call

module _ (s : StoredState) (st : State) (h : view_of s ≡ holds st) where
  pub line_promised : (l b : List ℕ) (r : Returned) → LinePromise s l b r → stands_for r ≡ of_outcome (stepped st l b)
  unfolding line_answer
  line_promised l b r p = p ∙ rw h

  pub line_state : (l b : List ℕ) (r : Returned) → LinePromise s l b r → view_of r.state ≡ holds (stepped st l b).state
  line_state l b r p = ap (λ (a : Answered). a.state) (line_promised l b r p)

  pub line_number : (l b : List ℕ) (r : Returned) → LinePromise s l b r → r.number ≡ (stepped st l b).number
  line_number l b r p = ap (λ (a : Answered). a.number) (line_promised l b r p)

  pub restart_promised : (r : ReturnedAlone) → RestartPromise s r → stands_alone r ≡ of_begun (restart st)
  unfolding restart_answer
  restart_promised r p = p ∙ rw h

  pub restart_state : (r : ReturnedAlone) → RestartPromise s r → view_of r.state ≡ holds (restart st).state
  restart_state r p = ap (λ (a : Restarted). a.state) (restart_promised r p)

  pub position_promised : (p : Position) (r : ReturnedAlone) → PositionPromise s p r → stands_alone r ≡ of_begun (positioned st p)
  unfolding position_answer
  position_promised p r q = q ∙ rw h

  pub position_state : (p : Position) (r : ReturnedAlone) → PositionPromise s p r → view_of r.state ≡ holds (positioned st p).state
  position_state p r q = ap (λ (a : Restarted). a.state) (position_promised p r q)

  pub write_promised : (b : List ℕ) (r : Returned) → WritePromise s b r → stands_for r ≡ of_outcome (write_image st b)
  unfolding image_answer
  write_promised b r p = p ∙ rw h

-- ---- lists of calls

pub begins_held : {start : Start} {s : StoredState} → Begins start s → view_of s ≡ holds (start_state start)
unfolding start_state
begins_held (at_factory s e) = e
begins_held (at_image bytes m e r p) = ap (λ (a : Restarted). a.state) p

pub calls_held : {s s' : StoredState} {cs : List Call} (st : State) → view_of s ≡ holds st → Calls s cs s' → view_of s' ≡ holds (after_calls st cs)
unfolding after_calls called
calls_held st h (stored.none s) = h
calls_held st h (stored.then_line s s' l b r cs p rest) = calls_held (stepped st l b).state (line_state s st h l b r p) rest
calls_held st h (stored.then_moved s s' p r cs q rest) = calls_held (positioned st p).state (position_state s st h p r q) rest
calls_held st h (stored.then_restart s s' r cs p rest) = calls_held (restart st).state (restart_state s st h r p) rest

pub inputs_held : {s s' : StoredState} {cs : List Input} {ns : List ℕ} (st : State) → view_of s ≡ holds st → Inputs s cs ns s' → view_of s' ≡ holds (after_inputs st cs)
unfolding after_inputs
inputs_held st h (stored.none s) = h
inputs_held st h (stored.then_line s s' l b r cs ns p rest) = inputs_held (stepped st l b).state (line_state s st h l b r p) rest
inputs_held st h (stored.then_moved s s' p r cs ns q rest) = inputs_held (positioned st p).state (position_state s st h p r q) rest

-- what the lines returned is what the machine judges
pub inputs_steady : {s s' : StoredState} {cs : List Input} {ns : List ℕ} (st : State) → view_of s ≡ holds st → Inputs s cs ns s' → steady_by cs ns ≡ true → steady st cs ≡ true
unfolding none_taken steady_by
inputs_steady st h (stored.none s) e = refl
inputs_steady st h (stored.then_line s s' l b r cs ns p rest) e =
    let asks = asks_to_enable (reading l) in
    let n = line_number s st h l b r p in
    let a = and_split (not (eqb r.number 0 && asks)) (steady_by cs ns) e in
    and_join (ap (λ (k : ℕ). not (eqb k 0 && asks)) (sym n) ∙ a.0)
    (inputs_steady (stepped st l b).state (line_state s st h l b r p) rest a.1)
inputs_steady st h (stored.then_moved s s' p r cs ns q rest) e = inputs_steady (positioned st p).state (position_state s st h p r q) rest e

-- ---- a line that only the buffer can refuse

module _ (s : StoredState) (st : State) (h : view_of s ≡ holds st) (line text : List ℕ) (k : Replies st line text) where
  line_outcome : (b : List ℕ) (r : Returned) → LinePromise s line b r → buffer_limit ≤ length b → stands_for r ≡ of_outcome (answered st text b)
  line_outcome b r p room = line_promised s st h line b r p ∙ ap of_outcome (k.taken b room)

  pub line_taken : (b : List ℕ) (r : Returned) → LinePromise s line b r → buffer_limit ≤ length b → r.number ≡ 0
  line_taken b r p room = ap (λ (a : Answered). a.number) (line_outcome b r p room)

  pub line_text : (b : List ℕ) (r : Returned) → LinePromise s line b r → buffer_limit ≤ length b → take r.count r.buffer ≡ text
  line_text b r p room =
      ap (λ (a : Answered). take a.count a.buffer) (line_outcome b r p room) ∙ take-append_seam text (drop (length text) b)

-- KLT? sent next
klt_prints : (s : StoredState) (st : State) (h : view_of s ≡ holds st) (text : List ℕ) → Replies st (ascii "KLT?") text →
    text ≡ listing (map (resultant_line (state_of s).volatile.systems) (every_system (state_of s).volatile.systems)) → KltPrints s
klt_prints s st h text k e =
    record {
      short = λ b r p few. line_number s st h (ascii "KLT?") b r p ∙ k.short b few;
      taken = line_taken s st h (ascii "KLT?") text k;
      text = λ b r p room. line_text s st h (ascii "KLT?") text k b r p room ∙ e;
    }

-- ---- demand 3 and the checklist

-- the listing of KLT?
abbrev table : State → List ℕ
table st = listing (map (resultant_line st.volatile.systems) (every_system st.volatile.systems))

pub stored_demand_3 : StoredDemand3
stored_demand_3 start first second numbers s₀ s s' begun calls lines still =
    let st = after_calls (start_state start) first in
    let h = calls_held (start_state start) (begins_held begun) calls in
    let h' = inputs_held st h lines in
    let d = demand_3 start first second (inputs_steady st h lines still) in
    let e = (view_is s st h).1 in
    let e' = (view_is s' (after_inputs st second) h').1 in
    record {
      began = stands s st h;
      ended = stands s' (after_inputs st second) h';
      after = rw (e, e') d;
      prints = klt_prints s' (after_inputs st second) h' (table (after_inputs st second)) d.listed.shown (ap table (sym e'));
    }

pub stored_checklist : StoredChecklist
stored_checklist start calls s₀ s begun history =
    let h = calls_held (start_state start) (begins_held begun) history in
    (stands s _ h, rw (view_is s _ h).1 (checklist start calls))
