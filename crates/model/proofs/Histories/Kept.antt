-- Well-formedness is kept by every call, and so by every list of calls from either start.
use Prim.Native.Nat.{ℕ, ◌≤◌}
use mathlib.Core.Path.{◌≡◌, refl, sym, ◌∙◌}
use mathlib.Core.List.{List, [], ◌∷◌}
use mathlib.Core.Bool.{Bool, true, false, ◌||◌}
use mathlib.Core.Option.{Option, none, some}
use native.Mathlib.Omega.{arith}
use borrow.Author.Tests.{leb-true, not-false}
use lib.Dec.{eqb}
use Rattle.model.specs.Types.{Kind, Vec3, Turns, Ksf, Position}
use Rattle.model.specs.Lists.{any}
use Rattle.model.specs.Pose.{shown}
use Rattle.model.specs.Stage.{position_fine, spot}
use Rattle.model.specs.Memory.{Memory, State, factory, started, place_named, user_named, zero_position}
use Rattle.model.specs.Words.{legal_name, reserved}
use Rattle.model.specs.WellFormed.{memory_fine, well_formed}
use Rattle.model.specs.Request.{Change, Reading, reading, unknown, malformed, beyond, asks, change, list, last_error, define, link, copy, remove, enable, set_level, save, restore, reset, locate}
use Rattle.model.specs.Refusals.{of_line?, absent, change_ladder, request_ladder, reading_ladder}
use Rattle.model.specs.Effects.{with_volatile, with_error, with_name, put, fresh, linked, removed_at, changed, next, with_position, located}
use Rattle.model.specs.Image.{accepted}
use Rattle.model.specs.Machine.{carried_out, stepped, restart, start_image, positioned}
use Rattle.model.specs.Trace.{Call, Input, line, restarting, called, after_calls, after_inputs, moved, entering, entered}
use Rattle.model.specs.Demand.{Start, factory_start, image_start, start_state}
use Rattle.model.specs.Claims.{applies, LegalDefinition, WellFormedKept}
use Rattle.model.proofs.Basics.{and_split, or_false, or_right, true_false}
use Rattle.model.proofs.Open.{definitions_open}
use Rattle.model.proofs.Ladder.First.{Clear, clear_of}
use Rattle.model.proofs.Ladder.Refusing.{by_case, restart_fine, position_case}
use Rattle.model.proofs.Ladder.Exact.{start_none, start_some}
use Rattle.model.proofs.Image.Exactly.{accepted_exactly}
use Rattle.model.proofs.Memories.Fine.{Own, own_from, error_fine, Fine, FineState, fine_of, fine_from, state_of_lem, state_from}
use Rattle.model.proofs.Memories.Named.{present_user}
use Rattle.model.proofs.Poses.Showing.{shown_fine}
use Rattle.model.proofs.Ladder.Reading.{change_legal, definition_parts, legal, reading_legal}
use Rattle.model.proofs.Edits.Defining.{define_fine, link_fine, copy_fine}
use Rattle.model.proofs.Edits.Removing.{remove_fine}
use Rattle.model.proofs.Edits.Enabling.{enable_fine}

factory_fine : memory_fine factory ≡ true
unfolding definitions_open
factory_fine = refl

zero_fine : position_fine zero_position ≡ true
unfolding definitions_open
zero_fine = refl

pub started_fine : (m : Memory) → memory_fine m ≡ true → well_formed (started m) ≡ true
started_fine m f = state_from (started m) (record { volatile = f; permanent = f; level = omega arith; error = refl; position = zero_fine })

-- the condition of a rung that does not apply
rung : {c : Bool} (rest : Bool) → c || rest ≡ false → c ≡ false
rung {c} rest e = (or_false c rest e).0

-- ---- each change, under what its ladder has ruled out

module _ (st : State) (w : well_formed st ≡ true) where
  abbrev m : Memory
  m = st.volatile

  fine : Fine m
  fine = fine_of m (state_of_lem st w).volatile

  parts : FineState st
  parts = state_of_lem st w

  with_volatile_lem : (m' : Memory) → memory_fine m' ≡ true → well_formed (with_volatile st m') ≡ true
  with_volatile_lem m' f = state_from (with_volatile st m') (record { volatile = f; permanent = parts.permanent; level = parts.level; error = parts.error; position = parts.position })

  with_error_lem : (n : ℕ) → error_fine n ≡ true → well_formed (with_error st n) ≡ true
  with_error_lem n f = state_from (with_error st n) (record { volatile = parts.volatile; permanent = parts.permanent; level = parts.level; error = f; position = parts.position })

  with_position_lem : (p : Position) → position_fine p ≡ true → well_formed (with_position st p) ≡ true
  with_position_lem p f = state_from (with_position st p) (record { volatile = parts.volatile; permanent = parts.permanent; level = parts.level; error = parts.error; position = f })

  module _ (k : Kind) (n : List ℕ) (t : Vec3) (u : Turns) where
    define_kept : LegalDefinition k n t u → Clear (change_ladder st m (define k n t u)) → memory_fine (put m (fresh m k n t u)) ≡ true
    unfolding change_ladder applies any fresh
    define_kept lawful off =
        let own : Own (fresh m k n t u) =
        record { name = lawful.name; free = rung _ (off 8); offset = lawful.offsets; turns = lawful.turns; flat = lawful.flat } in
        fine_from _ (define_fine m fine k n t u (own_from (fresh m k n t u) own) (rung _ (off 10)) (rung _ (off 11)) (rung _ (off 13)))

  locate_kept : (n : List ℕ) → legal_name n ≡ true → Clear (change_ladder st m (locate n)) → memory_fine (put m (located m st.position n)) ≡ true
  unfolding change_ladder applies any located fresh
  locate_kept n lawful off =
      let here = spot m st.position in
      let made = fresh m Ksf n here.at (shown here.rot) in
      let own : Own made =
      record { name = lawful; free = rung _ (off 8); offset = not-false _ (rung _ (off 6)); turns = shown_fine here.rot; flat = refl } in
      fine_from _ (define_fine m fine Ksf n here.at (shown here.rot) (own_from made own) (rung _ (off 10)) (rung _ (off 11)) (rung _ (off 13)))

  link_kept : (a b : List ℕ) → Clear (change_ladder st m (link a b)) → memory_fine (linked m a b) ≡ true
  unfolding change_ladder applies any
  link_kept a b off =
      let user = present_user m a (rung (absent m b) (rung _ (off 7))) (rung _ (off 8)) in
      fine_from _ (link_fine m fine a b user (rung _ (off 10)) (rung _ (off 12)))

  copy_kept : (s d : List ℕ) → legal_name d ≡ true → Clear (change_ladder st m (copy s d)) → memory_fine (put m (with_name (user_named m s) d)) ≡ true
  unfolding change_ladder applies any
  copy_kept s d lawful off =
      let eight = or_false (reserved s) (reserved d) (rung _ (off 8)) in
      let user = present_user m s (rung _ (off 7)) eight.0 in
      fine_from _ (copy_fine m fine s d user lawful eight.1 (rung _ (off 10)) (rung _ (off 12)) (rung _ (off 13)))

  remove_kept : (a : List ℕ) → Clear (change_ladder st m (remove a)) → memory_fine (removed_at m (place_named m.systems a)) ≡ true
  unfolding change_ladder applies any
  remove_kept a off = fine_from _ (remove_fine m fine a (present_user m a (rung _ (off 7)) (rung _ (off 8))) (rung _ (off 11)))

  pub change_kept : (c : Change) → change_legal c ≡ true → Clear (change_ladder st m c) → well_formed (changed st m c) ≡ true
  unfolding changed change_legal
  change_kept (define k n t u) l off = with_volatile_lem _ (define_kept k n t u (definition_parts k n t u l) off)
  change_kept (locate n) l off = with_volatile_lem _ (locate_kept n l off)
  change_kept (link a b) l off = with_volatile_lem _ (link_kept a b off)
  change_kept (copy s d) l off = with_volatile_lem _ (copy_kept s d (and_split (legal_name s) (legal_name d) l).1 off)
  change_kept (remove a) l off = with_volatile_lem _ (remove_kept a off)
  change_kept (enable a) l off = with_volatile_lem _ (fine_from _ (enable_fine m fine st.level a))
  change_kept (set_level n) l off = state_from _ (record { volatile = parts.volatile; permanent = parts.permanent; level = leb-true n 1 l; error = parts.error; position = parts.position })
  change_kept save l off = state_from _ (record { volatile = parts.volatile; permanent = parts.volatile; level = parts.level; error = parts.error; position = parts.position })
  change_kept restore l off = with_volatile_lem _ parts.permanent
  change_kept reset l off = with_volatile_lem _ factory_fine

  -- ---- a line

  carried_kept : (r : Reading) → legal r ≡ true → Clear (reading_ladder st r) → (b : List ℕ) → well_formed (carried_out st r b).state ≡ true
  unfolding carried_out reading_ladder request_ladder next legal
  carried_kept unknown l off b = w
  carried_kept malformed l off b = w
  carried_kept beyond l off b = w
  carried_kept (asks (change c)) l off b = change_kept c l off
  carried_kept (asks (list q)) l off b = w
  carried_kept (asks last_error) l off b = with_error_lem 0 refl

  refused_kept : (n : ℕ) → 2 ≤ n → of_line? n ≡ true → well_formed (with_error st n) ≡ true
  refused_kept n low of-line = with_error_lem n (or_right (eqb n 0) (of_line? n) of-line)

  line_kept : (bytes b : List ℕ) → well_formed (stepped st bytes b).state ≡ true
  line_kept bytes b =
      by_case st bytes b (λ o. well_formed o.state ≡ true)
      (λ ill. true_false (sym w ∙ ill))
      refused_kept
      (λ f z. carried_kept (reading bytes) (reading_legal bytes) (clear_of st bytes b z) b)

  positioning_kept : (p : Position) → well_formed (positioned st p).state ≡ true
  positioning_kept p = position_case st p (λ o. well_formed o.state ≡ true) (λ ill. true_false (sym w ∙ ill)) w (λ g f. with_position_lem p f)

  input_kept : (i : Input) → well_formed (entered st i) ≡ true
  input_kept (line bytes b) = line_kept bytes b
  input_kept (moved p) = positioning_kept p

  restart_kept : well_formed (restart st).state ≡ true
  restart_kept = rw (restart_fine st w) (started_fine st.permanent parts.permanent)

-- ---- the starts

image_kept : (bytes : List ℕ) → well_formed (start_image bytes).state ≡ true
image_kept bytes = go (accepted bytes) refl
  where
    go : (o : Option Memory) → accepted bytes ≡ o → well_formed (start_image bytes).state ≡ true
    go none e = rw (start_none bytes e) (started_fine factory factory_fine)
    go (some m) e = rw (start_some bytes m e) (started_fine m ((accepted_exactly bytes m).0 e).0)

start_kept : (start : Start) → well_formed (start_state start) ≡ true
unfolding start_state
start_kept factory_start = started_fine factory factory_fine
start_kept (image_start bytes m e) = image_kept bytes

-- ---- lists of calls

calls_kept : (st : State) (cs : List Call) → well_formed st ≡ true → well_formed (after_calls st cs) ≡ true
unfolding after_calls called
calls_kept st [] w = w
calls_kept st (entering i ∷ cs) w = calls_kept (entered st i) cs (input_kept st w i)
calls_kept st (restarting ∷ cs) w = calls_kept (restart st).state cs (restart_kept st w)

inputs_kept : (st : State) (cs : List Input) → well_formed st ≡ true → well_formed (after_inputs st cs) ≡ true
unfolding after_inputs
inputs_kept st [] w = w
inputs_kept st (c ∷ cs) w = inputs_kept (entered st c) cs (input_kept st w c)

pub well_formed_kept : WellFormedKept
well_formed_kept =
    record {
      line = λ st bytes b w. line_kept st w bytes b;
      restarting = restart_kept;
      positioning = λ st p w. positioning_kept st w p;
      factory = started_fine _ factory_fine;
      image = image_kept;
      calls = calls_kept;
      inputs = inputs_kept;
      history = λ start first second. inputs_kept (after_calls (start_state start) first) second (calls_kept (start_state start) first (start_kept start));
    }
