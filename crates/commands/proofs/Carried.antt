-- What is decided of a change, by its number, and what a ladder that was passed says of the places.
use Prim.Native.Nat.{ℕ, ◌<◌, ◌≤◌}
use mathlib.Core.Path.{◌≡◌, refl, sym, ap, ◌∙◌}
use mathlib.Core.Bool.{true, false, cond, ◌||◌}
use mathlib.Core.Logic.{⊎_elim}
use mathlib.Core.List.{List, [], ◌∷◌}
use native.Mathlib.Omega.{arith}
use borrow.Author.Tests.{eq-eqb, ne_eqb, eqb-false, leb-false}
use lib.Dec.{eqb}
use lib.ListN.{length, drop}
use Rattle.std.specs.Prelude.{Result, Ok, Err, IsErrAnd}
use Rattle.std.proofs.lemmas.Result.{err_from_is_err_and}
use Rattle.model.specs.Limits.{max_systems}
use Rattle.model.specs.declared.Kind.{Kind}
use Rattle.model.specs.declared.Vec3.{Vec3}
use Rattle.model.specs.declared.Turns.{Turns}
use Rattle.model.specs.declared.System.{System as StoredSystem}
use Rattle.model.specs.declared.Memory.{Memory as StoredMemory}
use Rattle.model.specs.declared.State.{State as StoredState}
use Rattle.model.specs.Memory.{Memory, State, is_user, place_named}
use Rattle.model.specs.Request.{Change, asks, change, define, locate, link, copy}
use Rattle.model.specs.Lists.{all, any}
use Rattle.model.specs.Words.{reserved}
use Rattle.model.specs.Refusals.{precedence, first, reading_ladder, request_ladder, change_ladder, absent, no_room}
use Rattle.model.specs.Claims.{applies, in_order}
use Rattle.model.specs.Checklist.{asks_to_save}
use Rattle.model.specs.Effects.{with_volatile, with_error, put, fresh, changed, next}
use Rattle.model.specs.Reply.{reply}
use Rattle.model.specs.Machine.{refused, answered, carried_out, judged}
use Rattle.model.specs.Stored.{system_of, systems_of, memory_of, state_of, name_shaped}
use Rattle.model.proofs.Basics.{either, or_false}
use Rattle.model.proofs.Ladder.First.{none_applies}
use Rattle.model.proofs.Ladder.Refusing.{judged_refused, judged_taken}
use Rattle.model.proofs.Memories.Named.{place_within, present_user}
use Rattle.memory.specs.Put.{put_at}
use Rattle.memory.proofs.ByName.{put_by_place}
use Rattle.facts.specs.declared.refusals.Refusal.{Refusal}
use Rattle.facts.specs.declared.refusals.Refusal.TheVariants.{Locked}
use Rattle.facts.specs.Refusals.{number_of}
use Rattle.commands.specs.Obeyed.{obeyed}
use Rattle.commands.specs.declared.subject.Looked.{Looked}
use Rattle.commands.specs.declared.changed.Deed.{Deed}
use Rattle.commands.specs.declared.changed.Deed.TheVariants.{Put}
use Rattle.commands.specs.Done.{done, saving, settle, Fits, Decides}
use Rattle.commands.specs.Subject.{Sees}
use Rattle.commands.proofs.Settled.{not_zero}

-- ---- the number decides

module _ (st : State) (c : Change) (n : ℕ) (e : n ≡ first (change_ladder st st.volatile c)) (b : List ℕ) where
  judged_so : obeyed st (asks (change c)) b ≡ judged st n (asks (change c)) b
  unfolding obeyed reading_ladder request_ladder
  judged_so = ap (λ (k : ℕ). judged st k (asks (change c)) b) (sym e)

  pub obeyed_refused : (n ≡ 0 → ⊥) → obeyed st (asks (change c)) b ≡ refused (with_error st n) n b
  obeyed_refused z = judged_so ∙ judged_refused st n (asks (change c)) b (ne_eqb n 0 z)

  pub obeyed_accepted : n ≡ 0 → obeyed st (asks (change c)) b ≡ answered (changed st st.volatile c) [] b
  unfolding carried_out next reply
  obeyed_accepted z = judged_so ∙ judged_taken st n (asks (change c)) b (eq-eqb n 0 z)

module _ (s : StoredState) (c : Change) where
  abbrev st : State
  st = state_of s

  pub decides_refused : (why : Refusal) → number_of why ≡ first (change_ladder st (memory_of s.volatile) c) → Decides s c (Err why)
  decides_refused why e =
      record {
        outcome = λ b. sym (obeyed_refused st c (number_of why) e b (eqb-false (number_of why) 0 (not_zero why)));
        doable = record { fits = tt };
        saves = rw (not_zero why) refl;
      }

  -- a refusal that a `?` hands on
  pub decides_handed_on : (why : Refusal) (r : Result Deed Refusal) → IsErrAnd r (λ x. x ≡ why) → number_of why ≡ first (change_ladder st (memory_of s.volatile) c) → Decides s c r
  decides_handed_on why r is e = let p = err_from_is_err_and r is in rw (p.1, p.2) (decides_refused why e)

  -- a deed that is settled as it is
  pub decides_accepted : (d : Deed) → 0 ≡ first (change_ladder st (memory_of s.volatile) c) → settle (memory_of s.permanent) d ≡ Ok d → Fits d s.volatile →
      done d st ≡ changed st st.volatile c → saving d ≡ asks_to_save (asks (change c)) → Decides s c (Ok d)
  decides_accepted d e stays f q t =
      record {
        outcome = λ b. rw stays (ap (λ (next : State). answered next [] b) q ∙ sym (obeyed_accepted st c 0 e b refl));
        doable = record { fits = f };
        saves = rw (stays, t) refl;
      }

  -- x is put at the place k
  pub decides_put : (k : ℕ) (x : StoredSystem) → 0 ≡ first (change_ladder st (memory_of s.volatile) c) → name_shaped x ≡ true → (k ≤ max_systems) × (k ≡ 0 → s.volatile.count < max_systems) →
      with_volatile st (put_at st.volatile k (system_of x)) ≡ changed st st.volatile c → asks_to_save (asks (change c)) ≡ false → Decides s c (Ok (Put k x))
  unfolding done Fits saving settle
  decides_put k x z named f q t = decides_accepted (Put k x) z refl (f.0, f.1, named) q (sym t)

-- a change whose only number is 9, for the level alone: RPA and DPA
module _ (s : StoredState) (c : Change) (only : change_ladder (state_of s) (memory_of s.volatile) c ≡ (9, eqb s.level 0) ∷ []) where
  pub decides_at_level_1 : (d : Deed) → settle (memory_of s.permanent) d ≡ Ok d → Fits d s.volatile →
      done d (state_of s) ≡ changed (state_of s) (memory_of s.volatile) c → saving d ≡ asks_to_save (asks (change c)) → Decides s c (cond (eqb s.level 0) (Err Locked) (Ok d))
  unfolding first
  decides_at_level_1 d stays f q t = ⊎_elim shut free (either (eqb s.level 0))
    where
      shut : eqb s.level 0 ≡ true → Decides s c (cond (eqb s.level 0) (Err Locked) (Ok d))
      shut e = rw e (decides_refused s c Locked (rw (only, e, first) refl))

      free : eqb s.level 0 ≡ false → Decides s c (cond (eqb s.level 0) (Err Locked) (Ok d))
      free e = rw e (decides_accepted s c d (rw (only, e, first) refl) stays f q t)

-- ---- the places of a change that is accepted

module _ (st : State) (m : Memory) where
  -- what is linked is a user system
  pub link_user : (a b : List ℕ) → first (change_ladder st m (link a b)) ≡ 0 → is_user m a ≡ true
  unfolding change_ladder in_order applies all any
  link_user a b e =
      let off = none_applies (drop 2 precedence) (change_ladder st m (link a b)) refl refl e in
      present_user m a (or_false (absent m a) _ (or_false (absent m a || absent m b) _ (off 7)).0).0 (or_false (reserved a) _ (off 8)).0

  -- what is defined or copied finds its place
  pub define_room : (k : Kind) (n : List ℕ) (t : Vec3) (u : Turns) → first (change_ladder st m (define k n t u)) ≡ 0 → no_room m.systems (place_named m.systems n) ≡ false
  unfolding change_ladder in_order applies all any
  define_room k n t u e = (or_false _ _ (none_applies (drop 2 precedence) (change_ladder st m (define k n t u)) refl refl e 13)).0

  pub locate_room : (n : List ℕ) → first (change_ladder st m (locate n)) ≡ 0 → no_room m.systems (place_named m.systems n) ≡ false
  unfolding change_ladder in_order applies all any
  locate_room n e = (or_false _ _ (none_applies (drop 2 precedence) (change_ladder st m (locate n)) refl refl e 13)).0

  pub copy_room : (s d : List ℕ) → first (change_ladder st m (copy s d)) ≡ 0 → no_room m.systems (place_named m.systems d) ≡ false
  unfolding change_ladder in_order applies all any
  copy_room s d e = (or_false _ _ (none_applies (drop 2 precedence) (change_ladder st m (copy s d)) refl refl e 13)).0

-- what was seen of a memory, and a name that was looked for in it
module _ (m : StoredMemory) (x y : List ℕ) (k : Looked) (s : Sees m x y k) (n : List ℕ) where
  pub place_few : place_named (systems_of m) n ≤ max_systems
  place_few = omega (arith, place_within (systems_of m) n, s.counted, s.links.few)

  -- one place is free for a new name that passed number 13
  pub room : no_room (systems_of m) (place_named (systems_of m) n) ≡ false → place_named (systems_of m) n ≡ 0 → m.count < max_systems
  unfolding no_room
  room e z = rw s.stored (leb-false max_systems (length (systems_of m)) (rw z at e))

-- a definition is put at the place of its name
pub defined_by_place : (m : Memory) (k : Kind) (n : List ℕ) (t : Vec3) (u : Turns) → put m (fresh m k n t u) ≡ put_at m (place_named m.systems n) (fresh m k n t u)
unfolding fresh
defined_by_place m k n t u = put_by_place m (fresh m k n t u)
