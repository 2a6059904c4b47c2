-- KLT? with a name: absent, or the line of the system that is found.
use Prim.Native.Nat.{ℕ, zero, suc, ◌≤◌}
use mathlib.Core.Path.{◌≡◌, refl, sym, ap, ◌∙◌}
use mathlib.Core.List.{List, [], ◌∷◌}
use mathlib.Core.Option.{Option, none, some}
use Rattle.std.specs.Prelude.{Some, None}
use native.Mathlib.Omega.{arith}
use lib.ListN.{take, length-take, length-map}
use Rattle.model.specs.declared.Memory.{Memory as StoredMemory}
use Rattle.model.specs.declared.State.{State as StoredState}
use Rattle.model.specs.declared.Group.{Group}
use Rattle.model.specs.declared.Group.TheVariants.{Operating}
use Rattle.model.specs.Lists.{there?}
use Rattle.model.specs.Memory.{System, State, Ref, find, ref_or, user_ref, fixed_ref, system_at}
use Rattle.model.specs.Request.{asks, list, resultant_of}
use Rattle.model.specs.Refusals.{first, reading_ladder, request_ladder, query_ladder}
use Rattle.model.specs.Effects.{with_error, next}
use Rattle.model.specs.Reply.{listed, listing, resultant_line, reply}
use Rattle.model.specs.Machine.{carried_out, judged, answered, refused}
use Rattle.model.specs.Stored.{system_of, systems_of, memory_of, state_of}
use Rattle.model.proofs.Memories.Named.{place_within, named_place}
use Rattle.reply.specs.Reached.{ref_at}
use Rattle.memory.specs.declared.find.Found.TheVariants.{User, Fixed}
use Rattle.memory.specs.Found.{found_told}
use Rattle.commands.specs.declared.subject.Subject.{Subject}
use Rattle.commands.specs.Subject.{Tells}
use Rattle.commands.specs.Obeyed.{obeyed}
use Rattle.commands.proofs.Asked.{place_is, found_is}

module _ (st : State) (a b : List ℕ) where
  obeyed_absent : find st.volatile a ≡ none → obeyed st (asks (list (resultant_of a))) b ≡ refused (with_error st 7) 7 b
  unfolding obeyed judged first reading_ladder request_ladder query_ladder there?
  obeyed_absent e = rw e

  obeyed_found : (r : Ref) → find st.volatile a ≡ some r →
      obeyed st (asks (list (resultant_of a))) b ≡ answered st (listing (resultant_line st.volatile.systems r ∷ [])) b
  unfolding obeyed judged first reading_ladder request_ladder query_ladder there? carried_out next reply listed ref_or
  obeyed_found r e = rw e (ap (λ (q : Ref). answered st (listing (resultant_line st.volatile.systems q ∷ [])) b) (ap ref_or e))

-- a user system's line is found by its place
ref_by_place : (l : List System) (k : ℕ) → ref_at l Operating k ≡ user_ref l k
unfolding system_at
ref_by_place l zero = refl
ref_by_place l (suc k) = refl

-- a place by name is one of the stored ones
pub named_within : (m : StoredMemory) (n : List ℕ) (x : Subject) → Tells (memory_of m) n x → x.place ≤ m.count
named_within m n x tells =
    omega (arith, place_is (memory_of m) n x tells, place_within (systems_of m) n, length-map (take m.count m.systems) system_of, length-take m.count m.systems)

-- the reply to KLT? with a name that means this place of the group
abbrev pub chain_line : StoredMemory → Group → ℕ → List ℕ
chain_line m g place = listing (resultant_line (systems_of m) (ref_at (systems_of m) g place) ∷ [])

-- ---- what was looked up, answered

module _ (s : StoredState) (a : List ℕ) (x : Subject) (tells : Tells (memory_of s.volatile) a x) (b : List ℕ) where
  -- a user system is at the name's place
  user_found : (k : ℕ) → x.found ≡ Some (User k) → find (memory_of s.volatile) a ≡ some (user_ref (systems_of s.volatile) x.place)
  unfolding found_told ref_or
  user_found k e =
      let l = systems_of s.volatile in
      let f : find (memory_of s.volatile) a ≡ some (user_ref l k) = sym (found_is (memory_of s.volatile) a x tells) ∙ rw e refl in
      let at : k ≡ x.place = sym (ap (λ (q : Option Ref). (ref_or q).place) f) ∙ named_place (memory_of s.volatile) a ∙ sym (place_is (memory_of s.volatile) a x tells) in
      f ∙ ap (λ (j : ℕ). some (user_ref l j)) at

  fixed_found : (g : Group) → x.found ≡ Some (Fixed g) → find (memory_of s.volatile) a ≡ some (fixed_ref g)
  unfolding found_told
  fixed_found g e = sym (found_is (memory_of s.volatile) a x tells) ∙ rw e refl

  none_found : x.found ≡ None → find (memory_of s.volatile) a ≡ none
  unfolding found_told
  none_found e = sym (found_is (memory_of s.volatile) a x tells) ∙ rw e refl

  pub user_answers : (k : ℕ) → x.found ≡ Some (User k) →
      obeyed (state_of s) (asks (list (resultant_of a))) b ≡ answered (state_of s) (chain_line s.volatile Operating x.place) b
  user_answers k e =
      let l = systems_of s.volatile in
      rw (obeyed_found (state_of s) a b (user_ref l x.place) (user_found k e), ref_by_place l x.place) refl

  pub fixed_answers : (g : Group) → x.found ≡ Some (Fixed g) →
      obeyed (state_of s) (asks (list (resultant_of a))) b ≡ answered (state_of s) (chain_line s.volatile g 0) b
  fixed_answers g e = obeyed_found (state_of s) a b (fixed_ref g) (fixed_found g e)

  pub absent_answers : x.found ≡ None → obeyed (state_of s) (asks (list (resultant_of a))) b ≡ refused (with_error (state_of s) 7) 7 b
  absent_answers e = obeyed_absent (state_of s) a b (none_found e)
