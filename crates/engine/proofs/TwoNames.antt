-- KLT? with two names: either absent, of different groups, or the line of the one seen from the other.
use Prim.Native.Nat.{ℕ}
use mathlib.Core.Path.{◌≡◌, sym, ap, ◌∙◌}
use mathlib.Core.List.{List, [], ◌∷◌}
use mathlib.Core.Bool.{Bool, true, false, not, ◌||◌}
use Rattle.std.specs.Prelude.{is_some}
use Rattle.model.specs.declared.Memory.{Memory as StoredMemory}
use Rattle.model.specs.declared.State.{State as StoredState}
use Rattle.model.specs.declared.Group.{Group}
use Rattle.model.specs.Kinds.{same_group}
use Rattle.model.specs.Memory.{Memory, State, Meant, meant, named}
use Rattle.model.specs.Use.{in_group}
use Rattle.model.specs.Request.{Reading, asks, list, resultant_in}
use Rattle.model.specs.Refusals.{absent, first, reading_ladder, request_ladder, query_ladder}
use Rattle.model.specs.Effects.{with_error, next}
use Rattle.model.specs.Reply.{listed, listing, relative_line, reply}
use Rattle.model.specs.Machine.{carried_out, judged, answered, refused}
use Rattle.model.specs.Stored.{systems_of, memory_of, state_of}
use Rattle.model.proofs.Memories.Fine.{same_group_lem}
use Rattle.model.proofs.Memories.Named.{named_place}
use Rattle.commands.specs.declared.subject.Subject.{Subject}
use Rattle.commands.specs.Subject.{Tells}
use Rattle.commands.specs.Obeyed.{obeyed}
use Rattle.commands.proofs.Asked.{place_is, absent_is}

module _ (st : State) (a b buffer : List ℕ) where
  obeyed_absent : absent st.volatile a || absent st.volatile b ≡ true → obeyed st (asks (list (resultant_in a b))) buffer ≡ refused (with_error st 7) 7 buffer
  unfolding obeyed judged first reading_ladder request_ladder query_ladder
  obeyed_absent e = rw e

  module _ (there : absent st.volatile a || absent st.volatile b ≡ false) where
    obeyed_apart : same_group (meant st.volatile a).group (meant st.volatile b).group ≡ false →
        obeyed st (asks (list (resultant_in a b))) buffer ≡ refused (with_error st 10) 10 buffer
    unfolding obeyed judged first reading_ladder request_ladder query_ladder
    obeyed_apart e = rw (there, e)

    obeyed_seen : same_group (meant st.volatile a).group (meant st.volatile b).group ≡ true →
        obeyed st (asks (list (resultant_in a b))) buffer
        ≡ answered st (listing (relative_line st.volatile.systems (named st.volatile a) (named st.volatile b) ∷ [])) buffer
    unfolding obeyed judged first reading_ladder request_ladder query_ladder carried_out next reply listed
    obeyed_seen e = rw (there, e)

-- the system of a name, by what was seen of it
named_seen : (m : Memory) (n : List ℕ) (x : Subject) → Tells m n x → named m n ≡ in_group x.group x.place
named_seen m n x t =
    let g = ap (λ (y : Meant). y.group) t.meant_is in
    let p = named_place m n ∙ sym (place_is m n x t) in
    λ i. in_group (sym g i) (p i)

-- the reply to KLT? with two names that mean these places of the group
abbrev pub seen_line : StoredMemory → Group → ℕ → ℕ → List ℕ
seen_line m g place from = listing (relative_line (systems_of m) (in_group g place) (in_group g from) ∷ [])

-- ---- what was looked up, answered

module _ (s : StoredState) (a b : List ℕ) (x y : Subject) (tx : Tells (memory_of s.volatile) a x) (ty : Tells (memory_of s.volatile) b y)
    (u v : Bool) (no-x : is_some x.found ≡ not u) (no-y : is_some y.found ≡ not v) (buffer : List ℕ) where
  abbrev asked : Reading
  asked = asks (list (resultant_in a b))

  either : u || v ≡ absent (memory_of s.volatile) a || absent (memory_of s.volatile) b
  either =
      let m = memory_of s.volatile in
      λ i. absent_is m a x tx no-x i || absent_is m b y ty no-y i

  groups : same_group x.group y.group ≡ same_group (meant (memory_of s.volatile) a).group (meant (memory_of s.volatile) b).group
  groups = λ i. same_group (tx.meant_is i).group (ty.meant_is i).group

  pub absent_answers : u || v ≡ true → obeyed (state_of s) asked buffer ≡ refused (with_error (state_of s) 7) 7 buffer
  absent_answers e = obeyed_absent (state_of s) a b buffer (sym either ∙ e)

  module _ (there : u || v ≡ false) where
    pub apart_answers : same_group x.group y.group ≡ false → obeyed (state_of s) asked buffer ≡ refused (with_error (state_of s) 10) 10 buffer
    apart_answers e = obeyed_apart (state_of s) a b buffer (sym either ∙ there) (sym groups ∙ e)

    pub seen_answers : same_group x.group y.group ≡ true →
        obeyed (state_of s) asked buffer ≡ answered (state_of s) (seen_line s.volatile x.group x.place y.place) buffer
    seen_answers e =
        let m = memory_of s.volatile in
        let g = same_group_lem x.group y.group e in
        obeyed_seen (state_of s) a b buffer (sym either ∙ there) (sym groups ∙ e)
        ∙ (λ i. answered (state_of s) (listing (relative_line m.systems (named_seen m a x tx i) ((named_seen m b y ty ∙ ap (λ h. in_group h y.place) (sym g)) i) ∷ [])) buffer)
