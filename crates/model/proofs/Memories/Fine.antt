-- A well-formed memory as a record of facts over places, and back.
use Prim.Native.Nat.{ℕ, zero, suc, ◌+◌, ◌≤◌, ◌<◌}
use mathlib.Core.Path.{◌≡◌, refl, sym, ap, ◌∙◌}
use mathlib.Core.List.{List, [], ◌∷◌}
use mathlib.Core.Bool.{Bool, true, false, cond, not, ◌&&◌, ◌||◌}
use mathlib.Core.Logic.{◌⊎◌, inl, inr, ⊎_elim}
use native.Mathlib.Omega.{arith}
use native.Mathlib.Decide.{dec_lt}
use borrow.Author.Tests.{eqb-true, leb-true, ltb-true, eq-eqb, le-leb, lt-ltb, not-true}
use lib.Dec.{eqb, leb, ltb}
use lib.ListN.{length, get_or, get_or-eq_default}
use Rattle.model.specs.Types.{Kind, Ksd, Kst, Ksw, Ksb, Kld, Ksf, Group, Operating, Orientational, Levelling, Vec3, Turns, Enabled, OperatingPart, Single, Pair}
use Rattle.model.specs.Lists.{all, any, same}
use Rattle.model.specs.Limits.{max_systems, most_turns}
use Rattle.model.specs.Kinds.{of_kind, same_kind, of_group, same_group}
use Rattle.model.specs.Memory.{System, Memory, State, system_at, blank}
use Rattle.model.specs.Chain.{no_ring}
use Rattle.model.specs.Words.{legal_name, reserved, offset?, offsets_fine}
use Rattle.model.specs.Stage.{position_fine}
use Rattle.model.specs.WellFormed.{is_kind, no_offset, turns_fine, own_fine, system_fine, names_differ, operating_fine, enabled_fine, memory_fine, well_formed}
use Rattle.model.specs.Refusals.{of_line?}
use Rattle.model.proofs.Basics.{and_split, and_join, or_split, or_left, or_right, either, true_false, all_at, all_from, any_none, any_where, same→≡, ≡→same}

-- ---- types by their codes

by_code : ℕ → Kind
by_code c = cond (eqb c 1) Ksd (cond (eqb c 2) Kst (cond (eqb c 3) Ksw (cond (eqb c 4) Ksb (cond (eqb c 5) Kld Ksf))))

by_code_is : (k : Kind) → by_code (of_kind k).code ≡ k
unfolding by_code
by_code_is Ksd = refl
by_code_is Kst = refl
by_code_is Ksw = refl
by_code_is Ksb = refl
by_code_is Kld = refl
by_code_is Ksf = refl

pub same_kind_lem : (j k : Kind) → same_kind j k ≡ true → j ≡ k
same_kind_lem j k e = sym (by_code_is j) ∙ ap by_code (eqb-true (of_kind j).code (of_kind k).code e) ∙ by_code_is k

pub kind_same : {j k : Kind} → j ≡ k → same_kind j k ≡ true
kind_same {j} {k} e = rw e (eq-eqb (of_kind k).code (of_kind k).code refl)

-- ---- groups by their order

by_order : ℕ → Group
by_order c = cond (eqb c 0) Operating (cond (eqb c 1) Orientational Levelling)

by_order_is : (g : Group) → by_order (of_group g).order ≡ g
unfolding by_order
by_order_is Operating = refl
by_order_is Orientational = refl
by_order_is Levelling = refl

pub same_group_lem : (g h : Group) → same_group g h ≡ true → g ≡ h
same_group_lem g h e = sym (by_order_is g) ∙ ap by_order (eqb-true (of_group g).order (of_group h).order e) ∙ by_order_is h

-- ---- places

-- a user system stands at place k
abbrev pub Stands : List System → ℕ → Type 0
Stands l k = (0 < k) × (k ≤ length l)

-- place p is the group's fixed system's, or a user system of type k stands there
abbrev pub Placed : List System → Kind → ℕ → Type 0
Placed l k p = 0 < p → (p ≤ length l) × ((system_at l p).kind ≡ k)

pub placed_of : (l : List System) (k : Kind) (p : ℕ) → is_kind l k p ≡ true → Placed l k p
unfolding is_kind
placed_of l k p e h =
    ⊎_elim (λ z. let q = eqb-true p 0 z in absurd (omega arith))
    (λ s. let t = and_split (leb p (length l)) (same_kind (system_at l p).kind k) s in (leb-true p (length l) t.0, same_kind_lem (system_at l p).kind k t.1))
    (or_split (eqb p 0) _ e)

pub placed_from : (l : List System) (k : Kind) (p : ℕ) → Placed l k p → is_kind l k p ≡ true
unfolding is_kind
placed_from l k p f = go (dec_lt 0 p)
  where
    go : Dec (0 < p) → eqb p 0 || (leb p (length l) && same_kind (system_at l p).kind k) ≡ true
    go (yes h) = or_right (eqb p 0) _ (and_join (le-leb p (length l) (f h).0) (kind_same (f h).1))
    go (no h) = or_left (eqb p 0) _ (eq-eqb p 0 (omega arith))

pub blank_beyond : (l : List System) (k : ℕ) → length l < k → system_at l k ≡ blank
unfolding system_at
blank_beyond l zero h = refl
blank_beyond l (suc i) h = let g : length l ≤ i = omega arith in get_or-eq_default l blank g

-- ---- the parts of a memory

-- what is asked of a system by itself, part by part
pub record Own (s : System) : Type 0 where
  pub name : legal_name s.name ≡ true
  pub free : reserved s.name ≡ false
  pub offset : offsets_fine s.offset ≡ true
  pub turns : turns_fine s.turns ≡ true
  pub flat : not (of_kind s.kind).turns_only || no_offset s.offset ≡ true

pub own_of : (s : System) → own_fine s ≡ true → Own s
own_of s f =
    let named = legal_name s.name && not (reserved s.name) in
    let a = and_split (named && offsets_fine s.offset && turns_fine s.turns) (not (of_kind s.kind).turns_only || no_offset s.offset) f in
    let b = and_split (named && offsets_fine s.offset) (turns_fine s.turns) a.0 in
    let c = and_split named (offsets_fine s.offset) b.0 in
    let d = and_split (legal_name s.name) (not (reserved s.name)) c.0 in
    record { name = d.0; free = not-true (reserved s.name) d.1; offset = c.1; turns = b.1; flat = a.1 }

pub own_from : (s : System) → Own s → own_fine s ≡ true
own_from s o = and_join (and_join (and_join (and_join o.name (ap not o.free)) o.offset) o.turns) o.flat

-- offsets within the limit, axis by axis
pub record Offsets (t : Vec3) : Type 0 where
  pub x : offset? t.x ≡ true
  pub y : offset? t.y ≡ true
  pub z : offset? t.z ≡ true

pub offsets_of_lem : (t : Vec3) → offsets_fine t ≡ true → Offsets t
offsets_of_lem t f =
    let a = and_split (offset? t.x && offset? t.y) (offset? t.z) f in
    let b = and_split (offset? t.x) (offset? t.y) a.0 in
    record { x = b.0; y = b.1; z = a.1 }

pub offsets_from : (t : Vec3) → Offsets t → offsets_fine t ≡ true
offsets_from t o = and_join (and_join o.x o.y) o.z

-- 0 to 3 quarter turns, axis by axis
pub record Quartered (t : Turns) : Type 0 where
  pub u : t.u ≤ most_turns
  pub v : t.v ≤ most_turns
  pub w : t.w ≤ most_turns

pub turns_of_lem : (t : Turns) → turns_fine t ≡ true → Quartered t
turns_of_lem t f =
    let a = and_split (leb t.u most_turns && leb t.v most_turns) (leb t.w most_turns) f in
    let b = and_split (leb t.u most_turns) (leb t.v most_turns) a.0 in
    record { u = leb-true t.u most_turns b.0; v = leb-true t.v most_turns b.1; w = leb-true t.w most_turns a.1 }

pub turns_from_lem : (t : Turns) → Quartered t → turns_fine t ≡ true
turns_from_lem t q = and_join (and_join (le-leb t.u most_turns q.u) (le-leb t.v most_turns q.v)) (le-leb t.w most_turns q.w)

abbrev pub PartPlaced : List System → OperatingPart → Type 0
PartPlaced l (Single p) = Placed l Ksd p ⊎ Placed l Ksf p
PartPlaced l (Pair w t) = Placed l Ksw w × Placed l Kst t × (0 < w + t)

pub record EnabledPlaced (l : List System) (e : Enabled) : Type 0 where
  pub operating : PartPlaced l e.operating
  pub orientational : Placed l Ksb e.orientational
  pub levelling : Placed l Kld e.levelling

-- all of a list of systems but that no chain is a ring
pub record Systems (l : List System) : Type 0 where
  pub few : length l ≤ max_systems
  pub own : (k : ℕ) → Stands l k → own_fine (system_at l k) ≡ true
  pub preds : (k : ℕ) → Placed l (system_at l k).kind (system_at l k).pred
  pub differ : (j k : ℕ) → Stands l j → Stands l k → (system_at l j).name ≡ (system_at l k).name → j ≡ k

pub record Fine (m : Memory) : Type 0 where
  pub systems : Systems m.systems
  pub ringless : no_ring m.systems ≡ true
  pub enabled : EnabledPlaced m.systems m.enabled

pub placed_within : (l : List System) (k : Kind) (p : ℕ) → Placed l k p → p ≤ length l
placed_within l k p f = go (dec_lt 0 p)
  where
    go : Dec (0 < p) → p ≤ length l
    go (yes h) = (f h).0
    go (no h) = omega arith

-- every predecessor is in the list, or the fixed system
pub preds_within : {l : List System} → Systems l → (k : ℕ) → (system_at l k).pred ≤ length l
preds_within {l} s k = placed_within l (system_at l k).kind (system_at l k).pred (s.preds k)

-- ---- names that differ

namesake : System → System → Bool
namesake s t = same s.name t.name

module _ (s : System) (l : List System) (d : names_differ (s ∷ l) ≡ true) where
  not_later : (j : ℕ) → j < length l → s.name ≡ (get_or l j blank).name → ⊥
  unfolding names_differ namesake
  not_later j h e =
      let a = not-true (any (namesake s) l) (and_split (not (any (namesake s) l)) (names_differ l) d).0 in
      true_false (sym (≡→same e) ∙ any_none (namesake s) l blank j a h)

  differ_rest : names_differ l ≡ true
  unfolding names_differ namesake
  differ_rest = (and_split (not (any (namesake s) l)) (names_differ l) d).1

differ_of : (l : List System) → names_differ l ≡ true → (i j : ℕ) → i < length l → j < length l → (get_or l i blank).name ≡ (get_or l j blank).name → i ≡ j
differ_of [] d i j h g e = absurd (omega arith)
differ_of (s ∷ l) d zero zero h g e = refl
differ_of (s ∷ l) d zero (suc j) h g e = absurd (not_later s l d j (omega arith) e)
differ_of (s ∷ l) d (suc i) zero h g e = absurd (not_later s l d i (omega arith) (sym e))
differ_of (s ∷ l) d (suc i) (suc j) h g e = ap suc (differ_of l (differ_rest s l d) i j (omega arith) (omega arith) e)

differ_from : (l : List System) → ((i j : ℕ) → i < length l → j < length l → (get_or l i blank).name ≡ (get_or l j blank).name → i ≡ j) → names_differ l ≡ true
unfolding names_differ namesake
differ_from [] f = refl
differ_from (s ∷ l) f =
    and_join (ap not (no_namesake (either (any (namesake s) l))))
    (differ_from l (λ i j h g e. let q = f (suc i) (suc j) (omega arith) (omega arith) e in omega arith))
  where
    no_namesake : (any (namesake s) l ≡ true) ⊎ (any (namesake s) l ≡ false) → any (namesake s) l ≡ false
    no_namesake (inl e) =
        let r = any_where (namesake s) l blank e in
        absurd (let q = f 0 (suc r.0) (omega arith) (omega (arith, r.1)) (same→≡ s.name (get_or l r.0 blank).name r.2) in omega arith)
    no_namesake (inr e) = e

-- ---- taken apart

module _ (l : List System) where
  systems_of_lem : leb (length l) max_systems ≡ true → all (system_fine l) l ≡ true → names_differ l ≡ true → Systems l
  unfolding system_at system_fine
  systems_of_lem few fine differ =
      record {
        few = leb-true (length l) max_systems few;
        own = own;
        preds = λ k. preds k (dec_lt (length l) k);
        differ = names;
      }
    where
      both : (i : ℕ) → i < length l → (own_fine (get_or l i blank) ≡ true) × (is_kind l (get_or l i blank).kind (get_or l i blank).pred ≡ true)
      both i h = and_split (own_fine (get_or l i blank)) (is_kind l (get_or l i blank).kind (get_or l i blank).pred) (all_at (system_fine l) l blank i fine h)

      own : (k : ℕ) → Stands l k → own_fine (system_at l k) ≡ true
      own zero h = absurd (omega arith)
      own (suc i) h = (both i h.1).0

      preds : (k : ℕ) → Dec (length l < k) → Placed l (system_at l k).kind (system_at l k).pred
      preds k (yes h) = rw (blank_beyond l k h) (λ z. absurd (omega arith))
      preds zero (no h) = λ z. absurd (omega arith)
      preds (suc i) (no h) = placed_of l (get_or l i blank).kind (get_or l i blank).pred (both i (omega arith)).1

      names : (j k : ℕ) → Stands l j → Stands l k → (system_at l j).name ≡ (system_at l k).name → j ≡ k
      names zero k h g e = absurd (omega arith)
      names (suc i) zero h g e = absurd (omega arith)
      names (suc i) (suc j) h g e = ap suc (differ_of l differ i j h.1 g.1 e)

  systems_from : Systems l → leb (length l) max_systems && all (system_fine l) l && names_differ l ≡ true
  unfolding system_at system_fine
  systems_from s =
      and_join (and_join (le-leb (length l) max_systems s.few) (all_from (system_fine l) l blank each))
      (differ_from l (λ i j h g e. let q = s.differ (suc i) (suc j) (omega arith) (omega arith) e in omega arith))
    where
      each : (i : ℕ) → i < length l → system_fine l (get_or l i blank) ≡ true
      each i h = and_join (s.own (suc i) (omega arith)) (placed_from l (get_or l i blank).kind (get_or l i blank).pred (s.preds (suc i)))

  part_of : (o : OperatingPart) → operating_fine l o ≡ true → PartPlaced l o
  unfolding operating_fine
  part_of (Single p) e = ⊎_elim (λ h. inl (placed_of l Ksd p h)) (λ h. inr (placed_of l Ksf p h)) (or_split (is_kind l Ksd p) (is_kind l Ksf p) e)
  part_of (Pair w t) e =
      let a = and_split (is_kind l Ksw w && is_kind l Kst t) (ltb 0 w || ltb 0 t) e in
      let b = and_split (is_kind l Ksw w) (is_kind l Kst t) a.0 in (
        placed_of l Ksw w b.0,
        placed_of l Kst t b.1,
        ⊎_elim (λ h. omega (arith, ltb-true 0 w h)) (λ h. omega (arith, ltb-true 0 t h)) (or_split (ltb 0 w) (ltb 0 t) a.1),
      )

  part_from : (o : OperatingPart) → PartPlaced l o → operating_fine l o ≡ true
  unfolding operating_fine
  part_from (Single p) f =
      ⊎_elim (λ h. or_left (is_kind l Ksd p) (is_kind l Ksf p) (placed_from l Ksd p h)) (λ h. or_right (is_kind l Ksd p) (is_kind l Ksf p) (placed_from l Ksf p h)) f
  part_from (Pair w t) f = and_join (and_join (placed_from l Ksw w f.0) (placed_from l Kst t f.1)) (go (dec_lt 0 w))
    where
      go : Dec (0 < w) → ltb 0 w || ltb 0 t ≡ true
      go (yes h) = or_left (ltb 0 w) (ltb 0 t) (lt-ltb 0 w h)
      go (no h) = or_right (ltb 0 w) (ltb 0 t) (lt-ltb 0 t (omega (arith, f.2)))

  module _ (e : Enabled) where
    pub enabled_of : enabled_fine l e ≡ true → EnabledPlaced l e
    unfolding enabled_fine
    enabled_of f =
        let a = and_split (operating_fine l e.operating && is_kind l Ksb e.orientational) (is_kind l Kld e.levelling) f in
        let b = and_split (operating_fine l e.operating) (is_kind l Ksb e.orientational) a.0 in
        record {
          operating = part_of e.operating b.0;
          orientational = placed_of l Ksb e.orientational b.1;
          levelling = placed_of l Kld e.levelling a.1;
        }

    pub enabled_from_lem : EnabledPlaced l e → enabled_fine l e ≡ true
    unfolding enabled_fine
    enabled_from_lem p =
        and_join (and_join (part_from e.operating p.operating) (placed_from l Ksb e.orientational p.orientational))
        (placed_from l Kld e.levelling p.levelling)

-- ---- a memory

module _ (m : Memory) where
  pub fine_of : memory_fine m ≡ true → Fine m
  unfolding memory_fine
  fine_of f =
      let l = m.systems in
      let a = and_split (leb (length l) max_systems && all (system_fine l) l && names_differ l && no_ring l) (enabled_fine l m.enabled) f in
      let b = and_split (leb (length l) max_systems && all (system_fine l) l && names_differ l) (no_ring l) a.0 in
      let c = and_split (leb (length l) max_systems && all (system_fine l) l) (names_differ l) b.0 in
      let d = and_split (leb (length l) max_systems) (all (system_fine l) l) c.0 in
      record {
        systems = systems_of_lem l d.0 d.1 c.1;
        ringless = b.1;
        enabled = enabled_of l m.enabled a.1;
      }

  pub fine_from : Fine m → memory_fine m ≡ true
  unfolding memory_fine
  fine_from f = and_join (and_join (systems_from m.systems f.systems) f.ringless) (enabled_from_lem m.systems m.enabled f.enabled)

-- ---- a state

abbrev pub error_fine : ℕ → Bool
error_fine n = eqb n 0 || of_line? n

pub record FineState (st : State) : Type 0 where
  pub volatile : memory_fine st.volatile ≡ true
  pub permanent : memory_fine st.permanent ≡ true
  pub level : st.level ≤ 1
  pub error : error_fine st.error ≡ true
  pub position : position_fine st.position ≡ true

module _ (st : State) where
  pub state_of_lem : well_formed st ≡ true → FineState st
  unfolding well_formed
  state_of_lem w =
      let p = and_split (memory_fine st.volatile && memory_fine st.permanent && leb st.level 1 && error_fine st.error) (position_fine st.position) w in
      let a = and_split (memory_fine st.volatile && memory_fine st.permanent && leb st.level 1) (error_fine st.error) p.0 in
      let b = and_split (memory_fine st.volatile && memory_fine st.permanent) (leb st.level 1) a.0 in
      let c = and_split (memory_fine st.volatile) (memory_fine st.permanent) b.0 in
      record { volatile = c.0; permanent = c.1; level = leb-true st.level 1 b.1; error = a.1; position = p.1 }

  pub state_from : FineState st → well_formed st ≡ true
  unfolding well_formed
  state_from f = and_join (and_join (and_join (and_join f.volatile f.permanent) (le-leb st.level 1 f.level)) f.error) f.position
