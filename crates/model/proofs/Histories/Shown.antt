-- The checklist's first two items: KEN? shows one system or pair for each group, and KLN? leads every name down to its group's fixed system.
use Prim.Native.Nat.{ℕ, zero, suc, ◌≤◌, ◌<◌}
use mathlib.Core.Path.{◌≡◌, refl, sym, ap, ◌∙◌}
use mathlib.Core.Logic.{⊎_elim}
use mathlib.Core.List.{List, map, append-nil}
use mathlib.Core.Bool.{true, false}
use mathlib.Core.Option.{some}
use native.Mathlib.Omega.{arith}
use native.Mathlib.Decide.{dec_lt}
use lib.ListN.{length}
use Rattle.model.specs.Types.{Kind, Ksd, Kst, Ksw, Ksb, Kld, Operating, Orientational, Levelling, OperatingPart, Single, Pair, Ksf}
use Rattle.model.specs.Ascii.{ascii}
use Rattle.model.specs.Lists.{any, same, one_of, joined, table}
use Rattle.model.specs.Kinds.{of_kind, of_group}
use Rattle.model.specs.Memory.{System, Memory, State, Ref, user_ref, system_at, name_of, type_of, pred_name, find, ref_or}
use Rattle.model.specs.Chain.{pred_of, hop, steps, chain}
use Rattle.model.specs.Use.{operating_places, in_group}
use Rattle.model.specs.WellFormed.{well_formed}
use Rattle.model.specs.Request.{reading, asks, list, enabled_ones, links}
use Rattle.model.specs.Refusals.{first, unreadable, query_ladder}
use Rattle.model.specs.Reply.{every_system, link_line, listed}
use Rattle.model.specs.Checklist.{Allowed, OneOrPair, one, work_and_tool, OneInEachGroup, below, followed_down, Down, line_below, LeadsDown}
use Rattle.model.proofs.Open.{definitions_open}
use Rattle.model.proofs.Basics.{true_false, ≡→same, table_cong, map_table}
use Rattle.model.proofs.Chains.Hops.{hop_zero, ring_free}
use Rattle.model.proofs.Chains.Steps.{Ends, chain_length, steps_zero, steps_end, steps_within, steps_pred}
use Rattle.model.proofs.Memories.Fine.{Placed, PartPlaced, Fine, state_of_lem, fine_of}
use Rattle.model.proofs.Memories.Found.{IsSystem, fixed, user, placed_system, is_found, found_is}
use Rattle.model.proofs.Ladder.Queries.{query_replies}

-- ---- KEN?

-- a place that is 0 or holds a user system of type k
module _ (l : List System) (k : Kind) where
  user_type : (q : ℕ) → 0 < q → Placed l k q → type_of l (in_group (of_kind k).group q) ≡ (of_kind k).shown
  unfolding type_of
  user_type zero h p = absurd (omega arith)
  user_type (suc i) h p = ap (λ (k : Kind). (of_kind k).shown) (p h).1

  placed_type : (types : List (List ℕ)) → one_of types (of_group (of_kind k).group).shown ≡ true → one_of types (of_kind k).shown ≡ true → (q : ℕ) →
      Placed l k q → one_of types (type_of l (in_group (of_kind k).group q)) ≡ true
  unfolding type_of
  placed_type types a b zero h = a
  placed_type types a b (suc i) h = rw (user_type (suc i) (omega arith) h) b

module _ (m : Memory) (fine : Fine m) where
  allowed : (k : Kind) (types : List (List ℕ)) → one_of types (of_group (of_kind k).group).shown ≡ true → one_of types (of_kind k).shown ≡ true →
      (q : ℕ) → Placed m.systems k q → Allowed m types (in_group (of_kind k).group q)
  allowed k types a b q h = record { present = is_found m fine (placed_system m.systems k q h); allowed = placed_type m.systems k types a b q h }

  -- a user system's type is not ZERO
  not_zero : (k : Kind) → same (of_kind k).shown (ascii "ZERO") ≡ false → (q : ℕ) → 0 < q → Placed m.systems k q →
      type_of m.systems (in_group (of_kind k).group q) ≡ ascii "ZERO" → ⊥
  not_zero k d q h p e = true_false (sym (≡→same (sym (user_type m.systems k q h p) ∙ e)) ∙ d)

  one_or_pair : (o : OperatingPart) → PartPlaced m.systems o → OneOrPair m (map (in_group Operating) (operating_places o))
  unfolding one_of any same
  one_or_pair (Single p) h = one (in_group Operating p) (⊎_elim (allowed Ksd _ refl refl p) (allowed Ksf _ refl refl p) h)
  one_or_pair (Pair w t) h =
      work_and_tool (in_group Operating w) (in_group Operating t) (allowed Ksw _ refl refl w h.0) (allowed Kst _ refl refl t h.1) (go (dec_lt 0 w))
    where
      go : Dec (0 < w) → type_of m.systems (in_group Operating w) ≡ ascii "ZERO" → type_of m.systems (in_group Operating t) ≡ ascii "ZERO" → ⊥
      go (yes p) e f = not_zero Ksw refl w p h.0 e
      go (no p) e f = not_zero Kst refl t (omega (arith, h.2)) h.1 f

ken_read : reading (ascii "KEN?") ≡ asks (list enabled_ones)
unfolding definitions_open
ken_read = refl

pub ken_shows : (st : State) → well_formed st ≡ true → OneInEachGroup st
unfolding definitions_open
ken_shows st w =
    let m = st.volatile in
    let f = fine_of m (state_of_lem st w).volatile in
    record {
      operating = one_or_pair m f m.enabled.operating f.enabled.operating;
      orientational = allowed m f Ksb _ refl refl m.enabled.orientational f.enabled.orientational;
      levelling = allowed m f Kld _ refl refl m.enabled.levelling f.enabled.levelling;
      shown = query_replies st w (ascii "KEN?") enabled_ones ken_read refl refl;
    }

-- ---- KLN?

module _ (m : Memory) (fine : Fine m) where
  -- what is shown for a system's name is what is shown for the system
  below_name : {r : Ref} → IsSystem m.systems r → below m (name_of m.systems r) ≡ pred_name m.systems r
  unfolding ref_or
  below_name s = ap (λ o. pred_name m.systems (ref_or o)) (is_found m fine s)

  -- the predecessor of a user system, in the same group
  pred_system : (k : ℕ) → 0 < k → IsSystem m.systems (in_group (of_kind (system_at m.systems k).kind).group (pred_of m.systems k))
  unfolding pred_of
  pred_system zero h = absurd (omega arith)
  pred_system (suc i) h = placed_system m.systems _ (system_at m.systems (suc i)).pred (fine.systems.preds (suc i))

  pred_name_lem : (k : ℕ) → 0 < k →
      pred_name m.systems (user_ref m.systems k) ≡ name_of m.systems (in_group (of_kind (system_at m.systems k).kind).group (pred_of m.systems k))
  unfolding pred_name pred_of
  pred_name_lem zero h = absurd (omega arith)
  pred_name_lem (suc i) h = refl

  system_ends : {r : Ref} → IsSystem m.systems r → Ends m.systems r.place
  system_ends (fixed g) = hop_zero m.systems (length m.systems)
  system_ends (user k h) = ring_free m.systems fine.ringless k h.1

  -- so many lines lead where so many links do, while the chain lasts
  passes : (i : ℕ) {r : Ref} → IsSystem m.systems r → i ≤ steps m.systems r.place →
      followed_down m i (name_of m.systems r) ≡ name_of m.systems (in_group r.group (hop m.systems i r.place))
  unfolding followed_down hop
  passes zero s h = refl
  passes (suc i) (fixed g) h = absurd (omega (arith, steps_zero m.systems))
  passes (suc i) (user k st) h =
      let fewer = steps_pred m.systems k st.0 (system_ends (user k st)) in
      ap (followed_down m i) (below_name (user k st) ∙ pred_name_lem k st.0) ∙ passes i (pred_system k st.0) (omega arith)

  down : (n : List ℕ) (r : Ref) → find m n ≡ some r → Down m n r
  unfolding name_of
  down n r e =
      let l = m.systems in
      let f = found_is m n r e in
      let c = chain_length l r.place in
      let end = system_ends f.0 in
      let pass : (i : ℕ) → i ≤ length (chain l r.place) → followed_down m i n ≡ name_of l (in_group r.group (hop l i r.place)) =
      λ i h. ap (followed_down m i) (sym f.1) ∙ passes i f.0 (rw c at h) in
      record {
        passes = pass;
        ends =
            pass (length (chain l r.place)) (omega arith)
            ∙ ap (λ x. name_of l (in_group r.group x)) (ap (λ i. hop l i r.place) c ∙ steps_end l r.place end);
        few = omega (arith, c, steps_within l r.place end, fine.systems.few);
      }

  line_is : {r : Ref} → IsSystem m.systems r → link_line m.systems r ≡ line_below m r
  unfolding link_line joined
  line_is s = rw (append-nil, below_name s)

  lines_are : map (link_line m.systems) (every_system m.systems) ≡ map (line_below m) (every_system m.systems)
  unfolding every_system
  lines_are =
      let l = m.systems in
      let rest : map (link_line l) (table (length l) (λ i. user_ref l (suc i))) ≡ map (line_below m) (table (length l) (λ i. user_ref l (suc i))) =
      map_table (link_line l) (length l) (λ i. user_ref l (suc i))
      ∙ table_cong (length l) (λ i. link_line l (user_ref l (suc i))) (λ i. line_below m (user_ref l (suc i))) (λ i h. line_is (user (suc i) (omega arith)))
      ∙ sym (map_table (line_below m) (length l) (λ i. user_ref l (suc i))) in
      rw (line_is (fixed Operating), line_is (fixed Orientational), line_is (fixed Levelling), rest)

kln_read : reading (ascii "KLN?") ≡ asks (list links)
unfolding definitions_open
kln_read = refl

kln_readable : unreadable (ascii "KLN?") ≡ false
unfolding definitions_open
kln_readable = refl

pub kln_leads : (st : State) → well_formed st ≡ true → LeadsDown st
unfolding listed query_ladder first
kln_leads st w =
    let m = st.volatile in
    let f = fine_of m (state_of_lem st w).volatile in
    let r = query_replies st w (ascii "KLN?") links kln_read kln_readable refl in
    record { down = down m f; shown = rw (lines_are m f) at r }
