-- The systems that the test for use looks at: each is a system of the memory, and the place of one is among them exactly where the old test finds it.
use Prim.Native.Nat.{ℕ, zero, suc}
use mathlib.Core.Path.{◌≡◌, refl, ap, ◌∙◌}
use mathlib.Core.Logic.{⊎_elim}
use mathlib.Core.List.{List, [], ◌∷◌, ◌++◌, map}
use mathlib.Core.Bool.{Bool, ◌||◌}
use native.Mathlib.Omega.{arith}
use lib.Dec.{eqb}
use Rattle.model.specs.Types.{Kind, Ksd, Kst, Ksw, Ksb, Kld, Ksf, Operating, Orientational, Levelling, OperatingPart, Single, Pair}
use Rattle.model.specs.Lists.{any, joined, Search}
use Rattle.model.specs.Kinds.{of_kind}
use Rattle.model.specs.Memory.{System, Memory, Ref}
use Rattle.model.specs.Chain.{pred_of, hop, steps, chain, on_chain}
use Rattle.model.specs.Use.{operating_places, in_group, enabled_refs, is_in_use, down_from, looked_at}
use Rattle.model.proofs.Searches.{Each, each_append, each_map, each_table, any_append, search_map}
use Rattle.model.proofs.Memories.Fine.{Placed, PartPlaced, Systems, Fine}
use Rattle.model.proofs.Memories.Found.{IsSystem, placed_system}

-- ---- each is a system

module _ (l : List System) (s : Systems l) (k : Kind) where
  -- a chain keeps to its type
  placed_pred : (q : ℕ) → Placed l k q → Placed l k (pred_of l q)
  unfolding pred_of
  placed_pred zero p h = absurd (omega arith)
  placed_pred (suc i) p h = rw (p (omega arith)).1 at (s.preds (suc i) h)

  pub placed_hop : (i q : ℕ) → Placed l k q → Placed l k (hop l i q)
  unfolding hop
  placed_hop zero q p = p
  placed_hop (suc i) q p = placed_hop i (pred_of l q) (placed_pred q p)

  down_systems : (q : ℕ) → Placed l k q → Each (IsSystem l) (down_from l (in_group (of_kind k).group q))
  unfolding chain
  down_systems q p = (
    placed_system l k q p,
    each_map (IsSystem l) (in_group (of_kind k).group) (chain l q)
        (each_table (λ x. IsSystem l (in_group (of_kind k).group x)) (steps l q) (λ i. hop l (suc i) q) (λ i. placed_system l k _ (placed_hop (suc i) q p))),
  )

-- the enabled ones one after the other, each with its chain
module _ (l : List System) (b v : ℕ) where
  abbrev pub last_two : List Ref
  last_two = down_from l (in_group Orientational b) ++ (down_from l (in_group Levelling v) ++ [])

  abbrev pub looked_with : OperatingPart → List Ref
  looked_with (Single p) = down_from l (in_group Operating p) ++ last_two
  looked_with (Pair w t) = down_from l (in_group Operating w) ++ (down_from l (in_group Operating t) ++ last_two)

pub looked_parts : (m : Memory) → looked_at m ≡ looked_with m.systems m.enabled.orientational m.enabled.levelling m.enabled.operating
unfolding looked_at enabled_refs joined
looked_parts m = go m.enabled.operating
  where
    go : (o : OperatingPart) → joined (map (down_from m.systems) (map (in_group Operating) (operating_places o) ++ (in_group Orientational m.enabled.orientational ∷ in_group Levelling m.enabled.levelling ∷ [])))
        ≡ looked_with m.systems m.enabled.orientational m.enabled.levelling o
    go (Single p) = refl
    go (Pair w t) = refl

pub looked_systems : (m : Memory) → Fine m → Each (IsSystem m.systems) (looked_at m)
looked_systems m fine = rw (looked_parts m) (go m.enabled.operating fine.enabled.operating)
  where
    l : List System
    l = m.systems

    -- a system and its chain stand before the rest
    front : (k : Kind) (q : ℕ) (rest : List Ref) → Placed l k q → Each (IsSystem l) rest → Each (IsSystem l) (down_from l (in_group (of_kind k).group q) ++ rest)
    front k q rest p r = each_append (IsSystem l) (down_from l (in_group (of_kind k).group q)) rest (down_systems l fine.systems k q p) r

    last : Each (IsSystem l) (last_two l m.enabled.orientational m.enabled.levelling)
    last = front Ksb m.enabled.orientational _ fine.enabled.orientational (front Kld m.enabled.levelling [] fine.enabled.levelling tt)

    go : (o : OperatingPart) → PartPlaced l o → Each (IsSystem l) (looked_with l m.enabled.orientational m.enabled.levelling o)
    go (Single p) h = ⊎_elim (λ d. front Ksd p _ d last) (λ f. front Ksf p _ f last) h
    go (Pair w t) h = front Ksw w _ h.0 (front Kst t _ h.1 last)

-- ---- the old test

any_joined : {A B : Type 0} (p : B → Bool) (f : A → List B) (l : List A) → any p (joined (map f l)) ≡ any (λ x. any p (f x)) l
unfolding any joined
any_joined p f [] = refl
any_joined p f (x ∷ l) = any_append p (f x) (joined (map f l)) ∙ ap (λ (t : Bool). any p (f x) || t) (any_joined p f l)

-- a place is among those looked at where an enabled one stands there, or has it on its chain
pub looked_place : (m : Memory) (k : ℕ) → any (λ (r : Ref). eqb k r.place) (looked_at m) ≡ is_in_use m k
unfolding is_in_use looked_at on_chain any
looked_place m k = any_joined at_k (down_from m.systems) (enabled_refs m.enabled) ∙ (λ d. any (λ (r : Ref). eqb k r.place || down r d) (enabled_refs m.enabled))
  where
    at_k : Ref → Bool
    at_k r = eqb k r.place

    down : (r : Ref) → any at_k (map (in_group r.group) (chain m.systems r.place)) ≡ any (eqb k) (chain m.systems r.place)
    down r = ap (λ (s : Search). s.found) (search_map at_k (in_group r.group) (chain m.systems r.place))
