-- How many systems the test for use looks at: the enabled chains are of different types, so no user system is met twice.
use Prim.Native.Nat.{ℕ, ◌+◌, ◌≤◌, ◌<◌}
use mathlib.Core.Path.{◌≡◌, refl, ◌∙◌}
use mathlib.Core.List.{List, [], ◌∷◌, ◌++◌}
use mathlib.Core.Bool.{Bool, true, false}
use mathlib.Core.Logic.{⊎_elim}
use native.Mathlib.Omega.{arith}
use native.Mathlib.Decide.{dec_lt}
use lib.ListN.{length, length-map, length-append}
use Rattle.model.specs.Types.{Kind, Ksd, Kst, Ksw, Ksb, Kld, Ksf, Group, Operating, Orientational, Levelling, OperatingPart, Single, Pair}
use Rattle.model.specs.Lists.{kept}
use Rattle.model.specs.Limits.{max_systems}
use Rattle.model.specs.Kinds.{same_kind}
use Rattle.model.specs.Memory.{System, Memory, system_at}
use Rattle.model.specs.Chain.{hop, steps, chain}
use Rattle.model.specs.Use.{in_group, down_from, looked_at}
use Rattle.model.proofs.Basics.{either}
use Rattle.model.proofs.Chains.Hops.{In, here, there, places_up_to, up_to_length, up_to_in, within, ring_free}
use Rattle.model.proofs.Chains.Steps.{chain_length, steps_before}
use Rattle.model.proofs.Chains.Looked.{placed_hop, last_two, looked_with, looked_parts}
use Rattle.model.proofs.Memories.Fine.{Placed, PartPlaced, Fine, kind_same, placed_within}

-- ---- the systems of a type

one : Bool → ℕ
one true = 1
one false = 0

module _ (p : ℕ → Bool) where
  in_kept : {x : ℕ} {l : List ℕ} → In x l → p x ≡ true → In x (kept p l)
  unfolding kept
  in_kept here e = rw e here
  in_kept (there {y = y} i) e = ⊎_elim (λ t. rw t (there (in_kept i e))) (λ t. rw t (in_kept i e)) (either (p y))

  kept_one : (x : ℕ) (l : List ℕ) → length (kept p (x ∷ l)) ≡ one (p x) + length (kept p l)
  unfolding kept one
  kept_one x l = ⊎_elim (λ t. rw t (omega arith)) (λ t. rw t (omega arith)) (either (p x))

module _ (l : List System) where
  is_of : Kind → ℕ → Bool
  is_of k p = same_kind (system_at l p).kind k

  among : Kind → List ℕ → ℕ
  among k ps = length (kept (is_of k) ps)

  of_type : Kind → ℕ
  of_type k = among k (places_up_to (length l))

  -- a system is of one type, so that those of the six types are no more than there are
  one_type : (j : Kind) → one (same_kind j Ksd) + one (same_kind j Kst) + one (same_kind j Ksw) + one (same_kind j Ksb) + one (same_kind j Kld) + one (same_kind j Ksf) ≡ 1
  unfolding one
  one_type Ksd = refl
  one_type Kst = refl
  one_type Ksw = refl
  one_type Ksb = refl
  one_type Kld = refl
  one_type Ksf = refl

  six : (ps : List ℕ) → among Ksd ps + among Kst ps + among Ksw ps + among Ksb ps + among Kld ps + among Ksf ps ≡ length ps
  unfolding among is_of kept
  six [] = refl
  six (x ∷ ps) =
      let j = (system_at l x).kind in
      omega (arith, six ps, one_type j, kept_one (is_of Ksd) x ps, kept_one (is_of Kst) x ps, kept_one (is_of Ksw) x ps, kept_one (is_of Ksb) x ps, kept_one (is_of Kld) x ps, kept_one (is_of Ksf) x ps)

  all_types : of_type Ksd + of_type Kst + of_type Ksw + of_type Ksb + of_type Kld + of_type Ksf ≡ length l
  unfolding of_type
  all_types = six (places_up_to (length l)) ∙ up_to_length (length l)

-- ---- the length of a chain

module _ (m : Memory) (fine : Fine m) where
  abbrev l : List System
  l = m.systems

  -- a chain has no more links than there are systems of its type
  few_steps : (k : Kind) (q : ℕ) → Placed l k q → steps l q ≤ of_type l k
  unfolding of_type among is_of
  few_steps k q p = go (dec_lt (length allowed) (steps l q))
    where
      allowed : List ℕ
      allowed = kept (is_of l k) (places_up_to (length l))

      on : (i : ℕ) → (hop l i q ≡ 0 → ⊥) → In (hop l i q) allowed
      on i n =
          let h = placed_hop l fine.systems k i q p (omega arith) in
          in_kept (is_of l k) (up_to_in (length l) (hop l i q) (omega arith) h.0) (kind_same h.1)

      ended : hop l (length allowed) q ≡ 0
      ended = within l (length allowed) allowed (omega arith) (length l) q (ring_free l fine.ringless q (placed_within l k q p)) on

      go : Dec (length allowed < steps l q) → steps l q ≤ length allowed
      go (yes h) = absurd (steps_before l q (length allowed) h ended)
      go (no h) = omega arith

  few_down : (k : Kind) (g : Group) (q : ℕ) → Placed l k q → length (down_from l (in_group g q)) ≤ 1 + of_type l k
  few_down k g q p = omega (arith, length-map (chain l q) (in_group g), chain_length l q, few_steps k q p)

  -- every user system once at most, and the fixed system that ends each chain
  pub few_looked : length (looked_at m) ≤ max_systems + 4
  few_looked = rw (looked_parts m) (go m.enabled.operating fine.enabled.operating)
    where
      b : ℕ
      b = m.enabled.orientational

      v : ℕ
      v = m.enabled.levelling

      last : length (last_two l b v) ≤ 2 + of_type l Ksb + of_type l Kld
      last =
          omega (
            arith,
            length-append (down_from l (in_group Orientational b)) (down_from l (in_group Levelling v) ++ []),
            length-append (down_from l (in_group Levelling v)) [],
            few_down Ksb Orientational b fine.enabled.orientational,
            few_down Kld Levelling v fine.enabled.levelling,
          )

      go : (o : OperatingPart) → PartPlaced l o → length (looked_with l b v o) ≤ max_systems + 4
      go (Single p) h =
          let parts = length-append (down_from l (in_group Operating p)) (last_two l b v) in
          ⊎_elim
          (λ d. omega (arith, parts, few_down Ksd Operating p d, last, all_types l, fine.systems.few))
          (λ f. omega (arith, parts, few_down Ksf Operating p f, last, all_types l, fine.systems.few))
          h
      go (Pair w t) h =
          omega (
            arith,
            length-append (down_from l (in_group Operating w)) (down_from l (in_group Operating t) ++ last_two l b v),
            length-append (down_from l (in_group Operating t)) (last_two l b v),
            few_down Ksw Operating w h.0,
            few_down Kst Operating t h.1,
            last,
            all_types l,
            fine.systems.few,
          )
