-- One system replaced, or one put last: chains that do not meet it are as they were, and no ring arises where its predecessor's chain does not meet it.
use Prim.Native.Nat.{ℕ, zero, suc, ◌-◌, ◌≤◌, ◌<◌}
use mathlib.Core.Path.{◌≡◌, refl, ap, ◌∙◌}
use mathlib.Core.List.{List, [], ◌∷◌, ◌++◌}
use mathlib.Core.Bool.{true}
use native.Mathlib.Omega.{arith}
use native.Mathlib.Decide.{ℕ_discrete}
use lib.ListN.{length, set, length-set, length-append, get_or-append}
use lib.Seq.{get_or-set_same, get_or-set_other, get_or-append_seam}
use Rattle.model.specs.Memory.{System, system_at, name_of, blank}
use Rattle.model.specs.Chain.{pred_of, hop, own_pose, no_ring}
use Rattle.model.proofs.Chains.Hops.{InRange, hop_past, hop_next, hop_in_range, ends_in_time, ring_free, ring_free_from}
use Rattle.model.proofs.Chains.Carry.{Alike, AlikeFrom, carried_hop}

-- the same system at the same place
pub alike_here : (l l' : List System) (x : ℕ) → system_at l' x ≡ system_at l x → Alike l l' (λ q. q) x
unfolding pred_of own_pose name_of
alike_here l l' zero e = record { pred = refl; pose = rw e; name = λ g. refl; fixed = refl }
alike_here l l' (suc i) e = record { pred = ap (λ (s : System). s.pred) e; pose = rw e; name = λ g. ap (λ (s : System). s.name) e; fixed = refl }

-- no link of the chain of q leads to place k, and q is another
abbrev pub Misses : List System → ℕ → ℕ → Type 0
Misses l k q = (i : ℕ) → hop l i q ≡ k → ⊥

-- ---- the system at place k replaced by s

module _ (l : List System) (k : ℕ) (s : System) (pos : 0 < k) where
  pub replaced_other : (q : ℕ) → (q ≡ k → ⊥) → system_at (set l (k - 1) s) q ≡ system_at l q
  unfolding system_at
  replaced_other zero n = refl
  replaced_other (suc j) n = get_or-set_other l (k - 1) j s blank (λ e. n (omega arith))

  pub replaced_alike : (q : ℕ) → Misses l k q → AlikeFrom l (set l (k - 1) s) (λ x. x) q
  replaced_alike q off i = alike_here l (set l (k - 1) s) (hop l i q) (replaced_other (hop l i q) (off i))

  pub replaced_hop : (q : ℕ) → Misses l k q → (i : ℕ) → hop (set l (k - 1) s) i q ≡ hop l i q
  replaced_hop q off i = carried_hop l (set l (k - 1) s) (λ x. x) q (replaced_alike q off) i

  module _ (there : k ≤ length l) where
    pub replaced_same : system_at (set l (k - 1) s) k ≡ s
    unfolding system_at
    replaced_same = go k pos there
      where
        go : (k : ℕ) → 0 < k → k ≤ length l → system_at (set l (k - 1) s) k ≡ s
        go zero p t = absurd (omega arith)
        go (suc j) p t = let e : suc j - 1 ≡ j = omega arith in rw e (get_or-set_same l j s blank t)

    module _ (places : InRange l) (place : s.pred ≤ length l) where
      pub replaced_in_range : InRange (set l (k - 1) s)
      replaced_in_range j = rw length-set (go (ℕ_discrete j k))
        where
          go : Dec (j ≡ k) → (system_at (set l (k - 1) s) j).pred ≤ length l
          go (yes e) = rw (e, replaced_same) place
          go (no n) = rw (replaced_other j n) (places j)

      module _ (free : no_ring l ≡ true) (off : Misses l k s.pred) where
        replaced_ends : (f q : ℕ) → hop l f q ≡ 0 → (g : ℕ) × (hop (set l (k - 1) s) g q ≡ 0)
        unfolding hop pred_of
        replaced_ends zero q e = (0, e)
        replaced_ends (suc f) q e = go (ℕ_discrete q k) (replaced_ends f (pred_of l q) e)
          where
            l' : List System
            l' = set l (k - 1) s

            new_pred : pred_of l' k ≡ s.pred
            new_pred = at k pos replaced_same
              where
                at : (k : ℕ) → 0 < k → system_at l' k ≡ s → pred_of l' k ≡ s.pred
                at zero p e = absurd (omega arith)
                at (suc j) p e = ap (λ (s : System). s.pred) e

            go : Dec (q ≡ k) → (g : ℕ) × (hop l' g (pred_of l q) ≡ 0) → (g : ℕ) × (hop l' g q ≡ 0)
            go (yes y) r =
                let e : hop l' (suc (length l)) q ≡ hop l' (length l) s.pred =
                ap (hop l' (suc (length l))) y ∙ hop_next l' (length l) k ∙ ap (hop l' (length l)) new_pred in
                (suc (length l), e ∙ replaced_hop s.pred off (length l) ∙ ring_free l free s.pred place)
            go (no n) r = (suc r.0, ap (hop l' r.0) (alike_here l l' q (replaced_other q n)).pred ∙ r.1)

        pub replaced_no_ring : no_ring (set l (k - 1) s) ≡ true
        replaced_no_ring =
            ring_free_from (set l (k - 1) s) (λ q h.
            let r = replaced_ends (length l) q (ring_free l free q (rw length-set at h)) in
            ends_in_time (set l (k - 1) s) replaced_in_range r.0 q h r.1)

-- ---- the system s put last

module _ (l : List System) (s : System) where
  pub added_length : length (l ++ (s ∷ [])) ≡ suc (length l)
  added_length = length-append l (s ∷ []) ∙ omega arith

  pub added_old : (q : ℕ) → q ≤ length l → system_at (l ++ (s ∷ [])) q ≡ system_at l q
  unfolding system_at
  added_old zero h = refl
  added_old (suc j) h = get_or-append l (s ∷ []) blank j h

  pub added_new : system_at (l ++ (s ∷ [])) (suc (length l)) ≡ s
  unfolding system_at
  added_new = get_or-append_seam l s [] blank

  module _ (places : InRange l) where
    pub added_alike : (q : ℕ) → q ≤ length l → AlikeFrom l (l ++ (s ∷ [])) (λ x. x) q
    added_alike q h i = alike_here l (l ++ (s ∷ [])) (hop l i q) (added_old (hop l i q) (hop_in_range l places i q h))

    pub added_hop : (q : ℕ) → q ≤ length l → (i : ℕ) → hop (l ++ (s ∷ [])) i q ≡ hop l i q
    added_hop q h i = carried_hop l (l ++ (s ∷ [])) (λ x. x) q (added_alike q h) i

    pub added_no_ring : s.pred ≤ length l → no_ring l ≡ true → no_ring (l ++ (s ∷ [])) ≡ true
    unfolding hop pred_of
    added_no_ring p free = ring_free_from (l ++ (s ∷ [])) (λ q h. rw added_length (go q (ℕ_discrete q (suc (length l))) (rw added_length at h)))
      where
        go : (q : ℕ) → Dec (q ≡ suc (length l)) → q ≤ suc (length l) → hop (l ++ (s ∷ [])) (suc (length l)) q ≡ 0
        go q (yes e) h =
            let l' = l ++ (s ∷ []) in
            let new_pred : pred_of l' (suc (length l)) ≡ s.pred = ap (λ (s : System). s.pred) added_new in
            ap (hop l' (suc (length l))) e ∙ hop_next l' (length l) (suc (length l)) ∙ ap (hop l' (length l)) new_pred
            ∙ added_hop s.pred p (length l) ∙ ring_free l free s.pred p
        go q (no n) h =
            let k : q ≤ length l = omega arith in
            added_hop q k (suc (length l)) ∙ hop_past l (length l) (suc (length l)) q (omega arith) (ring_free l free q k)
