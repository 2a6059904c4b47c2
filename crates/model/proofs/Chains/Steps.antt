-- Laws of chains that end: their steps, their places, what is on them, and the resultant.
use Prim.Native.Nat.{ℕ, zero, suc, ◌+◌, ◌≤◌, ◌<◌}
use mathlib.Core.Path.{◌≡◌, refl, sym, ap, ◌∙◌}
use mathlib.Core.List.{List, [], ◌∷◌}
use mathlib.Core.Bool.{true, false}
use native.Mathlib.Omega.{arith}
use native.Mathlib.Decide.{dec_lt}
use borrow.Author.Tests.{eq-eqb, ne_eqb, eqb-true, eqb-false}
use lib.Dec.{eqb}
use lib.ListN.{length, get_or}
use Rattle.model.specs.Lists.{table}
use Rattle.model.specs.Pose.{followed, neutral}
use Rattle.model.specs.Memory.{System}
use Rattle.model.specs.Chain.{pred_of, hop, steps, chain, on_chain, own_pose, pose_over, resultant}
use Rattle.model.proofs.Basics.{any_at, any_where, least_hit, least_miss, least_is, length_table, table_at}
use Rattle.model.proofs.Chains.Hops.{hop_add, hop_past, hop_next}

-- the chain of q ends within as many links as there are systems; `ring_free` gives it for every place of a list without a ring
abbrev pub Ends : List System → ℕ → Type 0
Ends l q = hop l (length l) q ≡ 0

module _ (l : List System) where
  pub ends_pred : (q : ℕ) → Ends l q → Ends l (pred_of l q)
  ends_pred q e = sym (hop_next l (length l) q) ∙ hop_past l (length l) (suc (length l)) q (omega arith) e

  -- the steps are the first number of links that leads to the fixed system
  pub steps_is : (q n : ℕ) → n ≤ length l → hop l n q ≡ 0 → ((i : ℕ) → i < n → hop l i q ≡ 0 → ⊥) → steps l q ≡ n
  unfolding steps
  steps_is q n h e f = least_is (suc (length l)) (λ i. eqb (hop l i q) 0) n (omega arith) (eq-eqb _ _ e) (λ i k. ne_eqb _ _ (f i k))

  pub steps_before : (q i : ℕ) → i < steps l q → hop l i q ≡ 0 → ⊥
  unfolding steps
  steps_before q i h = eqb-false _ _ (least_miss (suc (length l)) (λ i. eqb (hop l i q) 0) i h)

  pub steps_zero : steps l 0 ≡ 0
  unfolding hop
  steps_zero = steps_is 0 0 (omega arith) refl (λ i h e. omega arith)

  pub chain_length : (q : ℕ) → length (chain l q) ≡ steps l q
  unfolding chain
  chain_length q = length_table (steps l q) (λ i. hop l (suc i) q)

  pub chain_at : (q i : ℕ) → i < steps l q → get_or (chain l q) i 0 ≡ hop l (suc i) q
  unfolding chain
  chain_at q i h = table_at (steps l q) (λ i. hop l (suc i) q) 0 i h

  pub on_chain→hop : (a q : ℕ) → on_chain l a q ≡ true → (i : ℕ) × (i < steps l q) × (hop l (suc i) q ≡ a)
  unfolding on_chain
  on_chain→hop a q e =
      let w = any_where (eqb a) (chain l q) 0 e in
      let h : w.0 < steps l q = omega (arith, chain_length q, w.1) in
      (w.0, h, sym (chain_at q w.0 h) ∙ sym (eqb-true _ _ w.2))

  pub hop→on_chain : (a q i : ℕ) → i < steps l q → hop l (suc i) q ≡ a → on_chain l a q ≡ true
  unfolding on_chain
  hop→on_chain a q i h e = any_at (eqb a) (chain l q) 0 i (omega (arith, chain_length q)) (eq-eqb _ _ (sym e ∙ sym (chain_at q i h)))

  -- what follows is of a place whose chain ends
  module _ (q : ℕ) (ends : Ends l q) where
    pub steps_within : steps l q ≤ length l
    unfolding steps
    steps_within = go (dec_lt (length l) (steps l q))
      where
        go : Dec (length l < steps l q) → steps l q ≤ length l
        go (yes h) = absurd (steps_before q (length l) h ends)
        go (no h) = omega arith

    pub steps_end : hop l (steps l q) q ≡ 0
    unfolding steps
    steps_end = eqb-true _ _ (least_hit (suc (length l)) (λ i. eqb (hop l i q) 0) (omega (arith, steps_within)))

    -- any number of links that leads from nonzero places to the fixed system for the first time is the steps
    pub steps_first : (n : ℕ) → hop l n q ≡ 0 → ((i : ℕ) → i < n → hop l i q ≡ 0 → ⊥) → steps l q ≡ n
    steps_first n e f = steps_is q n (go (dec_lt (length l) n)) e f
      where
        go : Dec (length l < n) → n ≤ length l
        go (yes h) = absurd (f (length l) h ends)
        go (no h) = omega arith

    -- a place that is not on the chain is met after no number of links
    pub off_chain : (a i : ℕ) → 0 < a → on_chain l a q ≡ false → hop l (suc i) q ≡ a → ⊥
    off_chain a i p e h = go (dec_lt i (steps l q))
      where
        never : true ≡ false → ⊥
        never n = let z : ◌≡◌ {A = ℕ} 0 1 = cc in omega arith

        go : Dec (i < steps l q) → ⊥
        go (yes k) = never (sym (hop→on_chain a q i k h) ∙ e)
        go (no k) = let z = hop_past l (steps l q) (suc i) q (omega arith) steps_end in omega arith

    -- nor is it the place itself, where that is another
    pub off_path : (a i : ℕ) → 0 < a → (q ≡ a → ⊥) → on_chain l a q ≡ false → hop l i q ≡ a → ⊥
    unfolding hop
    off_path a zero p n e h = n h
    off_path a (suc i) p n e h = off_chain a i p e h

  -- j links down the chain there are j steps less
  pub steps_hop : (q j n : ℕ) → Ends l q → j + n ≡ steps l q → steps l (hop l j q) ≡ n
  steps_hop q j n e s =
      steps_is (hop l j q) n (omega (arith, steps_within q e)) (sym (hop_add l j n q) ∙ ap (λ (k : ℕ). hop l k q) s ∙ steps_end q e)
      (λ i h z. steps_before q (j + i) (omega arith) (hop_add l j i q ∙ z))

  pub steps_pred : (q : ℕ) → 0 < q → Ends l q → steps l q ≡ suc (steps l (pred_of l q))
  unfolding hop
  steps_pred q p e =
      let p' = pred_of l q in
      steps_first q e (suc (steps l p')) (steps_end p' (ends_pred q e)) (λ i h z. before i h z)
    where
      before : (i : ℕ) → i < suc (steps l (pred_of l q)) → hop l i q ≡ 0 → ⊥
      before zero h z = omega arith
      before (suc i) h z = steps_before (pred_of l q) i (omega arith) z

  pub chain_pred : (q : ℕ) → 0 < q → Ends l q → chain l q ≡ pred_of l q ∷ chain l (pred_of l q)
  unfolding chain hop table
  chain_pred q p e = rw (steps_pred q p e)

  pub chain_zero : chain l 0 ≡ []
  unfolding chain table
  chain_zero = rw steps_zero

  pub resultant_pred : (q : ℕ) → 0 < q → Ends l q → resultant l q ≡ followed (resultant l (pred_of l q)) (own_pose l q)
  unfolding resultant pose_over
  resultant_pred q p e = rw (steps_pred q p e)

  pub resultant_zero : resultant l 0 ≡ neutral
  unfolding resultant pose_over
  resultant_zero = rw steps_zero
