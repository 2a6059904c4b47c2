-- After a removal every other chain is, by name, the old one without the system that went; its steps are one less where that was on it.
use Prim.Native.Nat.{ℕ, zero, suc, ◌≤◌, ◌<◌}
use mathlib.Core.Path.{◌≡◌, refl, sym, ap, ◌∙◌}
use mathlib.Core.List.{List, [], ◌∷◌, map}
use mathlib.Core.Bool.{Bool, true, not}
use native.Mathlib.Omega.{arith}
use native.Mathlib.Decide.{ℕ_discrete}
use borrow.Author.Tests.{eq-eqb, ne_eqb}
use lib.Dec.{eqb}
use lib.ListN.{length}
use Rattle.model.specs.Types.{Group}
use Rattle.model.specs.Lists.{kept}
use Rattle.model.specs.Memory.{System, system_at, name_of}
use Rattle.model.specs.Use.{in_group}
use Rattle.model.specs.Chain.{pred_of, hop, steps, chain, on_chain, no_ring}
use Rattle.model.specs.Effects.{mended}
use Rattle.model.proofs.Chains.Hops.{pred_of_is, InRange, pred_in_range, no_return, ring_free}
use Rattle.model.proofs.Chains.Steps.{Ends, steps_zero, steps_end, steps_pred, chain_pred, chain_zero, on_chain→hop, hop→on_chain}
use Rattle.model.proofs.Chains.Carry.{carried_steps}
use Rattle.model.proofs.Chains.Relink.{Misses}
use Rattle.model.proofs.Edits.Removal.{mended_zero, mended_gone, mended_pred, mended_fixed, mended_in_range, without, without_length, removed_alike, removed_alike_from, removed_no_ring, not_its_own}

module _ (l : List System) (a : ℕ) (pos : 0 < a) (there : a ≤ length l) (places : InRange l) (free : no_ring l ≡ true) where
  abbrev p : ℕ
  p = (system_at l a).pred

  abbrev l' : List System
  l' = without l a

  abbrev f : ℕ → ℕ
  f = mended a p

  abbrev other : ℕ → Bool
  other x = not (eqb x a)

  own : p ≡ a → ⊥
  own = not_its_own l a pos there places free

  ends : (q : ℕ) → q ≤ length l → Ends l q
  ends q h = ring_free l free q h

  ends_after : (q : ℕ) → q ≤ length l → Ends l' (f q)
  ends_after q h =
      ring_free l' (removed_no_ring l a pos there places free) (f q)
      (rw (without_length l a pos there) (mended_in_range a p pos (length l) q there (places a) own h))

  -- what went has the new place of its predecessor
  gone : f a ≡ f p
  gone = mended_gone a p ∙ sym (mended_pred a p)

  -- the chain of a user system that stays begins with its predecessor, mended
  begins : (q : ℕ) → q ≤ length l → 0 < q → (q ≡ a → ⊥) → chain l' (f q) ≡ f (pred_of l q) ∷ chain l' (f (pred_of l q))
  begins q h k n =
      let nz : f q ≡ 0 → ⊥ = λ z. let y = mended_fixed a p pos q n z in omega arith in
      let e = (removed_alike l a pos there q n).pred in
      chain_pred l' (f q) (omega arith) (ends_after q h) ∙ ap (λ x. x ∷ chain l' x) e

  kept_other : (x : ℕ) (c : List ℕ) → (x ≡ a → ⊥) → kept other (x ∷ c) ≡ x ∷ kept other c
  unfolding kept
  kept_other x c n = rw (ne_eqb x a n)

  kept_gone : (c : List ℕ) → kept other (a ∷ c) ≡ kept other c
  unfolding kept
  kept_gone c = rw (eq-eqb a a refl)

  -- a is a user system, and so its chain begins with p
  after_gone : (steps l a ≡ suc (steps l p)) × (chain l a ≡ p ∷ chain l p)
  after_gone =
      let e = pred_of_is l a in
      (steps_pred l a pos (ends a there) ∙ rw e, chain_pred l a pos (ends a there) ∙ rw e)

  abbrev Law : ℕ → Type 0
  Law q = chain l' (f q) ≡ map f (kept other (chain l q))

  law_zero : Law 0
  unfolding kept
  law_zero = rw (mended_zero a p pos, chain_zero l', chain_zero l)

  -- one link: to what went, or to another
  law_link : (q : ℕ) → q ≤ length l → 0 < q → (q ≡ a → ⊥) → ((x : ℕ) → steps l x < steps l q → x ≤ length l → (x ≡ a → ⊥) → Law x) → Law q
  law_link q h k n rec = go (ℕ_discrete (pred_of l q) a)
    where
      fewer : steps l q ≡ suc (steps l (pred_of l q))
      fewer = steps_pred l q k (ends q h)

      go : Dec (pred_of l q ≡ a) → Law q
      go (yes e) =
          let fewer-gone = after_gone.0 in
          let at_a : steps l (pred_of l q) ≡ steps l a = rw e in
          let r = rec p (omega (arith, fewer, fewer-gone)) (places a) own in
          begins q h k n
          ∙ rw (e, gone, r, chain_pred l q k (ends q h), e, after_gone.1, kept_gone (p ∷ chain l p), kept_other p (chain l p) own)
      go (no e) =
          let r = rec (pred_of l q) (omega (arith, fewer)) (pred_in_range l places q) e in
          begins q h k n ∙ rw (r, chain_pred l q k (ends q h), kept_other (pred_of l q) (chain l (pred_of l q)) e)

  law : (n q : ℕ) → steps l q ≤ n → q ≤ length l → (q ≡ a → ⊥) → Law q
  unfolding hop
  law zero q s h n =
      let z : steps l q ≡ 0 = omega arith in
      let e : q ≡ 0 = rw z at (steps_end l q (ends q h)) in
      rw e law_zero
  law (suc m) q s h n = go (ℕ_discrete q 0) (λ x k. law m x (omega arith))
    where
      go : Dec (q ≡ 0) → ((x : ℕ) → steps l x < steps l q → x ≤ length l → (x ≡ a → ⊥) → Law x) → Law q
      go (yes e) rec = rw e law_zero
      go (no e) rec = law_link q h (omega arith) n rec

  -- the places of a chain, mended
  pub removed_chain : (q : ℕ) → q ≤ length l → (q ≡ a → ⊥) →
      chain (without l a) (mended a (system_at l a).pred q) ≡ map (mended a (system_at l a).pred) (kept (λ x. not (eqb x a)) (chain l q))
  removed_chain q = law (steps l q) q (omega arith)

  -- by name
  pub removed_names : (g : Group) (q : ℕ) → q ≤ length l → (q ≡ a → ⊥) →
      map (λ x. name_of (without l a) (in_group g x)) (chain (without l a) (mended a (system_at l a).pred q))
      ≡ map (λ x. name_of l (in_group g x)) (kept (λ x. not (eqb x a)) (chain l q))
  unfolding kept
  removed_names g q h n = ap (map (λ x. name_of l' (in_group g x))) (removed_chain q h n) ∙ each (chain l q)
    where
      each : (c : List ℕ) → map (λ x. name_of l' (in_group g x)) (map f (kept other c)) ≡ map (λ x. name_of l (in_group g x)) (kept other c)
      each [] = refl
      each (x ∷ c) = go (ℕ_discrete x a) (each c)
        where
          go : Dec (x ≡ a) → map (λ x. name_of l' (in_group g x)) (map f (kept other c)) ≡ map (λ x. name_of l (in_group g x)) (kept other c) →
              map (λ x. name_of l' (in_group g x)) (map f (kept other (x ∷ c))) ≡ map (λ x. name_of l (in_group g x)) (kept other (x ∷ c))
          go (yes e) r = rw (eq-eqb x a e) r
          go (no e) r = rw (ne_eqb x a e) (rw ((removed_alike l a pos there x e).name g) (ap (λ t. name_of l (in_group g x) ∷ t) r))

  -- ---- steps

  -- what went is not on its predecessor's chain
  missed : Misses l a p
  unfolding hop
  missed i e = let z = no_return l (length l) i a (ends a there) (ap (hop l i) (pred_of_is l a) ∙ e) in omega arith

  pub removed_steps_off : (q : ℕ) → q ≤ length l → Misses l a q → steps (without l a) (mended a (system_at l a).pred q) ≡ steps l q
  removed_steps_off q h off = carried_steps l l' f q (removed_alike_from l a pos there q off) (ends q h) (ends_after q h)

  one_more : (q : ℕ) → q ≤ length l → 0 < q → (q ≡ a → ⊥) → steps l' (f q) ≡ suc (steps l' (f (pred_of l q)))
  one_more q h k n =
      let nz : f q ≡ 0 → ⊥ = λ z. let y = mended_fixed a p pos q n z in omega arith in
      let e = (removed_alike l a pos there q n).pred in
      steps_pred l' (f q) (omega arith) (ends_after q h) ∙ ap (λ x. suc (steps l' x)) e

  fewer_law : (n q : ℕ) → steps l q ≤ n → q ≤ length l → (q ≡ a → ⊥) → on_chain l a q ≡ true → suc (steps l' (f q)) ≡ steps l q
  unfolding hop
  fewer_law zero q s h n on = let w = on_chain→hop l a q on in absurd (omega (arith, w.1))
  fewer_law (suc m) q s h n on = go (ℕ_discrete q 0) (ℕ_discrete (pred_of l q) a) (λ k. fewer_law m (pred_of l q) k)
    where
      x : ℕ
      x = pred_of l q

      later : 0 < q → (x ≡ a → ⊥) → on_chain l a x ≡ true
      later k e =
          let w = on_chain→hop l a q on in
          at w.0 w.1 w.2
        where
          at : (i : ℕ) → i < steps l q → hop l (suc i) q ≡ a → on_chain l a x ≡ true
          at zero lt y = absurd (e y)
          at (suc i) lt y = hop→on_chain l a x i (omega (arith, steps_pred l q k (ends q h))) y

      go : Dec (q ≡ 0) → Dec (x ≡ a) → (steps l x ≤ m → x ≤ length l → (x ≡ a → ⊥) → on_chain l a x ≡ true → suc (steps l' (f x)) ≡ steps l x) →
          suc (steps l' (f q)) ≡ steps l q
      go (yes z) d rec = let w = on_chain→hop l a q on in absurd (let y : steps l q ≡ 0 = rw z (steps_zero l) in omega (arith, w.1))
      go (no z) (yes e) rec =
          let same : steps l' (f p) ≡ steps l p = removed_steps_off p (places a) missed in
          let up : steps l' (f q) ≡ suc (steps l' (f p)) = one_more q h (omega arith) n ∙ rw (e, gone) in
          let down : steps l q ≡ suc (steps l a) = steps_pred l q (omega arith) (ends q h) ∙ rw e in
          omega (arith, after_gone.0)
      go (no z) (no e) rec =
          let up = one_more q h (omega arith) n in
          let down = steps_pred l q (omega arith) (ends q h) in
          let r = rec (omega arith) (pred_in_range l places q) e (later (omega arith) e) in
          omega arith

  pub removed_steps_on : (q : ℕ) → q ≤ length l → (q ≡ a → ⊥) → on_chain l a q ≡ true →
      suc (steps (without l a) (mended a (system_at l a).pred q)) ≡ steps l q
  removed_steps_on q = fewer_law (steps l q) q (omega arith)
