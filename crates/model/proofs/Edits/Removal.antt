-- A removal: the places behind move up, and every other chain goes on without the system that went. No ring arises.
use Prim.Native.Nat.{ℕ, zero, suc, ◌+◌, ◌-◌, ◌≤◌, ◌<◌}
use mathlib.Core.Path.{◌≡◌, refl, sym, ap, ◌∙◌}
use mathlib.Core.List.{List, ◌++◌, map}
use mathlib.Core.Bool.{Bool, true, false, cond}
use native.Mathlib.Omega.{arith}
use native.Mathlib.Decide.{dec_lt, ℕ_discrete}
use borrow.Author.Tests.{eq-eqb, ne_eqb, lt-ltb, le-ltb}
use lib.Dec.{eqb, ltb}
use lib.ListN.{length, get_or, take, drop, length-append, length-drop, length-map, get_or-append, get_or-map}
use lib.Seq.{get_or-take, get_or-drop, get_or-append-add, length-take-le}
use Rattle.model.specs.Memory.{System, system_at, name_of, blank}
use Rattle.model.specs.Chain.{pred_of, hop, own_pose, no_ring}
use Rattle.model.specs.Effects.{moved_up, mended, mended_system}
use Rattle.model.proofs.Chains.Hops.{pred_of_is, InRange, no_return, ends_in_time, ring_free, ring_free_from}
use Rattle.model.proofs.Chains.Carry.{Alike, AlikeFrom}
use Rattle.model.proofs.Chains.Relink.{Misses}

-- ---- places

pub moved_low : (a q : ℕ) → q ≤ a → moved_up a q ≡ q
unfolding moved_up
moved_low a q h = rw (le-ltb a q h)

pub moved_high : (a q : ℕ) → a < q → moved_up a q ≡ q - 1
unfolding moved_up
moved_high a q h = rw (lt-ltb a q h)

-- the old place of what stands at place x when a has gone
unfoldable pub old : ℕ → ℕ → ℕ
old a x = cond (ltb x a) x (suc x)

pub old_low : (a x : ℕ) → x < a → old a x ≡ x
unfolding old
old_low a x h = rw (lt-ltb x a h)

pub old_high : (a x : ℕ) → a ≤ x → old a x ≡ suc x
unfolding old
old_high a x h = rw (le-ltb x a h)

module _ (a p : ℕ) where
  pub mended_other : (q : ℕ) → (q ≡ a → ⊥) → mended a p q ≡ moved_up a q
  unfolding mended
  mended_other q n = rw (ne_eqb q a n)

  pub mended_gone : mended a p a ≡ moved_up a p
  unfolding mended
  mended_gone = rw (eq-eqb a a refl)

  -- the predecessor of what went is mended like any other place
  pub mended_pred : mended a p p ≡ moved_up a p
  unfolding mended
  mended_pred = go (eqb p a)
    where
      go : (t : Bool) → moved_up a (cond t p p) ≡ moved_up a p
      go true = refl
      go false = refl

  module _ (pos : 0 < a) where
    pub mended_zero : mended a p 0 ≡ 0
    mended_zero = mended_other 0 (λ e. omega arith) ∙ moved_low a 0 (omega arith)

    -- places other than a, and their new places
    pub mended_old : (x : ℕ) → mended a p (old a x) ≡ x
    mended_old x = go (dec_lt x a)
      where
        go : Dec (x < a) → mended a p (old a x) ≡ x
        go (yes h) = rw (old_low a x h, mended_other x (λ e. omega arith)) (moved_low a x (omega arith))
        go (no h) = rw (old_high a x (omega arith), mended_other (suc x) (λ e. omega arith), moved_high a (suc x) (omega arith)) (omega arith)

    pub old_mended : (q : ℕ) → (q ≡ a → ⊥) → old a (mended a p q) ≡ q
    old_mended q n = rw (mended_other q n) (go (dec_lt a q))
      where
        go : Dec (a < q) → old a (moved_up a q) ≡ q
        go (yes h) = rw (moved_high a q h, old_high a (q - 1) (omega arith)) (omega arith)
        go (no h) = rw (moved_low a q (omega arith), old_low a q (omega arith))

    pub mended_fixed : (q : ℕ) → (q ≡ a → ⊥) → mended a p q ≡ 0 → q ≡ 0
    mended_fixed q n e = sym (old_mended q n) ∙ rw (e, old_low a 0 pos)

    -- places stay in range
    pub mended_in_range : (n q : ℕ) → a ≤ n → p ≤ n → (p ≡ a → ⊥) → q ≤ n → mended a p q ≤ n - 1
    mended_in_range n q ha hp d hq = go (ℕ_discrete q a)
      where
        up : (x : ℕ) → x ≤ n → (x ≡ a → ⊥) → moved_up a x ≤ n - 1
        up x h e = side (dec_lt a x)
          where
            side : Dec (a < x) → moved_up a x ≤ n - 1
            side (yes k) = rw (moved_high a x k) (omega arith)
            side (no k) = rw (moved_low a x (omega arith)) (omega arith)

        go : Dec (q ≡ a) → mended a p q ≤ n - 1
        go (yes e) = rw (e, mended_gone) (up p hp d)
        go (no e) = rw (mended_other q e) (up q hq e)

-- ---- systems

-- what is left when place a goes, as `removed_at` has it
abbrev pub without : List System → ℕ → List System
without l a = map (mended_system a (system_at l a).pred) (take (a - 1) l ++ drop a l)

module _ (l : List System) (a : ℕ) (pos : 0 < a) (there : a ≤ length l) where
  p : ℕ
  p = (system_at l a).pred

  pub without_length : length (without l a) ≡ length l - 1
  without_length =
      let k = take (a - 1) l ++ drop a l in
      length-map k (mended_system a (system_at l a).pred)
      ∙ omega (arith, length-append (take (a - 1) l) (drop a l), length-take-le (a - 1) l (omega arith), length-drop a l)

  -- the place's old system, by its index
  without_at : (j : ℕ) → get_or (take (a - 1) l ++ drop a l) j blank ≡ system_at l (old a (suc j))
  unfolding system_at
  without_at j = go (dec_lt (suc j) a)
    where
      front : length (take (a - 1) l) ≡ a - 1
      front = length-take-le (a - 1) l (omega arith)

      go : Dec (suc j < a) → get_or (take (a - 1) l ++ drop a l) j blank ≡ system_at l (old a (suc j))
      go (yes h) =
          rw (old_low a (suc j) h)
          (get_or-append (take (a - 1) l) (drop a l) blank j (omega (arith, front)) ∙ get_or-take (a - 1) l j blank (omega arith))
      go (no h) =
          let r = j - (a - 1) in
          let e : j ≡ length (take (a - 1) l) + r = omega (arith, front) in
          let s : a + r ≡ suc j = omega arith in
          rw (old_high a (suc j) (omega arith))
          (ap (λ n. get_or (take (a - 1) l ++ drop a l) n blank) e
          ∙ get_or-append-add (take (a - 1) l) (drop a l) r blank ∙ get_or-drop a l r blank ∙ ap (λ n. get_or l n blank) s)

  blank_kept : mended_system a p blank ≡ blank
  blank_kept = rw (mended_zero a p pos)

  pub removed_at_lem : (x : ℕ) → system_at (without l a) x ≡ mended_system a (system_at l a).pred (system_at l (old a x))
  unfolding system_at p
  removed_at_lem zero = rw (old_low a 0 pos) (sym blank_kept)
  removed_at_lem (suc j) =
      let f = mended_system a (system_at l a).pred in
      let k = take (a - 1) l ++ drop a l in
      ap (λ (s : System). get_or (map f k) j s) (sym blank_kept) ∙ get_or-map f k j blank ∙ ap f (without_at j)

  -- a system that stays is alike at its new place
  pub removed_alike : (x : ℕ) → (x ≡ a → ⊥) → Alike l (without l a) (mended a (system_at l a).pred) x
  unfolding pred_of own_pose name_of p
  removed_alike x n = go x n (removed_at_lem (mended a p x) ∙ ap (λ y. mended_system a p (system_at l y)) (old_mended a p pos x n))
    where
      l' : List System
      l' = without l a

      f : ℕ → ℕ
      f = mended a p

      -- by the new place, which is 0 only for the fixed system
      at : (j y : ℕ) → f (suc j) ≡ suc y → system_at l' (f (suc j)) ≡ mended_system a p (system_at l (suc j)) → Alike l l' f (suc j)
      at j y s e =
          let e' : system_at l' (suc y) ≡ mended_system a p (system_at l (suc j)) = sym (ap (system_at l') s) ∙ e in
          record {
            pred = rw s (ap (λ (t : System). t.pred) e');
            pose = rw e;
            name = λ g. rw s (ap (λ (t : System). t.name) e');
            fixed = rw s (ne_eqb (suc y) 0 (λ z. omega arith) ∙ sym (ne_eqb (suc j) 0 (λ z. omega arith)));
          }

      new : (j k : ℕ) → (suc j ≡ a → ⊥) → f (suc j) ≡ k → system_at l' (f (suc j)) ≡ mended_system a p (system_at l (suc j)) → Alike l l' f (suc j)
      new j zero n s e = absurd (let z = mended_fixed a p pos (suc j) n s in omega arith)
      new j (suc y) n s e = at j y s e

      go : (x : ℕ) → (x ≡ a → ⊥) → system_at l' (f x) ≡ mended_system a p (system_at l x) → Alike l l' f x
      go zero n e =
          let z : f 0 ≡ 0 = mended_zero a p pos in
          record { pred = rw z; pose = rw e; name = λ g. rw z; fixed = rw z }
      go (suc j) n e = new j (f (suc j)) n refl e

  pub removed_alike_from : (q : ℕ) → Misses l a q → AlikeFrom l (without l a) (mended a (system_at l a).pred) q
  removed_alike_from q off i = removed_alike (hop l i q) (off i)

  -- ---- no ring

  module _ (places : InRange l) (free : no_ring l ≡ true) where
    pub not_its_own : (system_at l a).pred ≡ a → ⊥
    unfolding hop
    not_its_own e = let z = no_return l (length l) 0 a (ring_free l free a there) (pred_of_is l a ∙ e) in omega arith

    pub removed_in_range : InRange (without l a)
    removed_in_range j =
        rw (removed_at_lem j, without_length)
        (mended_in_range a (system_at l a).pred pos (length l) _ there (places a) not_its_own (places (old a j)))

    -- a chain that ended still ends: one link fewer where a was on it
    removed_ends : (f q : ℕ) → hop l f q ≡ 0 → (g : ℕ) × (hop (without l a) g (mended a (system_at l a).pred q) ≡ 0)
    unfolding hop
    removed_ends zero q e = (0, rw e (mended_zero a (system_at l a).pred pos))
    removed_ends (suc f) q e = go (ℕ_discrete q a) (removed_ends f (pred_of l q) e)
      where
        b : ℕ
        b = (system_at l a).pred

        go : Dec (q ≡ a) → (g : ℕ) × (hop (without l a) g (mended a b (pred_of l q)) ≡ 0) → (g : ℕ) × (hop (without l a) g (mended a b q) ≡ 0)
        go (yes y) r =
            let e : mended a b q ≡ mended a b (pred_of l q) =
            ap (mended a b) y ∙ mended_gone a b ∙ sym (mended_pred a b) ∙ ap (mended a b) (sym (pred_of_is l a) ∙ ap (pred_of l) (sym y)) in
            (r.0, ap (hop (without l a) r.0) e ∙ r.1)
        go (no n) r = (suc r.0, ap (hop (without l a) r.0) (removed_alike q n).pred ∙ r.1)

    pub removed_no_ring : no_ring (without l a) ≡ true
    removed_no_ring = ring_free_from (without l a) ends
      where
        b : ℕ
        b = (system_at l a).pred

        in_old : (q : ℕ) → q ≤ length l - 1 → old a q ≤ length l
        in_old q h = go (dec_lt q a)
          where
            go : Dec (q < a) → old a q ≤ length l
            go (yes k) = rw (old_low a q k) (omega arith)
            go (no k) = rw (old_high a q (omega arith)) (omega arith)

        ends : (q : ℕ) → q ≤ length (without l a) → hop (without l a) (length (without l a)) q ≡ 0
        ends q h =
            let r = removed_ends (length l) (old a q) (ring_free l free (old a q) (in_old q (rw without_length at h))) in
            ends_in_time (without l a) removed_in_range r.0 q h (ap (hop (without l a) r.0) (sym (mended_old a b pos q)) ∙ r.1)
