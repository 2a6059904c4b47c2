-- Laws of links: where they lead, that a chain which ends does so within as many links as there are systems, and what `no_ring` says of each place.
use Prim.Native.Nat.{ℕ, zero, suc, ◌+◌, ◌-◌, ◌≤◌, ◌<◌}
use mathlib.Core.Path.{◌≡◌, refl, sym, ap, ◌∙◌}
use mathlib.Core.List.{List, [], ◌∷◌}
use mathlib.Core.Bool.{true}
use native.Mathlib.Omega.{arith}
use native.Mathlib.Decide.{dec_lt, ℕ_discrete}
use native.Mathlib.Nat.{zero-add, suc-add}
use borrow.Author.Tests.{eq-eqb, eqb-true}
use lib.Dec.{eqb}
use lib.ListN.{length}
use Rattle.model.specs.Lists.{table}
use Rattle.model.specs.Memory.{System, system_at}
use Rattle.model.specs.Chain.{pred_of, hop, no_ring}
use Rattle.model.proofs.Basics.{all_at, all_from, length_table, table_at}

-- ---- lists of allowed places, for counting

pub data In (x : ℕ) : List ℕ → Type 0 where
  here : {l : List ℕ} → In x (x ∷ l)
  there : {y : ℕ} {l : List ℕ} → In x l → In x (y ∷ l)

-- the list without an entry
drop_in : {x : ℕ} {l : List ℕ} → In x l → List ℕ
drop_in (here {l = l}) = l
drop_in (there {y = y} i) = y ∷ drop_in i

drop_in_length : {x : ℕ} {l : List ℕ} (i : In x l) → length l ≡ suc (length (drop_in i))
unfolding drop_in
drop_in_length here = refl
drop_in_length (there i) = ap suc (drop_in_length i)

drop_in_other : {x y : ℕ} {l : List ℕ} (i : In x l) → In y l → (y ≡ x → ⊥) → In y (drop_in i)
unfolding drop_in
drop_in_other here here n = absurd (n refl)
drop_in_other here (there j) n = j
drop_in_other (there i) here n = here
drop_in_other (there i) (there j) n = there (drop_in_other i j n)

pub places_up_to : ℕ → List ℕ
places_up_to zero = []
places_up_to (suc n) = suc n ∷ places_up_to n

pub up_to_length : (n : ℕ) → length (places_up_to n) ≡ n
unfolding places_up_to
up_to_length zero = refl
up_to_length (suc n) = ap suc (up_to_length n)

pub up_to_in : (n x : ℕ) → 0 < x → x ≤ n → In x (places_up_to n)
unfolding places_up_to
up_to_in zero x h k = absurd (omega arith)
up_to_in (suc n) x h k = go (ℕ_discrete x (suc n)) (λ k'. up_to_in n x h k')
  where
    go : Dec (x ≡ suc n) → (x ≤ n → In x (places_up_to n)) → In x (suc n ∷ places_up_to n)
    go (yes e) r = rw e here
    go (no e) r = there (r (omega arith))

-- ---- links

-- a link leads to the predecessor; at place 0 there is none
pub pred_of_is : (l : List System) (q : ℕ) → pred_of l q ≡ (system_at l q).pred
unfolding pred_of system_at
pred_of_is l zero = refl
pred_of_is l (suc i) = refl

-- predecessors are places of the list
abbrev pub InRange : List System → Type 0
InRange l = (j : ℕ) → (system_at l j).pred ≤ length l

module _ (l : List System) where
  pub hop_zero : (i : ℕ) → hop l i 0 ≡ 0
  unfolding hop pred_of
  hop_zero zero = refl
  hop_zero (suc i) = hop_zero i

  pub hop_add : (i j q : ℕ) → hop l (i + j) q ≡ hop l j (hop l i q)
  unfolding hop
  hop_add zero j q = rw zero-add
  hop_add (suc i) j q = rw suc-add (hop_add i j (pred_of l q))

  pub hop_next : (i q : ℕ) → hop l (suc i) q ≡ hop l i (pred_of l q)
  unfolding hop
  hop_next i q = refl

  pub hop_last : (i q : ℕ) → hop l (suc i) q ≡ pred_of l (hop l i q)
  unfolding hop
  hop_last zero q = refl
  hop_last (suc i) q = hop_last i (pred_of l q)

  -- a chain stays at the fixed system
  pub hop_past : (i j q : ℕ) → i ≤ j → hop l i q ≡ 0 → hop l j q ≡ 0
  hop_past i j q h e =
      let s : j ≡ i + (j - i) = omega arith in
      ap (λ (n : ℕ). hop l n q) s ∙ hop_add i (j - i) q ∙ rw e (hop_zero (j - i))

  hop_more : (i q : ℕ) → hop l i q ≡ 0 → hop l i (pred_of l q) ≡ 0
  hop_more i q e = sym (hop_next i q) ∙ hop_past i (suc i) q (omega arith) e

  -- a chain that ends does not come back to where it began; g bounds f
  back : (g f i q : ℕ) → f ≤ g → hop l f q ≡ 0 → hop l (suc i) q ≡ q → q ≡ 0
  unfolding hop
  back zero f i q h e r = let z : f ≡ 0 = omega arith in rw z at e
  back (suc g) f i q h e r = go (dec_lt i f) (λ k. back g (f - suc i) i q (omega arith) (short k) r)
    where
      short : i < f → hop l (f - suc i) q ≡ 0
      short k =
          let s : f ≡ suc i + (f - suc i) = omega arith in
          let a : hop l f q ≡ hop l (f - suc i) q = ap (λ (n : ℕ). hop l n q) s ∙ hop_add (suc i) (f - suc i) q ∙ ap (λ (x : ℕ). hop l (f - suc i) x) r in
          sym a ∙ e

      go : Dec (i < f) → (i < f → q ≡ 0) → q ≡ 0
      go (yes k) rec = rec k
      go (no k) rec = sym r ∙ hop_past f (suc i) q (omega arith) e

  pub no_return : (f i q : ℕ) → hop l f q ≡ 0 → hop l (suc i) q ≡ q → q ≡ 0
  no_return f i q = back f f i q (omega arith)

  -- where the places of a chain that ends are among m places, it ends within m links
  pub within : (m : ℕ) (allowed : List ℕ) → length allowed ≤ m → (f q : ℕ) → hop l f q ≡ 0 → ((i : ℕ) → (hop l i q ≡ 0 → ⊥) → In (hop l i q) allowed) →
      hop l m q ≡ 0
  unfolding hop pred_of
  within zero [] h f q e on = go (ℕ_discrete q 0)
    where
      nothing : {x : ℕ} → In x [] → ⊥
      nothing i = absurd (let z = drop_in_length i in omega arith)

      go : Dec (q ≡ 0) → q ≡ 0
      go (yes a) = a
      go (no a) = absurd (nothing (on 0 a))
  within zero (x ∷ allowed) h f q e on = absurd (omega arith)
  within (suc m) allowed h f q e on = go (ℕ_discrete q 0) (λ a. within m (drop_in (on 0 a)) (short a) f (pred_of l q) (hop_more f q e) (rest a))
    where
      short : (a : q ≡ 0 → ⊥) → length (drop_in (on 0 a)) ≤ m
      short a = omega (arith, drop_in_length (on 0 a))

      rest : (a : q ≡ 0 → ⊥) (i : ℕ) → (hop l i (pred_of l q) ≡ 0 → ⊥) → In (hop l i (pred_of l q)) (drop_in (on 0 a))
      rest a i b = drop_in_other (on 0 a) (on (suc i) b) (λ c. a (no_return f i q e c))

      go : Dec (q ≡ 0) → ((q ≡ 0 → ⊥) → hop l m (pred_of l q) ≡ 0) → hop l m (pred_of l q) ≡ 0
      go (yes a) rec = rw a (hop_zero m)
      go (no a) rec = rec a

  module _ (places : InRange l) where
    pub pred_in_range : (q : ℕ) → pred_of l q ≤ length l
    pred_in_range q = rw (pred_of_is l q) (places q)

    pub hop_in_range : (i q : ℕ) → q ≤ length l → hop l i q ≤ length l
    unfolding hop
    hop_in_range zero q h = h
    hop_in_range (suc i) q h = hop_in_range i (pred_of l q) (pred_in_range q)

    -- the pigeonhole: a chain that ends does so within as many links as there are systems
    pub ends_in_time : (f q : ℕ) → q ≤ length l → hop l f q ≡ 0 → hop l (length l) q ≡ 0
    ends_in_time f q h e =
        within (length l) (places_up_to (length l)) (omega (arith, up_to_length (length l))) f q e
        (λ i n. up_to_in (length l) (hop l i q) (omega arith) (hop_in_range i q h))

  -- ---- no ring

  pub ring_free : no_ring l ≡ true → (q : ℕ) → q ≤ length l → hop l (length l) q ≡ 0
  unfolding no_ring
  ring_free e q h =
      let n = suc (length l) in
      let id : ℕ → ℕ = λ q. q in
      let a = all_at (λ q. eqb (hop l (length l) q) 0) (table n id) 0 q e (omega (arith, length_table n id)) in
      eqb-true _ _ (rw (table_at n id 0 q (omega arith)) at a)

  pub ring_free_from : ((q : ℕ) → q ≤ length l → hop l (length l) q ≡ 0) → no_ring l ≡ true
  unfolding no_ring
  ring_free_from f =
      let n = suc (length l) in
      let id : ℕ → ℕ = λ q. q in
      all_from (λ q. eqb (hop l (length l) q) 0) (table n id) 0
      (λ i h. let k : i < n = omega (arith, length_table n id) in rw (table_at n id 0 i k) (eq-eqb _ _ (f i (omega arith))))
