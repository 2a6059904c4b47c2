-- Walks that look for a place: one place at a time, along one chain, and along the enabled chains.
use Prim.Native.Nat.{ℕ, zero, suc, ◌+◌, ◌-◌, ◌<◌, ◌≤◌}
use mathlib.Core.Path.{◌≡◌, refl, sym, ap, ◌∙◌}
use mathlib.Core.Bool.{Bool, true, false, cond}
use mathlib.Core.List.{List, [], ◌∷◌, ◌++◌, map, append-nil, append_assoc, map-append}
use native.Mathlib.Omega.{arith}
use native.Mathlib.Decide.{ℕ_discrete}
use borrow.Author.Tests.{eq-eqb, ne_eqb}
use lib.Dec.{eqb}
use lib.ListN.{length, drop, length-map}
use Rattle.model.specs.Lists.{any, up_to, table, least, Search, search, after}
use Rattle.model.specs.declared.Group.{Group}
use Rattle.model.specs.declared.Group.TheVariants.{Operating, Orientational, Levelling}
use Rattle.model.specs.declared.Enabled.{Enabled}
use Rattle.model.specs.declared.OperatingPart.{OperatingPart}
use Rattle.model.specs.declared.OperatingPart.TheVariants.{Single, Pair}
use Rattle.model.specs.Memory.{System, Memory, Ref}
use Rattle.model.specs.Use.{in_group, is_in_use, looked_at}
use Rattle.model.specs.Chain.{pred_of, hop, steps, chain, on_chain}
use Rattle.model.proofs.Basics.{least_now, least_later, least_le, length_table}
use Rattle.model.proofs.Searches.{up_to_few, search_hit, search_past, search_map, after_none, ended_there, goes_on}
use Rattle.model.proofs.Chains.Steps.{chain_zero}
use Rattle.model.proofs.Chains.Looked.{last_two, looked_with, looked_parts, looked_place}
use Rattle.chains.specs.Flat.{linked_to, linked_by, memory_by}
use Rattle.chains.specs.Searches.{down, path, operating_paths, anywhere, sought_in, meets}
use Rattle.chains.specs.declared.used.Sought.{Sought}

-- ---- the places that a walk passes are those of the chain

module _ (l : List System) where
  down_more : (n q : ℕ) → (q ≡ 0 → ⊥) → down l (suc n) q ≡ q ∷ down l n (pred_of l q)
  unfolding down
  down_more n q e = rw (ne_eqb q 0 e)

  down_last : (n q : ℕ) → q ≡ 0 → down l (suc n) q ≡ q ∷ []
  unfolding down
  down_last n q e = rw (eq-eqb q 0 e)

  -- one place more than links
  down_is : (n q : ℕ) → down l (suc n) q ≡ q ∷ table (least n (λ i. eqb (hop l i q) 0)) (λ i. hop l (suc i) q)
  unfolding table least hop down
  down_is zero q = go (eqb q 0)
    where
      go : (t : Bool) → q ∷ cond t [] [] ≡ q ∷ []
      go true = refl
      go false = refl
  down_is (suc n) q = go (ℕ_discrete q 0) (down_is n (pred_of l q))
    where
      p : ℕ → Bool
      p i = eqb (hop l i q) 0

      go : Dec (q ≡ 0) → down l (suc n) (pred_of l q) ≡ pred_of l q ∷ table (least n (λ i. p (suc i))) (λ i. hop l (suc (suc i)) q) →
          down l (suc (suc n)) q ≡ q ∷ table (least (suc n) p) (λ i. hop l (suc i) q)
      go (yes e) rest = down_last (suc n) q e ∙ sym (rw (least_now n p (eq-eqb q 0 e)))
      go (no e) rest = down_more (suc n) q e ∙ rw (least_later n p (ne_eqb q 0 e)) (ap (λ t. q ∷ t) rest)

  -- a chain has as many places at most as there are systems, and one more
  down_path : (q : ℕ) → down l (suc (suc (length l))) q ≡ path l q
  unfolding chain steps
  down_path q = down_is (suc (length l)) q

  chain_down : (q : ℕ) → (q ≡ 0 → ⊥) → chain l q ≡ down l (suc (length l)) (pred_of l q)
  chain_down q e = ap (drop 1) (sym (down_path q) ∙ down_more (suc (length l)) q e)

  few_on_path : (q : ℕ) → length (path l q) ≤ length l + 2
  unfolding chain steps
  few_on_path q = omega (arith, length_table (steps l q) (λ i. hop l (suc i) q), least_le (suc (length l)) (λ i. eqb (hop l i q) 0))

  -- ---- one place: so many were looked at, and end is still to come

  module _ (k at looked end : ℕ) where
    abbrev rest : Search
    rest = after looked (search (eqb k) (down l (end - looked) at))

    -- there is one to look at
    some : looked < end → end - looked ≡ suc (end - (looked + 1))
    some h = omega arith

    pub walk_over : end ≤ looked → record { found = false; looked = looked } ≡ rest
    unfolding down any up_to
    walk_over h = let z : end - looked ≡ 0 = omega arith in rw z (ap (λ (n : ℕ). record { found = false; looked = n }) (omega arith))

    pub walk_hit : looked < end → at ≡ k → record { found = true; looked = looked + 1 } ≡ rest
    unfolding down
    walk_hit h e = rw (some h) (sym (ap (after looked) (search_hit (eqb k) at _ (eq-eqb k at (sym e)))))

    pub walk_end : looked < end → (at ≡ k → ⊥) → at ≡ 0 → record { found = false; looked = looked + 1 } ≡ rest
    unfolding any up_to
    walk_end h n e = rw (some h, down_last (end - (looked + 1)) at e) (sym (ap (after looked) (search_past (eqb k) at [] (ne_eqb k at (λ q. n (sym q))))))

    pub walk_on : looked < end → (at ≡ k → ⊥) → (at ≡ 0 → ⊥) → after (looked + 1) (search (eqb k) (down l (end - (looked + 1)) (pred_of l at))) ≡ rest
    walk_on h n e =
        rw (some h, down_more (end - (looked + 1)) at e)
        (ap (λ (c : ℕ). record { found = any (eqb k) below; looked = c }) (omega arith) ∙ sym (ap (after looked) (search_past (eqb k) at below (ne_eqb k at (λ q. n (sym q))))))
      where
        below : List ℕ
        below = down l (end - (looked + 1)) (pred_of l at)

-- ---- flat links are as many as their systems

module _ (ps : List ℕ) where
  abbrev links : List System
  links = linked_by ps

  -- a chain is what lies below its place; the fixed system's is empty
  pub on_none : (a q : ℕ) → q ≡ 0 → on_chain links a q ≡ false
  unfolding on_chain any
  on_none a q e = rw (e, chain_zero links)

  pub on_below : (a q : ℕ) → (q ≡ 0 → ⊥) → any (eqb a) (down links (length ps + 1 - 0) (pred_of links q)) ≡ on_chain links a q
  unfolding on_chain
  on_below a q e =
      let n : length ps + 1 - 0 ≡ suc (length links) = omega (arith, length-map ps linked_to) in
      rw (n, chain_down links q e)

  pub down_along : (before q : ℕ) → down links (before + length ps + 2 - before) q ≡ path links q
  down_along before q =
      let n : before + length ps + 2 - before ≡ suc (suc (length links)) = omega (arith, length-map ps linked_to) in
      ap (λ (n : ℕ). down links n q) n ∙ down_path links q

  -- few are looked at along a chain
  pub few_along : (k q : ℕ) → (search (eqb k) (path links q)).looked ≤ length ps + 2
  few_along k q = omega (arith, up_to_few (eqb k) (path links q), few_on_path links q, length-map ps linked_to)

-- ---- the enabled chains

-- what the test looks at: the operating part, then the orientational, then the levelling system, each with its chain
looked_paths : (ps : List ℕ) (e : Enabled) → looked_at (memory_by ps e)
    ≡ map (in_group Operating) (operating_paths (linked_by ps) e.operating)
    ++ (map (in_group Orientational) (path (linked_by ps) e.orientational) ++ map (in_group Levelling) (path (linked_by ps) e.levelling))
looked_paths ps e = looked_parts (memory_by ps e) ∙ go e.operating
  where
    l : List System
    l = linked_by ps

    last : last_two l e.orientational e.levelling ≡ map (in_group Orientational) (path l e.orientational) ++ map (in_group Levelling) (path l e.levelling)
    last = ap (λ (t : List Ref). map (in_group Orientational) (path l e.orientational) ++ t) (append-nil (map (in_group Levelling) (path l e.levelling)))

    go : (o : OperatingPart) → looked_with l e.orientational e.levelling o
        ≡ map (in_group Operating) (operating_paths l o) ++ (map (in_group Orientational) (path l e.orientational) ++ map (in_group Levelling) (path l e.levelling))
    go (Single p) = ap (λ (t : List Ref). map (in_group Operating) (path l p) ++ t) last
    go (Pair w t) =
        ap (λ (r : List Ref). map (in_group Operating) (path l w) ++ (map (in_group Operating) (path l t) ++ r)) last
        ∙ sym (append_assoc (map (in_group Operating) (path l w)) (map (in_group Operating) (path l t)) _)
        ∙ ap (λ (r : List Ref). r ++ (map (in_group Orientational) (path l e.orientational) ++ map (in_group Levelling) (path l e.levelling)))
        (sym (map-append (in_group Operating) (path l w) (path l t)))

-- ---- the three parts of the test for use, one behind the other

module _ (ps : List ℕ) (e : Enabled) (s : Sought) where
  abbrev whole : Search
  whole = search (meets s) (looked_at (memory_by ps e))

  abbrev operating : List Ref
  operating = map (in_group Operating) (operating_paths (linked_by ps) e.operating)

  abbrev orientational : List Ref
  orientational = map (in_group Orientational) (path (linked_by ps) e.orientational)

  abbrev levelling : List Ref
  levelling = map (in_group Levelling) (path (linked_by ps) e.levelling)

  module _ (f : Search) (first : f ≡ search (eqb s.operating) (operating_paths (linked_by ps) e.operating)) where
    first_of : f ≡ after 0 (search (meets s) operating)
    first_of = first ∙ sym (after_none _ ∙ search_map (meets s) (in_group Operating) (operating_paths (linked_by ps) e.operating))

    all_of : after 0 (search (meets s) (operating ++ (orientational ++ levelling))) ≡ whole
    all_of = after_none _ ∙ ap (search (meets s)) (sym (looked_paths ps e))

    pub in_operating : f.found ≡ true → f ≡ whole
    in_operating t = ended_there (meets s) operating (orientational ++ levelling) 0 f first_of t ∙ all_of

    module _ (missed : f.found ≡ false) (g : Search) (second : g ≡ after f.looked (search (eqb s.orientational) (path (linked_by ps) e.orientational))) where
      second_of : g ≡ after f.looked (search (meets s) orientational)
      second_of = second ∙ sym (ap (after f.looked) (search_map (meets s) (in_group Orientational) (path (linked_by ps) e.orientational)))

      behind_first : after f.looked (search (meets s) (orientational ++ levelling)) ≡ whole
      behind_first = goes_on (meets s) operating (orientational ++ levelling) 0 f first_of missed ∙ all_of

      pub in_orientational : g.found ≡ true → g ≡ whole
      in_orientational t = ended_there (meets s) orientational levelling f.looked g second_of t ∙ behind_first

      pub in_levelling : g.found ≡ false → after g.looked (search (eqb s.levelling) (path (linked_by ps) e.levelling)) ≡ whole
      in_levelling t =
          sym (ap (after g.looked) (search_map (meets s) (in_group Levelling) (path (linked_by ps) e.levelling)))
          ∙ goes_on (meets s) orientational levelling f.looked g second_of t ∙ behind_first

-- ---- a place that is sought in every group

pub anywhere_in : (k : ℕ) (g : Group) → sought_in (anywhere k) g ≡ k
anywhere_in k Operating = refl
anywhere_in k Orientational = refl
anywhere_in k Levelling = refl

-- a user system's place is sought in any group, as the old test does
pub found_anywhere : (m : Memory) (k : ℕ) → any (meets (anywhere k)) (looked_at m) ≡ is_in_use m k
found_anywhere m k = (λ d. any (λ (r : Ref). eqb (anywhere_in k r.group d) r.place) (looked_at m)) ∙ looked_place m k
