-- A removal mends every other chain: by name it is the old one without the system that went.
use Prim.Native.Nat.{ℕ, suc, ◌≤◌, ◌<◌}
use mathlib.Core.Path.{◌≡◌, refl, sym, ap, ◌∙◌}
use mathlib.Core.List.{List, [], ◌∷◌, map}
use mathlib.Core.Bool.{true, false, not}
use mathlib.Core.Option.{Option, none, some}
use mathlib.Core.Logic.{⊎_elim}
use native.Mathlib.Omega.{arith}
use native.Mathlib.Decide.{ℕ_discrete}
use borrow.Author.Tests.{eq-eqb, ne_eqb}
use lib.Dec.{eqb}
use lib.ListN.{length, get_or, length-map, get_or-map}
use Rattle.model.specs.Types.{Group}
use Rattle.model.specs.Lists.{any, kept, same, there?}
use Rattle.model.specs.Kinds.{of_kind}
use Rattle.model.specs.Memory.{System, Memory, Ref, user_ref, system_at, name_of, place_named, is_user, find, ref_or}
use Rattle.model.specs.Chain.{hop, steps, chain, on_chain}
use Rattle.model.specs.Use.{in_group, name_in_use}
use Rattle.model.specs.Effects.{mended, removed_at}
use Rattle.model.specs.Removed.{chain_names, StillThere, RemovalMends}
use Rattle.model.proofs.Basics.{either, or_false, any_where, true_false, same→≡, ≡→same}
use Rattle.model.proofs.Chains.Hops.{InRange, hop_in_range}
use Rattle.model.proofs.Chains.Steps.{chain_length, chain_at, hop→on_chain}
use Rattle.model.proofs.Edits.Removal.{old_mended, mended_zero, mended_fixed, mended_in_range, without, without_length, removed_at_lem, removed_alike, not_its_own}
use Rattle.model.proofs.Edits.RemovedChain.{removed_names, removed_steps_on}
use Rattle.model.proofs.Memories.Fine.{Stands, Fine, preds_within, fine_of}
use Rattle.model.proofs.Memories.Named.{user_place, place_stands, place_name}
use Rattle.model.proofs.Memories.Found.{IsSystem, fixed, user, name_of_user, is_found, found_is, name_place}
use Rattle.model.proofs.Edits.Removing.{remove_fine}

-- ---- lists of names

-- a name that is not there is not taken out
kept_all : (a : List ℕ) (c : List (List ℕ)) → any (same a) c ≡ false → kept (λ x. not (same x a)) c ≡ c
unfolding any kept
kept_all a [] e = refl
kept_all a (x ∷ c) e =
    let s = or_false (same a x) (any (same a) c) e in
    rw (other s.0) (ap (λ t. x ∷ t) (kept_all a c s.1))
  where
    other : same a x ≡ false → same x a ≡ false
    other f = ⊎_elim (λ t. true_false (sym (≡→same (sym (same→≡ x a t))) ∙ f)) (λ t. t) (either (same x a))

-- a name among those of a chain is on the chain
named_on_chain : (m : Memory) → Fine m → (n : List ℕ) → is_user m n ≡ true → (g : Group) (q : ℕ) → q ≤ length m.systems →
    any (same n) (map (λ x. name_of m.systems (in_group g x)) (chain m.systems q)) ≡ true → on_chain m.systems (place_named m.systems n) q ≡ true
named_on_chain m fine n found g q h s =
    let w = any_where (same n) (map name (chain l q)) (name 0) s in
    let i = w.0 in
    let lt : i < steps l q = omega (arith, chain_length l q, length-map (chain l q) name, w.1) in
    let at : get_or (map name (chain l q)) i (name 0) ≡ name (hop l (suc i) q) = get_or-map name (chain l q) i 0 ∙ ap name (chain_at l q i lt) in
    let there = hop_in_range l (preds_within fine.systems) (suc i) q h in
    hop→on_chain l (place_named l n) q i lt (name_place m fine n found g (hop l (suc i) q) there (sym at ∙ sym (same→≡ n _ w.2)))
  where
    l : List System
    l = m.systems

    name : ℕ → List ℕ
    name x = name_of l (in_group g x)

module _ (m : Memory) (fine : Fine m) (a : List ℕ) (found : is_user m a ≡ true) (free : name_in_use m a ≡ false) where
  abbrev l : List System
  l = m.systems

  abbrev k : ℕ
  k = place_named m.systems a

  abbrev f : ℕ → ℕ
  f = mended k (system_at m.systems k).pred

  abbrev m' : Memory
  m' = removed_at m k

  at : Stands l k
  at = place_stands l a (user_place m a found)

  places : InRange l
  places = preds_within fine.systems

  -- taking a out by place is taking it out by name
  kept_by_name : (g : Group) (c : List ℕ) → ((i : ℕ) → i < length c → get_or c i 0 ≤ length l) →
      map (λ x. name_of l (in_group g x)) (kept (λ x. not (eqb x k)) c) ≡ kept (λ x. not (same x a)) (map (λ x. name_of l (in_group g x)) c)
  unfolding kept
  kept_by_name g [] h = refl
  kept_by_name g (x ∷ c) h = go (ℕ_discrete x k) (kept_by_name g c (λ i p. h (suc i) (omega arith)))
    where
      name : ℕ → List ℕ
      name x = name_of l (in_group g x)

      go : Dec (x ≡ k) → map name (kept (λ x. not (eqb x k)) c) ≡ kept (λ x. not (same x a)) (map name c) →
          map name (kept (λ x. not (eqb x k)) (x ∷ c)) ≡ kept (λ x. not (same x a)) (map name (x ∷ c))
      go (yes e) r =
          let n : name x ≡ a = ap name e ∙ name_of_user l g k at.0 ∙ place_name l a at.0 in
          rw (eq-eqb x k e, ≡→same n) r
      go (no e) r =
          let d : same (name x) a ≡ false = ⊎_elim (λ t. absurd (e (name_place m fine a found g x (h 0 (omega arith)) (same→≡ (name x) a t)))) (λ t. t) (either (same (name x) a)) in
          rw (ne_eqb x k e, d) (ap (λ t. name x ∷ t) r)

  fine' : Fine m'
  fine' = remove_fine m fine a found free

  -- a system that stays is found under its name, at its mended place
  stays : {r : Ref} → IsSystem l r → (r.place ≡ k → ⊥) → find m' (name_of l r) ≡ some (in_group r.group (f r.place))
  unfolding removed_at name_of
  stays (fixed g) n = rw (mended_zero k (system_at l k).pred at.0) (is_found m' fine' (fixed g))
  stays (user j h) n =
      let p = (system_at l k).pred in
      let l' = without l k in
      let g = (of_kind (system_at l j).kind).group in
      let own = not_its_own l k at.0 at.1 places fine.ringless in
      let nz : f j ≡ 0 → ⊥ = λ z. let y = mended_fixed k p at.0 j n z in omega (arith, h.0) in
      let range : f j ≤ length l' = rw (without_length l k at.0 at.1) (mended_in_range k p at.0 (length l) j at.1 (places k) own h.1) in
      let kind : (system_at l' (f j)).kind ≡ (system_at l j).kind =
      ap (λ (s : System). s.kind) (removed_at_lem l k at.0 at.1 (f j)) ∙ ap (λ x. (system_at l x).kind) (old_mended k p at.0 j n) in
      let s : IsSystem l' (user_ref l' (f j)) = user (f j) (omega arith) in
      let e : find m' (name_of l' (in_group g (f j))) ≡ some (in_group g (f j)) = rw kind at (is_found m' fine' s) in
      ap (find m') (sym ((removed_alike l k at.0 at.1 j n).name g)) ∙ e

  within : {r : Ref} → IsSystem l r → r.place ≤ length l
  within (fixed g) = omega arith
  within (user j h) = h.1

  -- another system, of name n
  module _ (n : List ℕ) (other : n ≡ a → ⊥) (r : Ref) (is : find m n ≡ some r) where
    abbrev q : ℕ
    q = r.place

    abbrev name : ℕ → List ℕ
    name x = name_of m.systems (in_group r.group x)

    range : q ≤ length l
    range = within (found_is m n r is).0

    apart : q ≡ k → ⊥
    apart e = other (sym (found_is m n r is).1 ∙ ap name e ∙ name_of_user l r.group k at.0 ∙ place_name l a at.0)

    is_after : find m' n ≡ some (in_group r.group (f q))
    is_after = let s = found_is m n r is in ap (find m') (sym s.1) ∙ stays s.0 apart

    names_before : chain_names m n ≡ map name (chain l q)
    unfolding chain_names ref_or
    names_before = rw is

    names_after : chain_names m' n ≡ map (λ x. name_of m'.systems (in_group r.group x)) (chain m'.systems (f q))
    unfolding chain_names ref_or
    names_after = rw is_after

    mended_names : chain_names m' n ≡ kept (λ x. not (same x a)) (chain_names m n)
    unfolding removed_at
    mended_names =
        names_after
        ∙ removed_names l k at.0 at.1 places fine.ringless r.group q range apart
        ∙ kept_by_name r.group (chain l q) in_range_lem
        ∙ ap (kept (λ x. not (same x a))) (sym names_before)
      where
        in_range_lem : (i : ℕ) → i < length (chain l q) → get_or (chain l q) i 0 ≤ length l
        in_range_lem i h = rw (chain_at l q i (rw (chain_length l q) at h)) (hop_in_range l places (suc i) q range)

    fewer : any (same a) (chain_names m n) ≡ true → suc (length (chain_names m' n)) ≡ length (chain_names m n)
    unfolding removed_at
    fewer on =
        let before : length (chain_names m n) ≡ steps l q = ap length names_before ∙ length-map (chain l q) name ∙ chain_length l q in
        let after : length (chain_names m' n) ≡ steps (without l k) (f q) =
        ap length names_after ∙ length-map (chain (without l k) (f q)) (λ x. name_of (without l k) (in_group r.group x)) ∙ chain_length (without l k) (f q) in
        let met = named_on_chain m fine a found r.group q range (rw names_before at on) in
        omega (arith, before, after, removed_steps_on l k at.0 at.1 places fine.ringless q range apart met)

    still_there : StillThere m m' a n
    unfolding there?
    still_there =
        record {
          present = rw is_after;
          chain = mended_names;
          fewer = fewer;
          alike = λ off. mended_names ∙ kept_all a (chain_names m n) off;
        }

pub removal_mends : RemovalMends
unfolding there?
removal_mends m fine a found free n other present = go (find m n) refl present
  where
    go : (o : Option Ref) → find m n ≡ o → there? o ≡ true → StillThere m (removed_at m (place_named m.systems a)) a n
    go none e t = true_false (sym t)
    go (some r) e t = still_there m (fine_of m fine) a found free n other r e
