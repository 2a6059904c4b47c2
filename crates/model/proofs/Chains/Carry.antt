-- Two lists of systems that are alike along a chain, up to a renaming of places: the chain goes through the renaming, with the same steps, names and resultant.
use Prim.Native.Nat.{ℕ, zero, suc, ◌+◌, ◌<◌}
use mathlib.Core.Path.{◌≡◌, refl, sym, ap, subst, ◌∙◌}
use mathlib.Core.List.{List, map}
use native.Mathlib.Omega.{arith}
use lib.Dec.{eqb}
use lib.ListN.{length}
use borrow.Author.Tests.{eq-eqb, eqb-true}
use Rattle.model.specs.Types.{Group}
use Rattle.model.specs.Memory.{System, Memory, name_of}
use Rattle.model.specs.Use.{in_group}
use Rattle.model.specs.Chain.{pred_of, hop, steps, chain, own_pose, pose_over, resultant}
use Rattle.model.specs.Demand.{held}
use Rattle.model.proofs.Basics.{table_cong, map_table}
use Rattle.model.proofs.Chains.Hops.{hop_add, hop_last, hop_past}
use Rattle.model.proofs.Chains.Steps.{Ends, steps_first, steps_end, steps_before, chain_length}

-- ---- alike

-- place x of l is place f x of l': same own pose and name, the predecessor likewise, and it is the fixed system's where x is
pub record Alike (l l' : List System) (f : ℕ → ℕ) (x : ℕ) : Type 0 where
  pub pred : pred_of l' (f x) ≡ f (pred_of l x)
  pub pose : own_pose l' (f x) ≡ own_pose l x
  pub name : (g : Group) → name_of l' (in_group g (f x)) ≡ name_of l (in_group g x)
  pub fixed : eqb (f x) 0 ≡ eqb x 0

-- all along the chain of q, q included
abbrev pub AlikeFrom : List System → List System → (ℕ → ℕ) → ℕ → Type 0
AlikeFrom l l' f q = (i : ℕ) → Alike l l' f (hop l i q)

module _ (l l' : List System) (f : ℕ → ℕ) where
  pub carried_hop : (q : ℕ) → AlikeFrom l l' f q → (i : ℕ) → hop l' i (f q) ≡ f (hop l i q)
  unfolding hop
  carried_hop q a zero = refl
  carried_hop q a (suc i) = hop_last l' i (f q) ∙ ap (pred_of l') (carried_hop q a i) ∙ (a i).pred ∙ ap f (sym (hop_last l i q))

  pub carried_pose : (n q : ℕ) → AlikeFrom l l' f q → pose_over l' n (f q) ≡ pose_over l n q
  unfolding pose_over hop
  carried_pose zero q a = refl
  carried_pose (suc n) q a = rw ((a 0).pred, (a 0).pose, carried_pose n (pred_of l q) (λ i. a (suc i)))

  module _ (q : ℕ) (alike : AlikeFrom l l' f q) (ends : Ends l q) (ends' : Ends l' (f q)) where
    pub carried_steps : steps l' (f q) ≡ steps l q
    carried_steps = steps_first l' (f q) ends' (steps l q) last before
      where
        last : hop l' (steps l q) (f q) ≡ 0
        last = carried_hop q alike (steps l q) ∙ eqb-true _ _ ((alike (steps l q)).fixed ∙ eq-eqb _ _ (steps_end l q ends))

        before : (i : ℕ) → i < steps l q → hop l' i (f q) ≡ 0 → ⊥
        before i h z = steps_before l q i h (eqb-true _ _ (sym (alike i).fixed ∙ eq-eqb _ _ (sym (carried_hop q alike i) ∙ z)))

    pub carried_resultant : resultant l' (f q) ≡ resultant l q
    unfolding resultant
    carried_resultant = rw carried_steps (carried_pose (steps l q) q alike)

    -- whatever is told of the places of a chain, where it is told alike of each
    pub carried_chain : {A : Type 0} (n n' : ℕ → A) → ((i : ℕ) → n' (f (hop l i q)) ≡ n (hop l i q)) → map n' (chain l' (f q)) ≡ map n (chain l q)
    unfolding chain
    carried_chain n n' same =
        map_table n' (steps l' (f q)) (λ i. hop l' (suc i) (f q))
        ∙ rw carried_steps (table_cong (steps l q) (λ i. n' (hop l' (suc i) (f q))) (λ i. n (hop l (suc i) q))
        (λ i h. ap n' (carried_hop q alike (suc i)) ∙ same (suc i)))
        ∙ sym (map_table n (steps l q) (λ i. hop l (suc i) q))

-- place q goes to place f q with its whole chain
pub record Carried (m m' : Memory) (f : ℕ → ℕ) (q : ℕ) : Type 0 where
  pub alike : AlikeFrom m.systems m'.systems f q
  pub ends : Ends m.systems q
  pub ends_after : Ends m'.systems (f q)

-- and so with every place on its chain
pub carried_on : (m m' : Memory) (f : ℕ → ℕ) (q : ℕ) → Carried m m' f q → (i : ℕ) → Carried m m' f (hop m.systems i q)
carried_on m m' f q c i =
    record {
      alike = λ j. subst (Alike m.systems m'.systems f) (hop_add m.systems i j q) (c.alike (i + j));
      ends = ends_on m.systems i q c.ends;
      ends_after = rw (sym (carried_hop m.systems m'.systems f q c.alike i)) (ends_on m'.systems i (f q) c.ends_after);
    }
  where
    ends_on : (l : List System) (i q : ℕ) → Ends l q → Ends l (hop l i q)
    ends_on l i q e = sym (hop_add l i (length l) q) ∙ hop_past l (length l) (i + length l) q (omega arith) e

-- what demand 3 compares of an enabled system
pub carried_held : (m m' : Memory) (f : ℕ → ℕ) (g : Group) (q : ℕ) → Carried m m' f q → held m' (in_group g (f q)) ≡ held m (in_group g q)
unfolding held hop
carried_held m m' f g q c =
    let l = m.systems in
    let l' = m'.systems in
    let name : name_of l' (in_group g (f q)) ≡ name_of l (in_group g q) = (c.alike 0).name g in
    let names = carried_chain l l' f q c.alike c.ends c.ends_after (λ p. name_of l (in_group g p)) (λ p. name_of l' (in_group g p)) (λ i. (c.alike i).name g) in
    let pose = carried_resultant l l' f q c.alike c.ends c.ends_after in
    let count = chain_length l' (f q) ∙ carried_steps l l' f q c.alike c.ends c.ends_after ∙ sym (chain_length l q) in
    λ i. record { name = name i; chain = names i; resultant = pose i; steps = count i }
