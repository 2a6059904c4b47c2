-- What a name means, sought by its place in each group, is what is sought by its name.
use Prim.Native.Nat.{ℕ}
use mathlib.Core.Path.{◌≡◌, refl, sym, ◌∙◌}
use mathlib.Core.Bool.{true}
use mathlib.Core.List.{List}
use mathlib.Core.Logic.{◌⊎◌, inl, inr, ⊎_elim}
use mathlib.Core.Option.{some}
use Rattle.std.specs.Prelude.{Option, Some, None}
use native.Mathlib.Omega.{arith}
use borrow.Author.Tests.{eq-eqb, eqb-true}
use Rattle.model.specs.declared.Group.{Group}
use Rattle.model.specs.declared.Group.TheVariants.{Operating, Orientational, Levelling}
use Rattle.model.specs.Lists.{same, search as seek}
use Rattle.model.specs.Memory.{System, Memory, Ref, fixed_ref, user_ref, name_of, find}
use Rattle.model.specs.Use.{looked_at, use_test}
use Rattle.model.specs.Told.{or_number}
use Rattle.model.proofs.Basics.{agree, none_some, ≡→same}
use Rattle.model.proofs.Searches.{each_also, search_alike}
use Rattle.model.proofs.Memories.Fine.{Fine}
use Rattle.model.proofs.Memories.Found.{IsSystem, fixed, user, found_is}
use Rattle.model.proofs.Chains.Looked.{looked_systems}
use Rattle.model.proofs.Histories.InUse.{named_found, use_by_system}
use Rattle.model.proofs.Told.{told_value}
use Rattle.chains.specs.declared.used.Sought.{Sought}
use Rattle.chains.specs.Searches.{nowhere, anywhere, sought_in, meets}
use Rattle.chains.proofs.Searching.{anywhere_in}
use Rattle.memory.specs.declared.find.Found.{Found}
use Rattle.memory.specs.declared.find.Found.TheVariants.{User, Fixed}
use Rattle.memory.specs.Found.{found_told, Real}
use Rattle.memory.specs.Sought.{end_of, sought_for}

-- a fixed system is sought at the end of its own group's chains, and nowhere in another
end_in : (g : Group) → sought_in (end_of g) g ≡ 0
end_in Operating = refl
end_in Orientational = refl
end_in Levelling = refl

end_only : (g h : Group) → (g ≡ h) ⊎ (sought_in (end_of g) h ≡ nowhere)
end_only Operating Operating = inl refl
end_only Operating Orientational = inr refl
end_only Operating Levelling = inr refl
end_only Orientational Operating = inr refl
end_only Orientational Orientational = inl refl
end_only Orientational Levelling = inr refl
end_only Levelling Operating = inr refl
end_only Levelling Orientational = inr refl
end_only Levelling Levelling = inl refl

-- where a system is met
place_met : (s : Sought) (r : Ref) → meets s r ≡ true → sought_in s r.group ≡ r.place
place_met s r e = eqb-true (sought_in s r.group) r.place e

module _ (m : Memory) (fine : Fine m) (n : List ℕ) where
  abbrev l : List System
  l = m.systems

  -- nothing stands nowhere
  somewhere : {r : Ref} → IsSystem l r → nowhere ≡ r.place → ⊥
  somewhere (fixed g) e = omega arith
  somewhere (user k h) e = omega (arith, h.1, fine.systems.few)

  -- what was found
  value : (f : Option Found) → found_told l f ≡ or_number 7 (find m n) → find m n ≡ (found_told l f).value
  value f told = told_value 7 (find m n) (found_told l f) told

  -- the system that has the name is met
  met : (f : Option Found) → found_told l f ≡ or_number 7 (find m n) → {r : Ref} → find m n ≡ some r → meets (sought_for f) r ≡ true
  unfolding found_told
  met (Some (User k)) told {r} e =
      let v = sym (value (Some (User k)) told) ∙ e in
      let q : user_ref l k ≡ r = cc in
      rw (← q) (eq-eqb _ _ (anywhere_in k (user_ref l k).group))
  met (Some (Fixed g)) told {r} e =
      let v = sym (value (Some (Fixed g)) told) ∙ e in
      let q : fixed_ref g ≡ r = cc in
      rw (← q) (eq-eqb _ _ (end_in g))
  met None told e = none_some (sym (value None told) ∙ e)

  -- and what is met has the name
  named : (f : Option Found) → found_told l f ≡ or_number 7 (find m n) → Real f → {r : Ref} → IsSystem l r → meets (sought_for f) r ≡ true → same n (name_of l r) ≡ true
  unfolding found_told
  named (Some (User k)) told real (fixed g) e = absurd (omega (arith, anywhere_in k g, place_met (anywhere k) (fixed_ref g) e))
  named (Some (User k)) told real (user j h) e =
      let q : k ≡ j = sym (anywhere_in k (user_ref l j).group) ∙ place_met (anywhere k) (user_ref l j) e in
      rw (← q) (≡→same (sym (found_is m n (user_ref l k) (value (Some (User k)) told)).1))
  named (Some (Fixed g)) told real (fixed h) e =
      ⊎_elim (λ q. rw (← q) (≡→same (sym (found_is m n (fixed_ref g) (value (Some (Fixed g)) told)).1)))
      (λ q. absurd (omega (arith, q, place_met (end_of g) (fixed_ref h) e)))
      (end_only g h)
  named (Some (Fixed g)) told real (user j h) e =
      let at = place_met (end_of g) (user_ref l j) e in
      ⊎_elim (λ q. let z : sought_in (end_of g) (user_ref l j).group ≡ 0 = rw (← q) (end_in g) in absurd (omega (arith, h.0)))
      (λ q. absurd (somewhere (user j h) (sym q ∙ at)))
      (end_only g (user_ref l j).group)
  named None told real {r} i e = absurd (somewhere i (sym (anywhere_in nowhere r.group) ∙ place_met (anywhere nowhere) r e))

  pub use_sought : (f : Option Found) → found_told l f ≡ or_number 7 (find m n) → Real f → seek (meets (sought_for f)) (looked_at m) ≡ use_test m n
  use_sought f told real =
      search_alike (meets (sought_for f)) (λ (r : Ref). same n (name_of l r)) (looked_at m)
      (each_also (λ r i. agree _ _ (named f told real i) (λ e. met f told (named_found m fine n i e))) (looked_at m) (looked_systems m fine))
      ∙ sym (use_by_system m n)
