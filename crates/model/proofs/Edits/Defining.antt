-- Define, link and copy keep a memory well formed, each under what its ladder has ruled out.
use Prim.Native.Nat.{ℕ, zero, suc, ◌<◌}
use mathlib.Core.Path.{◌≡◌, refl, sym, ◌∙◌}
use mathlib.Core.List.{List}
use mathlib.Core.Bool.{true, false}
use native.Mathlib.Omega.{arith}
use borrow.Author.Tests.{not-false, ne_eqb, eqb-false}
use lib.Dec.{eqb}
use Rattle.model.specs.Types.{Kind, Ksd, Kst, Ksw, Ksb, Kld, Ksf, Group, Operating, Orientational, Levelling, Vec3, Turns}
use Rattle.model.specs.Kinds.{of_kind, same_kind}
use Rattle.model.specs.Memory.{Memory, system_at, is_user, place_named, named, user_named, meant}
use Rattle.model.specs.Chain.{pred_of, on_chain}
use Rattle.model.specs.Words.{legal_name, reserved}
use Rattle.model.specs.WellFormed.{own_fine}
use Rattle.model.specs.Use.{used_at, name_in_use}
use Rattle.model.specs.Refusals.{wrong_pred, other_type, at_or_before, no_room}
use Rattle.model.specs.Effects.{put, first_pred, fresh, linked, with_pred, with_name}
use Rattle.model.proofs.Basics.{or_false}
use Rattle.model.proofs.Chains.Hops.{hop_zero, hop_next, ring_free}
use Rattle.model.proofs.Chains.Steps.{off_path}
use Rattle.model.proofs.Chains.Relink.{Misses}
use Rattle.model.proofs.Memories.Fine.{Placed, Own, own_of, own_from, Fine, same_kind_lem}
use Rattle.model.proofs.Memories.Named.{place_stands, place_name, place_within, user_place, named_place}
use Rattle.model.proofs.Chains.Frames.{EachEnabled, unused_missed}
use Rattle.model.proofs.Edits.Putting.{put_fine}

-- ---- what a ladder's tests say

module _ (m : Memory) (fine : Fine m) where
  -- number 10: a name to be overwritten has the type
  kind_kept : (n : List ℕ) (k : Kind) → other_type (meant m n) k ≡ false → is_user m n ≡ true → k ≡ (user_named m n).kind
  unfolding other_type is_user
  kind_kept n k e u = sym (same_kind_lem (user_named m n).kind k (not-false (same_kind (user_named m n).kind k) (rw u at e)))

  -- number 11: no enabled chain meets the system of that name
  pub not_in_use : (n : List ℕ) → is_user m n ≡ true → name_in_use m n ≡ false → EachEnabled (Misses m.systems (place_named m.systems n)) m.enabled
  unfolding used_at is_user
  not_in_use n u e = unused_missed m fine (place_named m.systems n) (user_place m n u) (rw u at e)

  -- number 12: the chain of b, with b itself, does not meet a
  not_before : (a b : List ℕ) → at_or_before m.systems (place_named m.systems a) (place_named m.systems b) ≡ false → is_user m a ≡ true →
      Misses m.systems (place_named m.systems a) (place_named m.systems b)
  unfolding at_or_before is_user
  not_before a b e u =
      let l = m.systems in
      let s = or_false (eqb (place_named l a) (place_named l b)) (on_chain l (place_named l a) (place_named l b)) (rw u at e) in
      let ends = ring_free l fine.ringless (place_named l b) (place_within l b) in
      λ i. off_path l (place_named l b) ends (place_named l a) i (user_place m a u) (λ q. eqb-false (place_named l a) (place_named l b) s.0 (sym q)) s.1

  -- ---- define

  first_placed : (k : Kind) → Placed m.systems k (first_pred m.enabled (of_kind k).group)
  first_placed Ksd h = absurd (omega arith)
  first_placed Kst h = absurd (omega arith)
  first_placed Ksw h = absurd (omega arith)
  first_placed Ksb h = fine.enabled.orientational h
  first_placed Kld h = fine.enabled.levelling h
  first_placed Ksf h = absurd (omega arith)

  first_missed : (a : ℕ) → 0 < a → EachEnabled (Misses m.systems a) m.enabled → (g : Group) → Misses m.systems a (first_pred m.enabled g)
  first_missed a pos u Operating = λ i e. let z = hop_zero m.systems i in absurd (omega arith)
  first_missed a pos u Orientational = u.orientational
  first_missed a pos u Levelling = u.levelling

  module _ (k : Kind) (n : List ℕ) (t : Vec3) (v : Turns) where
    pub define_fine :
        own_fine (fresh m k n t v) ≡ true → other_type (meant m n) k ≡ false → name_in_use m n ≡ false → no_room m.systems (place_named m.systems n) ≡ false → Fine (put m (fresh m k n t v))
    unfolding fresh
    define_fine own ten eleven thirteen =
        put_fine m fine (fresh m k n t v) own (first_placed k)
        (λ u. (kind_kept n k ten u, first_missed (place_named m.systems n) (user_place m n u) (not_in_use n u eleven) (of_kind k).group))
        thirteen

  -- ---- link

  module _ (a b : List ℕ) (user : is_user m a ≡ true) where
    -- number 10: B is of A's type or its group's fixed system
    right_pred : wrong_pred (meant m a) (meant m b) ≡ false → Placed m.systems (user_named m a).kind (place_named m.systems b)
    unfolding wrong_pred
    right_pred e h =
        let z : eqb (place_named m.systems b) 0 ≡ false = ne_eqb (place_named m.systems b) 0 (λ q. omega arith) in
        (place_within m.systems b, same_kind_lem (user_named m b).kind (user_named m a).kind (not-false _ (rw z at e)))

    pub link_fine :
        wrong_pred (meant m a) (meant m b) ≡ false → at_or_before m.systems (place_named m.systems a) (place_named m.systems b) ≡ false → Fine (linked m a b)
    unfolding linked no_room is_user
    link_fine ten twelve =
        let np = named_place m b in
        let pos = user_place m a user in
        let na = place_name m.systems a pos in
        let own = fine.systems.own (place_named m.systems a) (place_stands m.systems a pos) in
        put_fine m fine (with_pred (user_named m a) (named m b).place) own (rw np (right_pred ten))
        (λ u. rw (na, np) (refl, not_before a b twelve user))
        (rw (na, user))

  -- ---- copy

  -- a place before which q's chain does not come is not met from q's predecessor either
  pred_missed : (k q : ℕ) → Misses m.systems k q → Misses m.systems k (system_at m.systems q).pred
  unfolding pred_of system_at
  pred_missed k q off i e = off (suc i) (hop_next m.systems i q ∙ rw (pred_at q) e)
    where
      pred_at : (q : ℕ) → pred_of m.systems q ≡ (system_at m.systems q).pred
      pred_at zero = refl
      pred_at (suc i) = refl

  module _ (s d : List ℕ) (user : is_user m s ≡ true) where
    pub copy_fine :
        legal_name d ≡ true → reserved d ≡ false → other_type (meant m d) (user_named m s).kind ≡ false →
        at_or_before m.systems (place_named m.systems d) (place_named m.systems s) ≡ false → no_room m.systems (place_named m.systems d) ≡ false →
        Fine (put m (with_name (user_named m s) d))
    copy_fine legal eight ten twelve thirteen =
        let o = own_of (user_named m s) (fine.systems.own (place_named m.systems s) (place_stands m.systems s (user_place m s user))) in
        let copied : Own (with_name (user_named m s) d) = record { name = legal; free = eight; offset = o.offset; turns = o.turns; flat = o.flat } in
        put_fine m fine (with_name (user_named m s) d) (own_from (with_name (user_named m s) d) copied)
        (fine.systems.preds (place_named m.systems s))
        (λ u. (kind_kept d (user_named m s).kind ten u, pred_missed (place_named m.systems d) (place_named m.systems s) (not_before d s twelve u)))
        thirteen
