-- A removal keeps a memory well formed: every place that is held, a predecessor's or an enabled one, is mended.
use Prim.Native.Nat.{ℕ, ◌+◌, ◌≤◌, ◌<◌}
use mathlib.Core.Path.{◌≡◌, sym, ap, ◌∙◌}
use mathlib.Core.List.{List}
use mathlib.Core.Bool.{true, false}
use mathlib.Core.Logic.{⊎_elim, inl, inr}
use native.Mathlib.Omega.{arith}
use native.Mathlib.Decide.{dec_lt, ℕ_discrete}
use lib.ListN.{length}
use Rattle.model.specs.Types.{Kind, Ksd, Kst, Ksw, Ksb, Kld, Ksf, OperatingPart, Single, Pair}
use Rattle.model.specs.Memory.{System, Memory, system_at, is_user, place_named}
use Rattle.model.specs.Chain.{hop}
use Rattle.model.specs.Use.{name_in_use}
use Rattle.model.specs.Effects.{mended, mended_part, removed_at}
use Rattle.model.proofs.Chains.Relink.{Misses}
use Rattle.model.proofs.Edits.Removal.{old, old_low, old_high, old_mended, mended_old, mended_zero, mended_gone, mended_pred, mended_fixed, mended_in_range, without, without_length, removed_at_lem, not_its_own, removed_no_ring}
use Rattle.model.proofs.Memories.Fine.{Stands, Placed, PartPlaced, Systems, Fine, preds_within}
use Rattle.model.proofs.Basics.{either}
use Rattle.model.proofs.Memories.Named.{place_stands, place_name, user_place}
use Rattle.model.proofs.Chains.Frames.{PartHas, EachEnabled}
use Rattle.model.proofs.Edits.Defining.{not_in_use}

module _ (m : Memory) (fine : Fine m) (a : ℕ) (at : Stands m.systems a) where
  abbrev l : List System
  l = m.systems

  abbrev p : ℕ
  p = (system_at l a).pred

  not_own : p ≡ a → ⊥
  not_own = not_its_own l a at.0 at.1 (preds_within fine.systems) fine.ringless

  old_stands : (x : ℕ) → Stands (without l a) x → Stands l (old a x)
  old_stands x h = go (dec_lt x a)
    where
      go : Dec (x < a) → Stands l (old a x)
      go (yes b) = rw (old_low a x b) (omega (arith, at.1))
      go (no b) = rw (old_high a x (omega arith)) (omega (arith, without_length l a at.0 at.1))

  -- what stands at a place stands at the mended one; a itself gives way to its predecessor
  carried_other : (k : Kind) (q : ℕ) → (q ≡ a → ⊥) → Placed l k q → Placed (without l a) k (mended a p q)
  carried_other k q n f h = go (dec_lt 0 q)
    where
      go : Dec (0 < q) → (mended a p q ≤ length (without l a)) × ((system_at (without l a) (mended a p q)).kind ≡ k)
      go (yes b) =
          let g = f b in (
            rw (without_length l a at.0 at.1) (mended_in_range a p at.0 (length l) q at.1 (preds_within fine.systems a) not_own g.0),
            ap (λ (s : System). s.kind) (removed_at_lem l a at.0 at.1 (mended a p q)) ∙ ap (λ x. (system_at l x).kind) (old_mended a p at.0 q n) ∙ g.1,
          )
      go (no b) =
          let z : q ≡ 0 = omega arith in
          let y : mended a p q ≡ 0 = rw z (mended_zero a p at.0) in
          absurd (omega arith)

  carried : (k : Kind) (q : ℕ) → Placed l k q → Placed (without l a) k (mended a p q)
  carried k q f = go (ℕ_discrete q a)
    where
      gone : Placed l k a → Placed (without l a) k (mended a p a)
      gone g = rw (mended_gone a p, ← mended_pred a p) (carried_other k p not_own (rw (g at.0).1 at (fine.systems.preds a)))

      go : Dec (q ≡ a) → Placed (without l a) k (mended a p q)
      go (yes e) = rw e (gone (rw e at f))
      go (no n) = carried_other k q n f

  name_at : (x : ℕ) → (system_at (without l a) x).name ≡ (system_at l (old a x)).name
  name_at x = ap (λ (s : System). s.name) (removed_at_lem l a at.0 at.1 x)

  -- no system that is left has the name
  nobody : (x : ℕ) → Stands (without l a) x → (system_at (without l a) x).name ≡ (system_at l a).name → ⊥
  nobody x h e = go (dec_lt x a)
    where
      same : old a x ≡ a
      same = fine.systems.differ (old a x) a (old_stands x h) at (sym (name_at x) ∙ e)

      go : Dec (x < a) → ⊥
      go (yes b) = omega (arith, same, old_low a x b)
      go (no b) = omega (arith, same, old_high a x (omega arith))

  left : Systems (without l a)
  left =
      record {
        few = omega (arith, without_length l a at.0 at.1, fine.systems.few);
        own = λ x h. rw (removed_at_lem l a at.0 at.1 x) (fine.systems.own (old a x) (old_stands x h));
        preds = λ x. rw (removed_at_lem l a at.0 at.1 x) (carried (system_at l (old a x)).kind (system_at l (old a x)).pred (fine.systems.preds (old a x)));
        differ = λ i j h g e.
            let q = fine.systems.differ (old a i) (old a j) (old_stands i h) (old_stands j g) (sym (name_at i) ∙ e ∙ name_at j) in
            sym (mended_old a p at.0 i) ∙ ap (mended a p) q ∙ mended_old a p at.0 j;
      }

  -- ---- what is enabled

  stays : (q : ℕ) → Misses l a q → 0 < q → 0 < mended a p q
  unfolding hop
  stays q off h = go (dec_lt 0 (mended a p q))
    where
      go : Dec (0 < mended a p q) → 0 < mended a p q
      go (yes b) = b
      go (no b) = let z = mended_fixed a p at.0 q (off 0) (omega arith) in absurd (omega arith)

  part_mended : (o : OperatingPart) → PartHas (Misses l a) o → PartPlaced l o → PartPlaced (without l a) (mended_part (mended a p) o)
  unfolding mended_part
  part_mended (Single q) off f = ⊎_elim (λ h. inl (carried Ksd q h)) (λ h. inr (carried Ksf q h)) f
  part_mended (Pair w t) off f = (carried Ksw w f.0, carried Kst t f.1, go (dec_lt 0 w))
    where
      go : Dec (0 < w) → 0 < mended a p w + mended a p t
      go (yes h) = omega (arith, stays w off.0 h)
      go (no h) = omega (arith, stays t off.1 (omega (arith, f.2)))

  pub removed_fine : EachEnabled (Misses l a) m.enabled → Fine (removed_at m a)
  unfolding removed_at
  removed_fine u =
      record {
        systems = left;
        ringless = removed_no_ring l a at.0 at.1 (preds_within fine.systems) fine.ringless;
        enabled = record {
          operating = part_mended m.enabled.operating u.operating fine.enabled.operating;
          orientational = carried Ksb m.enabled.orientational fine.enabled.orientational;
          levelling = carried Kld m.enabled.levelling fine.enabled.levelling;
        };
      }

-- by name
pub remove_fine : (m : Memory) → Fine m → (a : List ℕ) → is_user m a ≡ true → name_in_use m a ≡ false → Fine (removed_at m (place_named m.systems a))
remove_fine m f a user eleven = removed_fine m f (place_named m.systems a) (place_stands m.systems a (user_place m a user)) (not_in_use m f a user eleven)

-- the name has gone
pub removed_name : (m : Memory) → Fine m → (a : List ℕ) → is_user m a ≡ true → is_user (removed_at m (place_named m.systems a)) a ≡ false
unfolding removed_at
removed_name m f a user = ⊎_elim (λ e. absurd (met e)) (λ e. e) (either (is_user m' a))
  where
    k : ℕ
    k = place_named m.systems a

    m' : Memory
    m' = removed_at m k

    met : is_user m' a ≡ true → ⊥
    met e =
        let there = user_place m' a e in
        nobody m f k (place_stands m.systems a (user_place m a user)) (place_named m'.systems a) (place_stands m'.systems a there)
        (place_name m'.systems a there ∙ sym (place_name m.systems a (user_place m a user)))
