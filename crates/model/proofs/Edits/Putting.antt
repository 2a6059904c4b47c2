-- A system put into a memory, in its place or last, keeps the memory well formed.
use Prim.Native.Nat.{ℕ, suc, ◌-◌, ◌≤◌, ◌<◌}
use mathlib.Core.Path.{◌≡◌, refl, sym, ap, ◌∙◌}
use mathlib.Core.List.{List, [], ◌∷◌, ◌++◌}
use mathlib.Core.Bool.{true, false}
use mathlib.Core.Logic.{⊎_elim, inl, inr}
use native.Mathlib.Omega.{arith}
use native.Mathlib.Decide.{dec_lt, ℕ_discrete}
use borrow.Author.Tests.{leb-false}
use lib.ListN.{length, set, length-set}
use Rattle.model.specs.Types.{Kind, Enabled, OperatingPart, Single, Pair}
use Rattle.model.specs.Limits.{max_systems}
use Rattle.model.specs.WellFormed.{own_fine}
use Rattle.model.specs.Memory.{System, Memory, system_at, blank, is_user, place_named, user_named}
use Rattle.model.specs.Refusals.{no_room}
use Rattle.model.specs.Effects.{with_systems, put}
use Rattle.model.proofs.Basics.{either}
use Rattle.model.proofs.Chains.Relink.{Misses, replaced_other, replaced_same, replaced_no_ring, added_length, added_old, added_new, added_no_ring}
use Rattle.model.proofs.Memories.Fine.{Stands, Placed, PartPlaced, EnabledPlaced, Systems, Fine, preds_within, blank_beyond, placed_within}
use Rattle.model.proofs.Memories.Named.{place_stands, place_name, place_missing, user_place, user_none}

-- ---- a list that has every system of another, at its place and of its type

pub record Extends (l l' : List System) : Type 0 where
  pub longer : length l ≤ length l'
  pub kinds : (q : ℕ) → Stands l q → (system_at l' q).kind ≡ (system_at l q).kind

pub placed_extends : {l l' : List System} → Extends l l' → (k : Kind) (p : ℕ) → Placed l k p → Placed l' k p
placed_extends x k p f h = let g = f h in (omega (arith, x.longer, g.0), x.kinds p (h, g.0) ∙ g.1)

pub enabled_extends : {l l' : List System} → Extends l l' → (e : Enabled) → EnabledPlaced l e → EnabledPlaced l' e
enabled_extends {l} {l'} x e p =
    record {
      operating = part e.operating p.operating;
      orientational = placed_extends x _ e.orientational p.orientational;
      levelling = placed_extends x _ e.levelling p.levelling;
    }
  where
    part : (o : OperatingPart) → PartPlaced l o → PartPlaced l' o
    part (Single p) g = ⊎_elim (λ h. inl (placed_extends x _ p h)) (λ h. inr (placed_extends x _ p h)) g
    part (Pair w t) g = (placed_extends x _ w g.0, placed_extends x _ t g.1, g.2)

-- ---- in its place

module _ (m : Memory) (fine : Fine m) (s : System) (own : own_fine s ≡ true) (pred : Placed m.systems s.kind s.pred) where
  pred_within : s.pred ≤ length m.systems
  pred_within = placed_within m.systems s.kind s.pred pred

  module _
      (k : ℕ) (at : Stands m.systems k)
      (kind : s.kind ≡ (system_at m.systems k).kind) (name : s.name ≡ (system_at m.systems k).name) (off : Misses m.systems k s.pred) where
    new : List System
    new = set m.systems (k - 1) s

    same_as : {A : Type 0} (f : System → A) → f s ≡ f (system_at m.systems k) → (q : ℕ) → f (system_at new q) ≡ f (system_at m.systems q)
    unfolding new
    same_as f e q = go (ℕ_discrete q k)
      where
        go : Dec (q ≡ k) → f (system_at (set m.systems (k - 1) s) q) ≡ f (system_at m.systems q)
        go (yes y) = rw (y, replaced_same m.systems k s at.0 at.1) e
        go (no n) = ap f (replaced_other m.systems k s at.0 q n)

    new_length : length new ≡ length m.systems
    unfolding new
    new_length = length-set m.systems (k - 1) s

    extends : Extends m.systems new
    extends = record { longer = omega (arith, new_length); kinds = λ q h. same_as (λ (x : System). x.kind) kind q }

    replaced_systems : Systems new
    unfolding new
    replaced_systems =
        record {
          few = omega (arith, new_length, fine.systems.few);
          own = λ q h. own_at q h (ℕ_discrete q k);
          preds = λ q. pred_at q (ℕ_discrete q k);
          differ = λ i j h g e. fine.systems.differ i j (rw new_length at h) (rw new_length at g) (sym (same_name i) ∙ e ∙ same_name j);
        }
      where
        same_name : (q : ℕ) → (system_at new q).name ≡ (system_at m.systems q).name
        same_name = same_as (λ (x : System). x.name) name

        own_at : (q : ℕ) → Stands new q → Dec (q ≡ k) → own_fine (system_at new q) ≡ true
        own_at q h (yes y) = rw (y, replaced_same m.systems k s at.0 at.1) own
        own_at q h (no n) = rw (replaced_other m.systems k s at.0 q n) (fine.systems.own q (rw new_length at h))

        pred_at : (q : ℕ) → Dec (q ≡ k) → Placed new (system_at new q).kind (system_at new q).pred
        pred_at q (yes y) = rw (y, replaced_same m.systems k s at.0 at.1) (placed_extends extends s.kind s.pred pred)
        pred_at q (no n) = rw (replaced_other m.systems k s at.0 q n) (placed_extends extends _ _ (fine.systems.preds q))

    pub replaced_fine : Fine (with_systems m (set m.systems (k - 1) s))
    unfolding new
    replaced_fine =
        record {
          systems = replaced_systems;
          ringless = replaced_no_ring m.systems k s at.0 at.1 (preds_within fine.systems) pred_within fine.ringless off;
          enabled = enabled_extends extends m.enabled fine.enabled;
        }

  -- ---- last

  module _ (room : length m.systems < max_systems) (unlike : (q : ℕ) → Stands m.systems q → (system_at m.systems q).name ≡ s.name → ⊥) where
    more : List System
    more = m.systems ++ (s ∷ [])

    more_length : length more ≡ suc (length m.systems)
    unfolding more
    more_length = added_length m.systems s

    -- a place is an old one, the new one, or beyond
    by_place : (P : ℕ → System → Type 0) (q : ℕ) →
        (q ≤ length m.systems → P q (system_at m.systems q)) → P (suc (length m.systems)) s → (length more < q → P q blank) → P q (system_at more q)
    unfolding more
    by_place P q old last beyond = go (dec_lt (length m.systems) q) (dec_lt (length more) q)
      where
        go : Dec (length m.systems < q) → Dec (length more < q) → P q (system_at (m.systems ++ (s ∷ [])) q)
        go (no h) d = rw (added_old m.systems s q (omega arith)) (old (omega arith))
        go (yes h) (yes g) = rw (blank_beyond (m.systems ++ (s ∷ [])) q g) (beyond g)
        go (yes h) (no g) =
            let e : q ≡ suc (length m.systems) = omega (arith, more_length) in
            rw (e, added_new m.systems s) last

    extended : Extends m.systems more
    unfolding more
    extended = record { longer = omega (arith, more_length); kinds = λ q h. ap (λ (x : System). x.kind) (added_old m.systems s q h.1) }

    more_systems : Systems more
    more_systems =
        record {
          few = omega (arith, more_length);
          own = λ q. by_place (λ x t. Stands more x → own_fine t ≡ true) q (λ g h. fine.systems.own q (omega arith)) (λ h. own) (λ g h. absurd (omega arith));
          preds = preds_at;
          differ = λ i j. by_place (Differs j) i (old_differs i j) (new_differs j) (λ g h. absurd (omega arith));
        }
      where
        preds_at : (q : ℕ) → Placed more (system_at more q).kind (system_at more q).pred
        preds_at q =
            by_place (λ x t. Placed more t.kind t.pred) q
            (λ g. placed_extends extended _ _ (fine.systems.preds q))
            (placed_extends extended s.kind s.pred pred)
            (λ g h. absurd (omega arith))

        Differs : ℕ → ℕ → System → Type 0
        Differs j x t = Stands more x → Stands more j → t.name ≡ (system_at more j).name → x ≡ j

        old_differs : (i j : ℕ) → i ≤ length m.systems → Stands more i → Stands more j → (system_at m.systems i).name ≡ (system_at more j).name → i ≡ j
        old_differs i j g =
            by_place (λ y u. Stands more i → Stands more y → (system_at m.systems i).name ≡ u.name → i ≡ y) j
            (λ g' h h' e. fine.systems.differ i j (omega arith) (omega arith) e)
            (λ h h' e. absurd (unlike i (omega arith) e))
            (λ g' h h' e. absurd (omega arith))

        new_differs : (j : ℕ) → Stands more (suc (length m.systems)) → Stands more j → s.name ≡ (system_at more j).name → suc (length m.systems) ≡ j
        new_differs j =
            by_place (λ y u. Stands more (suc (length m.systems)) → Stands more y → s.name ≡ u.name → suc (length m.systems) ≡ y) j
            (λ g h h' e. absurd (unlike j (omega arith) (sym e)))
            (λ h h' e. refl)
            (λ g h h' e. absurd (omega arith))

    pub added_fine : Fine (with_systems m (m.systems ++ (s ∷ [])))
    unfolding more
    added_fine =
        record {
          systems = more_systems;
          ringless = added_no_ring m.systems s (preds_within fine.systems) pred_within fine.ringless;
          enabled = enabled_extends extended m.enabled fine.enabled;
        }

  -- ---- in its place if the name is there, else last

  pub put_fine :
      (is_user m s.name ≡ true → (s.kind ≡ (user_named m s.name).kind) × Misses m.systems (place_named m.systems s.name) s.pred) →
      no_room m.systems (place_named m.systems s.name) ≡ false →
      Fine (put m s)
  unfolding put no_room is_user
  put_fine over room = ⊎_elim in_place last (either (is_user m s.name))
    where
      in_place : is_user m s.name ≡ true → Fine (put m s)
      in_place u =
          let k = place_named m.systems s.name in
          let pos = user_place m s.name u in
          rw u (replaced_fine k (place_stands m.systems s.name pos) (over u).0 (sym (place_name m.systems s.name pos)) (over u).1)

      last : is_user m s.name ≡ false → Fine (put m s)
      last u = rw u (added_fine (leb-false max_systems (length m.systems) (rw u at room)) (place_missing m.systems s.name (user_none m s.name u)))
