-- The enabled frames of two memories are the same where the systems are alike along every enabled chain.
use Prim.Native.Nat.{ℕ, ◌≤◌, ◌<◌}
use mathlib.Core.Path.{◌≡◌, refl, sym, ap, ◌∙◌}
use mathlib.Core.Logic.{⊎_elim}
use mathlib.Core.List.{List, [], ◌∷◌, ◌++◌, map}
use mathlib.Core.Bool.{Bool, false, ◌||◌}
use borrow.Author.Tests.{eqb-false}
use lib.Dec.{eqb}
use lib.ListN.{length}
use Rattle.model.specs.Types.{Operating, Orientational, Levelling, Enabled, OperatingPart, Single, Pair}
use Rattle.model.specs.Lists.{any}
use Rattle.model.specs.Memory.{System, Memory, Ref}
use Rattle.model.specs.Chain.{on_chain}
use Rattle.model.specs.Use.{operating_places, in_group, enabled_refs, is_in_use}
use Rattle.model.specs.Effects.{mended_part, mended_enabled}
use Rattle.model.specs.Demand.{held, alone, held_part, frames}
use Rattle.model.proofs.Basics.{or_false}
use Rattle.model.proofs.Chains.Hops.{ring_free}
use Rattle.model.proofs.Chains.Steps.{off_path}
use Rattle.model.proofs.Chains.Carry.{Carried, carried_held}
use Rattle.model.proofs.Chains.Relink.{Misses}
use Rattle.model.proofs.Memories.Fine.{PartPlaced, Fine, placed_within}

-- ---- what is so of every enabled place

abbrev pub PartHas : (ℕ → Type 0) → OperatingPart → Type 0
PartHas P (Single p) = P p
PartHas P (Pair w t) = P w × P t

pub record EachEnabled (P : ℕ → Type 0) (e : Enabled) : Type 0 where
  pub operating : PartHas P e.operating
  pub orientational : P e.orientational
  pub levelling : P e.levelling

pub each_also : (P Q : ℕ → Type 0) (e : Enabled) → ((q : ℕ) → P q → Q q) → EachEnabled P e → EachEnabled Q e
each_also P Q e f h =
    record {
      operating = part e.operating h.operating;
      orientational = f e.orientational h.orientational;
      levelling = f e.levelling h.levelling;
    }
  where
    part : (o : OperatingPart) → PartHas P o → PartHas Q o
    part (Single p) h = f p h
    part (Pair w t) h = (f w h.0, f t h.1)

pub each_both : (P Q : ℕ → Type 0) (e : Enabled) → EachEnabled P e → EachEnabled Q e → EachEnabled (λ q. P q × Q q) e
each_both P Q e g h =
    record {
      operating = part e.operating g.operating h.operating;
      orientational = (g.orientational, h.orientational);
      levelling = (g.levelling, h.levelling);
    }
  where
    part : (o : OperatingPart) → PartHas P o → PartHas Q o → PartHas (λ q. P q × Q q) o
    part (Single p) g h = (g, h)
    part (Pair w t) g h = ((g.0, h.0), (g.1, h.1))

-- ---- the frames

module _ (m m' : Memory) (f : ℕ → ℕ) where
  carried_part : (o : OperatingPart) → PartHas (Carried m m' f) o → held_part m' (mended_part f o) ≡ held_part m o
  unfolding held_part mended_part
  carried_part (Single p) h = ap alone (carried_held m m' f Operating p h)
  carried_part (Pair w t) h =
      let a = carried_held m m' f Operating w h.0 in
      let b = carried_held m m' f Operating t h.1 in
      cc

  pub carried_frames : m'.enabled ≡ mended_enabled f m.enabled → EachEnabled (Carried m m' f) m.enabled → frames m' ≡ frames m
  unfolding frames
  carried_frames e c =
      let o : held_part m' m'.enabled.operating ≡ held_part m m.enabled.operating =
      ap (λ (e : Enabled). held_part m' e.operating) e ∙ carried_part m.enabled.operating c.operating in
      let r : held m' (in_group Orientational m'.enabled.orientational) ≡ held m (in_group Orientational m.enabled.orientational) =
      ap (λ (e : Enabled). held m' (in_group Orientational e.orientational)) e
      ∙ carried_held m m' f Orientational m.enabled.orientational c.orientational in
      let v : held m' (in_group Levelling m'.enabled.levelling) ≡ held m (in_group Levelling m.enabled.levelling) =
      ap (λ (e : Enabled). held m' (in_group Levelling e.levelling)) e ∙ carried_held m m' f Levelling m.enabled.levelling c.levelling in
      λ i. record { operating = o i; orientational = r i; levelling = v i }

-- nothing moves where no place does
pub enabled_unmoved : (e : Enabled) → e ≡ mended_enabled (λ q. q) e
unfolding mended_part
enabled_unmoved e = λ i. record { operating = part e.operating i; orientational = e.orientational; levelling = e.levelling }
  where
    part : (o : OperatingPart) → o ≡ mended_part (λ q. q) o
    part (Single p) = refl
    part (Pair w t) = refl

-- ---- the enabled places of a well-formed memory

module _ (m : Memory) (fine : Fine m) where
  pub enabled_within : EachEnabled (λ q. q ≤ length m.systems) m.enabled
  enabled_within =
      record {
        operating = part m.enabled.operating fine.enabled.operating;
        orientational = placed_within m.systems _ m.enabled.orientational fine.enabled.orientational;
        levelling = placed_within m.systems _ m.enabled.levelling fine.enabled.levelling;
      }
    where
      part : (o : OperatingPart) → PartPlaced m.systems o → PartHas (λ q. q ≤ length m.systems) o
      part (Single p) h = ⊎_elim (placed_within m.systems _ p) (placed_within m.systems _ p) h
      part (Pair w t) h = (placed_within m.systems _ w h.0, placed_within m.systems _ t h.1)

  -- a system that is not in use is met by no enabled chain
  pub unused_missed : (k : ℕ) → 0 < k → is_in_use m k ≡ false → EachEnabled (λ q. Misses m.systems k q) m.enabled
  unfolding is_in_use enabled_refs any
  unused_missed k pos free =
      each_also (λ q. (q ≤ length l) × (eqb k q || on_chain l k q ≡ false)) (λ q. Misses l k q) m.enabled missed
      (each_both (λ q. q ≤ length l) (λ q. eqb k q || on_chain l k q ≡ false) m.enabled enabled_within (tests m.enabled.operating free))
    where
      l : List System
      l = m.systems

      missed : (q : ℕ) → (q ≤ length l) × (eqb k q || on_chain l k q ≡ false) → Misses l k q
      missed q h i =
          let t = or_false (eqb k q) (on_chain l k q) h.1 in
          off_path l q (ring_free l fine.ringless q h.0) k i pos (λ e. eqb-false k q t.0 (sym e)) t.1

      meets : ℕ → Bool
      meets q = eqb k q || on_chain l k q

      tests : (o : OperatingPart) →
          any (λ (r : Ref). meets r.place) (map (in_group Operating) (operating_places o) ++ (in_group Orientational m.enabled.orientational ∷ in_group Levelling m.enabled.levelling ∷ [])) ≡ false →
          EachEnabled (λ q. meets q ≡ false) (record { operating = o; orientational = m.enabled.orientational; levelling = m.enabled.levelling })
      tests (Single p) e =
          let a = or_false (meets p) _ e in
          let b = or_false (meets m.enabled.orientational) _ a.1 in
          record { operating = a.0; orientational = b.0; levelling = (or_false (meets m.enabled.levelling) _ b.1).0 }
      tests (Pair w t) e =
          let c = or_false (meets w) _ e in
          let a = or_false (meets t) _ c.1 in
          let b = or_false (meets m.enabled.orientational) _ a.1 in
          record { operating = (c.0, a.0); orientational = b.0; levelling = (or_false (meets m.enabled.levelling) _ b.1).0 }
