-- What holds still with the enabled frames: every system in use, with its group, resultant and steps.
use Prim.Native.Nat.{ℕ}
use mathlib.Core.Path.{◌≡◌, refl, sym, ap, ◌∙◌}
use mathlib.Core.List.{List, [], ◌∷◌, ◌++◌, map, map-append, map-map}
use Rattle.model.specs.Types.{Group, Operating, Orientational, Levelling, Enabled, OperatingPart, Single, Pair}
use Rattle.model.specs.Memory.{System, Memory, Ref}
use Rattle.model.specs.Chain.{hop, chain}
use Rattle.model.specs.Use.{in_group, down_from, looked_at}
use Rattle.model.specs.Effects.{mended_part, mended_enabled}
use Rattle.model.specs.Demand.{Held, Frames, held, frames}
use Rattle.model.proofs.Chains.Carry.{Carried, carried_chain, carried_on, carried_held}
use Rattle.model.proofs.Chains.Frames.{PartHas, EachEnabled, carried_frames}
use Rattle.model.proofs.Chains.Looked.{last_two, looked_with, looked_parts}

-- a system in use: its group, and what demand 3 compares
pub record Standing : Type 0 where
  pub group : Group
  pub held : Held

abbrev pub standing : Memory → Ref → Standing
standing m r = record { group = r.group; held = held m r }

-- those that the test for use looks at
unfoldable pub in_use_held : Memory → List Standing
in_use_held m = map (standing m) (looked_at m)

-- all that holds still, with the frames that demand 3 compares
pub record Unmoved : Type 0 where
  pub frames : Frames
  pub in_use : List Standing

abbrev pub unmoved : Memory → Unmoved
unmoved m = record { frames = frames m; in_use = in_use_held m }

module _ (m m' : Memory) (f : ℕ → ℕ) where
  abbrev l : List System
  l = m.systems

  abbrev l' : List System
  l' = m'.systems

  standing_at : (g : Group) (q : ℕ) → Carried m m' f q → standing m' (in_group g (f q)) ≡ standing m (in_group g q)
  standing_at g q c = ap (λ (h : Held). record { group = g; held = h }) (carried_held m m' f g q c)

  -- a system and its chain
  standing_down : (g : Group) (q : ℕ) → Carried m m' f q → map (standing m') (down_from l' (in_group g (f q))) ≡ map (standing m) (down_from l (in_group g q))
  standing_down g q c =
      let chained = carried_chain l l' f q c.alike c.ends c.ends_after (λ p. standing m (in_group g p)) (λ p. standing m' (in_group g p)) (λ i. standing_at g (hop l i q) (carried_on m m' f q c i)) in
      let rest = map-map (standing m') (in_group g) (chain l' (f q)) ∙ chained ∙ sym (map-map (standing m) (in_group g) (chain l q)) in
      λ i. standing_at g q c i ∷ rest i

  -- before the rest
  standing_front : (g : Group) (q : ℕ) (rest rest' : List Ref) → Carried m m' f q → map (standing m') rest' ≡ map (standing m) rest →
      map (standing m') (down_from l' (in_group g (f q)) ++ rest') ≡ map (standing m) (down_from l (in_group g q) ++ rest)
  standing_front g q rest rest' c e =
      map-append (standing m') (down_from l' (in_group g (f q))) rest'
      ∙ (λ i. standing_down g q c i ++ e i)
      ∙ sym (map-append (standing m) (down_from l (in_group g q)) rest)

  carried_standing : m'.enabled ≡ mended_enabled f m.enabled → EachEnabled (Carried m m' f) m.enabled → in_use_held m' ≡ in_use_held m
  unfolding in_use_held mended_part
  carried_standing e c =
      ap (map (standing m')) (looked_parts m' ∙ ap (λ (e : Enabled). looked_with l' e.orientational e.levelling e.operating) e)
      ∙ go m.enabled.operating c.operating
      ∙ ap (map (standing m)) (sym (looked_parts m))
    where
      b : ℕ
      b = m.enabled.orientational

      v : ℕ
      v = m.enabled.levelling

      last : map (standing m') (last_two l' (f b) (f v)) ≡ map (standing m) (last_two l b v)
      last = standing_front Orientational b _ _ c.orientational (standing_front Levelling v [] [] c.levelling refl)

      go : (o : OperatingPart) → PartHas (Carried m m' f) o → map (standing m') (looked_with l' (f b) (f v) (mended_part f o)) ≡ map (standing m) (looked_with l b v o)
      go (Single p) h = standing_front Operating p _ _ h last
      go (Pair w t) h = standing_front Operating w _ _ h.0 (standing_front Operating t _ _ h.1 last)

  pub carried_unmoved : m'.enabled ≡ mended_enabled f m.enabled → EachEnabled (Carried m m' f) m.enabled → unmoved m' ≡ unmoved m
  carried_unmoved e c = λ i. record { frames = carried_frames m m' f e c i; in_use = carried_standing e c i }
