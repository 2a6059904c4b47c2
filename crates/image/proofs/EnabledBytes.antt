-- The bytes of what is enabled, by whether it is a pair.
use Prim.Native.Nat.{ℕ}
use mathlib.Core.Path.{◌≡◌}
use mathlib.Core.List.{[], ◌∷◌}
use Rattle.model.specs.declared.Enabled.{Enabled}
use Rattle.model.specs.declared.OperatingPart.TheVariants.{Single, Pair}
use Rattle.model.specs.Image.{numbers, enabled_bytes}

module _ (e : Enabled) where
  pub single_bytes : (p : ℕ) → e.operating ≡ Single p → enabled_bytes e ≡ numbers (0 ∷ p ∷ e.orientational ∷ e.levelling ∷ [])
  unfolding enabled_bytes
  single_bytes p q = rw q

  pub pair_bytes : (w t : ℕ) → e.operating ≡ Pair w t → enabled_bytes e ≡ numbers (1 ∷ w ∷ t ∷ e.orientational ∷ e.levelling ∷ [])
  unfolding enabled_bytes
  pair_bytes w t q = rw q
