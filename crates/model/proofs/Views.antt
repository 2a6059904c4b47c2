-- Laws of stored states and what they stand for (specs/Stored.antt).
use Prim.Native.Nat.{ℕ}
use mathlib.Core.Path.{◌≡◌, sym, ◌∙◌}
use mathlib.Core.Bool.{true, false}
use mathlib.Core.Logic.{⊎_elim}
use native.Mathlib.Omega.{arith}
use Rattle.model.specs.Types.{StoredState}
use Rattle.model.specs.Memory.{State}
use Rattle.model.specs.Stored.{holds, shapeless, shaped, state_of, view_of}
use Rattle.model.proofs.Basics.{either}

module _ (s : StoredState) where
  pub view_holds : shaped s ≡ true → view_of s ≡ holds (state_of s)
  unfolding view_of
  view_holds e = rw (e, view_of)

  pub view_shapeless : shaped s ≡ false → view_of s ≡ shapeless s
  unfolding view_of
  view_shapeless e = rw (e, view_of)

  -- a view that holds a state is that of a stored state which stands for it
  pub view_is : (st : State) → view_of s ≡ holds st → (shaped s ≡ true) × (state_of s ≡ st)
  view_is st e =
      ⊎_elim (λ h. let q = sym (view_holds h) ∙ e in (h, cc))
      (λ h. let q = sym (view_shapeless h) ∙ e in let z : ◌≡◌ {A = ℕ} 0 1 = cc in absurd (omega arith))
      (either (shaped s))
