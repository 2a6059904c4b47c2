-- One link at a time: what the loops over flat links show of the definitions.
use Prim.Native.Nat.{ℕ, zero, suc, ◌+◌, ◌-◌, ◌<◌, ◌≤◌}
use mathlib.Core.Path.{◌≡◌, refl, ap}
use mathlib.Core.Bool.{true, false}
use mathlib.Core.List.{List}
use mathlib.Core.Logic.{⊎_elim}
use native.Mathlib.Omega.{arith}
use native.Mathlib.Numerals.{sub-one}
use lib.ListN.{length, get_or, length-map, get_or-map}
use Rattle.model.specs.Memory.{System, system_at}
use Rattle.model.specs.Chain.{pred_of, hop, no_ring}
use Rattle.model.proofs.Basics.{either}
use Rattle.model.proofs.Chains.Hops.{hop_zero, ring_free, ring_free_from}
use Rattle.chains.specs.Flat.{linked_to, linked_by}

-- ---- one link

pub pred_user : (ps : List ℕ) (q : ℕ) → (q ≡ 0 → ⊥) → pred_of (linked_by ps) q ≡ get_or ps (q - 1) 0
unfolding pred_of system_at
pred_user ps zero h = absurd (h refl)
pred_user ps (suc i) h = rw (sub-one (suc i)) (ap (λ (s : System). s.pred) (get_or-map linked_to ps i 0))

module _ (l : List System) where
  pub pred_fixed : (q : ℕ) → q ≡ 0 → pred_of l q ≡ 0
  unfolding pred_of
  pred_fixed q e = rw e

  -- ---- the walk that asks whether a chain ends

  pub hop_ended : (n q : ℕ) → q ≡ 0 → hop l n q ≡ 0
  hop_ended n q e = rw e (hop_zero l n)

  pub hop_none : (n q : ℕ) → n ≡ 0 → hop l n q ≡ q
  unfolding hop
  hop_none n q e = rw e

  pub hop_one : (n q : ℕ) → 0 < n → hop l n q ≡ hop l (n - 1) (pred_of l q)
  unfolding hop
  hop_one zero q h = absurd (omega arith)
  hop_one (suc n) q h = rw (sub-one (suc n))

-- ---- flat links are as many as their systems

module _ (ps : List ℕ) where
  pub no_ring_by : ((q : ℕ) → q < length ps + 1 → hop (linked_by ps) (length ps) q ≡ 0) → no_ring (linked_by ps) ≡ true
  no_ring_by h = ring_free_from (linked_by ps) (rw (length-map ps linked_to) (λ q b. h q (omega arith)))

  pub ring_by : (q : ℕ) → q ≤ length ps → (hop (linked_by ps) (length ps) q ≡ 0 → ⊥) → no_ring (linked_by ps) ≡ false
  ring_by q b h = ⊎_elim (λ e. absurd (h (rw (length-map ps linked_to) at (ring_free (linked_by ps) e q (rw (length-map ps linked_to) b))))) (λ e. e) (either (no_ring (linked_by ps)))
