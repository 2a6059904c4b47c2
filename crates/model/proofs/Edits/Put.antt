-- A system that was put: it is found under its name, and where it hangs on the fixed system its own pose is its resultant.
use Prim.Native.Nat.{ℕ, suc}
use mathlib.Core.Path.{◌≡◌, sym, ap, ◌∙◌}
use mathlib.Core.Bool.{true, false}
use mathlib.Core.Logic.{⊎_elim}
use native.Mathlib.Omega.{arith}
use borrow.Author.Tests.{lt-ltb}
use lib.ListN.{length, length-set}
use Rattle.model.specs.Pose.{followed, rot_of}
use Rattle.model.specs.Memory.{System, Memory, system_at, is_user, place_named, named, user_named}
use Rattle.model.specs.Chain.{pred_of, steps, resultant, own_pose}
use Rattle.model.specs.Effects.{put}
use Rattle.model.proofs.Basics.{either}
use Rattle.model.proofs.Chains.Hops.{pred_of_is, ring_free}
use Rattle.model.proofs.Chains.Steps.{steps_pred, steps_zero, resultant_pred, resultant_zero}
use Rattle.model.proofs.Chains.Relink.{replaced_same, added_length, added_new}
use Rattle.model.proofs.Poses.Laws.{neutral_before}
use Rattle.model.proofs.Memories.Fine.{Stands, Fine}
use Rattle.model.proofs.Memories.Found.{place_back}
use Rattle.model.proofs.Memories.Named.{place_stands, user_place, named_place}

-- a system that is put stands at some place
abbrev Holds : System → Memory → Type 0
Holds s m = (k : ℕ) × Stands m.systems k × (system_at m.systems k ≡ s)

put_holds : (m : Memory) (s : System) → Holds s (put m s)
unfolding put
put_holds m s = ⊎_elim over last (either (is_user m s.name))
  where
    over : is_user m s.name ≡ true → Holds s (put m s)
    over u =
        let k = place_named m.systems s.name in
        let at = place_stands m.systems s.name (user_place m s.name u) in
        rw u (k, (at.0, rw length-set at.1), replaced_same m.systems k s at.0 at.1)

    last : is_user m s.name ≡ false → Holds s (put m s)
    last u = rw u (suc (length m.systems), (omega arith, rw (added_length m.systems s) (omega arith)), added_new m.systems s)

-- what was put is found under its name
module _ (m : Memory) (s : System) (fine : Fine (put m s)) where
  abbrev m' : Memory
  m' = put m s

  place_put : place_named m'.systems s.name ≡ (put_holds m s).0
  place_put =
      let h = put_holds m s in
      ap (λ (t : System). place_named m'.systems t.name) (sym h.2) ∙ place_back m' fine h.0 h.1

  pub named_put : user_named m' s.name ≡ s
  named_put = ap (system_at m'.systems) place_put ∙ (put_holds m s).2

  pub user_put : is_user m' s.name ≡ true
  unfolding is_user
  user_put = rw place_put (lt-ltb 0 (put_holds m s).0 (put_holds m s).1.0)

  -- and where it hangs on the fixed system, its own pose is its resultant
  module _ (first : s.pred ≡ 0) where
    abbrev k : ℕ
    k = (named m' s.name).place

    at : k ≡ (put_holds m s).0
    at = named_place m' s.name ∙ place_put

    own_system : system_at m'.systems k ≡ s
    own_system = ap (system_at m'.systems) at ∙ (put_holds m s).2

    there : Stands m'.systems k
    there = rw at (put_holds m s).1

    on_fixed : pred_of m'.systems k ≡ 0
    on_fixed = pred_of_is m'.systems k ∙ ap (λ (t : System). t.pred) own_system ∙ first

    pub one_step : steps m'.systems k ≡ 1
    one_step =
        let e = ring_free m'.systems fine.ringless k there.1 in
        steps_pred m'.systems k there.0 e ∙ ap (λ q. suc (steps m'.systems q)) on_fixed ∙ ap suc (steps_zero m'.systems)

    pub own_resultant : resultant m'.systems k ≡ record { at = s.offset; rot = rot_of s.turns }
    unfolding own_pose
    own_resultant =
        let e = ring_free m'.systems fine.ringless k there.1 in
        resultant_pred m'.systems k there.0 e
        ∙ ap (λ q. followed (resultant m'.systems q) (own_pose m'.systems k)) on_fixed
        ∙ ap (λ p. followed p (own_pose m'.systems k)) (resultant_zero m'.systems)
        ∙ neutral_before (own_pose m'.systems k)
        ∙ ap (λ (t : System). record { at = t.offset; rot = rot_of t.turns }) own_system
