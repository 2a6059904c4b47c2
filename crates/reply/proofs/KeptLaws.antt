-- KLT?'s list: what is reached from each place passed is kept for the systems that follow on from it.
use Prim.Native.Nat.{ℕ, suc, ◌+◌, ◌≤◌, ◌<◌}
use mathlib.Core.Path.{◌≡◌, refl, ap, ◌∙◌}
use mathlib.Core.List.{List, ◌∷◌}
use native.Mathlib.Omega.{arith}
use native.Mathlib.Decide.{dec_lt}
use lib.ListN.{length, get_or, set, length-set}
use lib.Seq.{get_or-set_same, get_or-set_other}
use Rattle.model.specs.declared.Dir.TheVariants.{Px}
use Rattle.model.specs.Pose.{origin}
use Rattle.model.specs.Memory.{System}
use Rattle.chains.specs.declared.frames.Reached.{Reached}
use Rattle.chains.specs.Walk.{walk_of, walked, at_fixed}
use Rattle.chains.proofs.Reaching.{walked_fixed}

-- only to fill a place where a list has none
abbrev pub nowhere : Reached
nowhere = record { at = origin; rot = record { a = Px; b = Px; c = Px }; steps = 0 }

-- what is reached from each place up to i, place 0 too
pub record Kept (l : List System) (known : List Reached) (i : ℕ) : Type 0 where
  pub room : length known ≡ 17
  pub each : (j : ℕ) → j ≤ i → walk_of (get_or known j nowhere) ≡ walked l j

pub kept_start : (l : List System) (r : Reached) (rest : List Reached) → length rest ≡ 16 → walk_of r ≡ at_fixed → Kept l (r ∷ rest) 0
kept_start l r rest n e =
    record {
      room = ap suc n;
      each = λ j h. let z : j ≡ 0 = omega arith in rw z (e ∙ walked_fixed l 0 refl);
    }

pub kept_on : {l : List System} {known : List Reached} {i : ℕ} {r : Reached} → Kept l known i → i < 16 → walk_of r ≡ walked l (i + 1) → Kept l (set known (i + 1) r) (i + 1)
kept_on {l} {known} {i} {r} k b e = record { room = length-set known (i + 1) r ∙ k.room; each = λ j h. go j h (dec_lt i j) }
  where
    go : (j : ℕ) → j ≤ i + 1 → Dec (i < j) → walk_of (get_or (set known (i + 1) r) j nowhere) ≡ walked l j
    go j h (yes y) =
        let z : j ≡ i + 1 = omega arith in
        rw z (ap walk_of (get_or-set_same known (i + 1) r nowhere (omega (arith, k.room))) ∙ e)
    go j h (no y) = ap walk_of (get_or-set_other known (i + 1) j r nowhere (λ z. omega arith)) ∙ k.each j (omega arith)
