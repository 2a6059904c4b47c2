-- The resultant, the steps and the chain of a system by its predecessor's, in a well-formed memory.
use Prim.Native.Nat.{ℕ, zero, suc, ◌≤◌, ◌<◌}
use mathlib.Core.Path.{ap}
use mathlib.Core.List.{List}
use native.Mathlib.Omega.{arith}
use lib.ListN.{length}
use Rattle.model.specs.Pose.{Pose}
use Rattle.model.specs.Memory.{System, system_at}
use Rattle.model.specs.Chain.{pred_of, own_pose}
use Rattle.model.specs.Recurrences.{AtFixed, OnPredecessor, ByPredecessor}
use Rattle.model.proofs.Chains.Hops.{ring_free}
use Rattle.model.proofs.Chains.Steps.{Ends, steps_zero, chain_zero, resultant_zero, steps_within, steps_pred, chain_pred, resultant_pred}
use Rattle.model.proofs.Memories.Fine.{fine_of}

pub at_fixed_lem : (l : List System) → AtFixed l
at_fixed_lem l = record { pose = resultant_zero l; no_steps = steps_zero l; no_chain = chain_zero l }

pub on_predecessor : (l : List System) (k : ℕ) → 0 < k → length l ≤ 16 → Ends l k → OnPredecessor l k (system_at l k).pred
unfolding pred_of own_pose
on_predecessor l zero p few e = absurd (omega arith)
on_predecessor l (suc i) p few e =
    let r = resultant_pred l (suc i) p e in
    record {
      offset = ap (λ (x : Pose). x.at) r;
      rotation = ap (λ (x : Pose). x.rot) r;
      one_more = steps_pred l (suc i) p e;
      few = omega (arith, steps_within l (suc i) e);
      links = chain_pred l (suc i) p e;
    }

pub by_predecessor : ByPredecessor
by_predecessor m fine =
    let f = fine_of m fine in
    record { fixed = at_fixed_lem m.systems; user = λ k p h. on_predecessor m.systems k p f.systems.few (ring_free m.systems f.ringless k h) }
