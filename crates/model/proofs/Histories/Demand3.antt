-- Demand 3, proved: `demand_3`.
use Prim.Native.Nat.{ℕ, zero, suc, ◌<◌}
use mathlib.Core.Path.{◌≡◌, refl, ap, ◌∙◌}
use mathlib.Core.List.{List, ◌++◌, map, append_assoc, append-nil}
use mathlib.Core.Bool.{true}
use mathlib.Core.Logic.{inl, inr, ⊎_elim}
use native.Mathlib.Omega.{arith}
use native.Mathlib.Decide.{dec_lt}
use lib.ListN.{length}
use Rattle.model.specs.Types.{Kind, OperatingPart, Single, Pair}
use Rattle.model.specs.Ascii.{ascii}
use Rattle.model.specs.Lists.{joined}
use Rattle.model.specs.Kinds.{of_group}
use Rattle.model.specs.Pose.{shown}
use Rattle.model.specs.Memory.{System, Memory, State, Ref, system_at, name_of}
use Rattle.model.specs.Chain.{pred_of, hop, steps, chain, resultant}
use Rattle.model.specs.WellFormed.{well_formed}
use Rattle.model.specs.Request.{reading, asks, list, resultants}
use Rattle.model.specs.Refusals.{first}
use Rattle.model.specs.Reply.{decimal, six_values, listing, every_system, pose_line, resultant_line}
use Rattle.model.specs.Demand.{start_state, Defined, OperatingDefined, Reaches, Sound, Replies, Listed, Demand3}
use Rattle.model.specs.Trace.{after_calls, after_inputs}
use Rattle.model.proofs.Open.{definitions_open}
use Rattle.model.proofs.Chains.Hops.{hop_last, ring_free}
use Rattle.model.proofs.Chains.Steps.{Ends, steps_within, steps_end, steps_before, chain_length, chain_zero}
use Rattle.model.proofs.Chains.Standing.{Unmoved}
use Rattle.model.proofs.Memories.Fine.{Placed, PartPlaced, Systems, Fine, state_of_lem, fine_of}
use Rattle.model.proofs.Ladder.Queries.{query_replies}
use Rattle.model.proofs.Histories.Kept.{well_formed_kept}
use Rattle.model.proofs.Histories.Still.{still_inputs}

-- ---- one memory

module _ (l : List System) where
  defined : (k : Kind) (p : ℕ) → Placed l k p → Defined l k p
  defined k p f = go (dec_lt 0 p)
    where
      go : Dec (0 < p) → Defined l k p
      go (yes h) = inr (f h)
      go (no h) = inl (omega arith)

  part_defined : (o : OperatingPart) → PartPlaced l o → OperatingDefined l o
  part_defined (Single p) f = ⊎_elim (λ h. inl (defined _ p h)) (λ h. inr (defined _ p h)) f
  part_defined (Pair w t) f = (defined _ w f.0, defined _ t f.1, λ z. let h = f.2 in let a = z.0 in let b = z.1 in omega arith)

  -- a predecessor that is a user system has its successor's type
  pred_kind : Systems l → (x : ℕ) → 0 < pred_of l x → (system_at l (pred_of l x)).kind ≡ (system_at l x).kind
  unfolding pred_of
  pred_kind s zero h = absurd (omega arith)
  pred_kind s (suc i) h = (s.preds (suc i) h).1

  one_kind : Systems l → (q i : ℕ) → i < steps l q → (system_at l (hop l i q)).kind ≡ (system_at l q).kind
  unfolding hop
  one_kind s q zero h = refl
  one_kind s q (suc i) h =
      let e = hop_last l i q in
      ap (λ x. (system_at l x).kind) e
      ∙ pred_kind s (hop l i q) (go (dec_lt 0 (pred_of l (hop l i q))) e)
      ∙ one_kind s q i (omega arith)
    where
      go : Dec (0 < pred_of l (hop l i q)) → hop l (suc i) q ≡ pred_of l (hop l i q) → 0 < pred_of l (hop l i q)
      go (yes p) e = p
      go (no p) e = absurd (steps_before l q (suc i) h (e ∙ omega arith))

  reaches : Systems l → (q : ℕ) → Ends l q → Reaches l q
  reaches s q e =
      let c = chain_length l q in
      record {
        ends = ap (λ n. hop l n q) c ∙ steps_end l q e;
        before = λ i h. steps_before l q i (rw c at h);
        kind = λ i h. one_kind s q i (rw c at h);
        short = omega (arith, c, steps_within l q e, s.few);
      }

pub sound : (m : Memory) → Fine m → Sound m
sound m f =
    let l = m.systems in
    record {
      operating = part_defined l m.enabled.operating f.enabled.operating;
      orientational = defined l _ m.enabled.orientational f.enabled.orientational;
      levelling = defined l _ m.enabled.levelling f.enabled.levelling;
      fixed = chain_zero l;
      reaches = λ q h. reaches l f.systems q (ring_free l f.ringless q h);
    }

-- ---- KLT? sent next

klt_read : reading (ascii "KLT?") ≡ asks (list resultants)
unfolding definitions_open
klt_read = refl

klt_shown : (st : State) → well_formed st ≡ true →
    Replies st (ascii "KLT?") (listing (map (resultant_line st.volatile.systems) (every_system st.volatile.systems)))
unfolding definitions_open
klt_shown st w = query_replies st w (ascii "KLT?") resultants klt_read refl refl

-- the line of a system: its name first, the steps of its chain last
klt_line : (l : List System) (r : Ref) → (rest : List ℕ) ×
    (resultant_line l r
    ≡ ascii "Name=" ++ (name_of l r ++ (ascii " EndCoordinateSystem=" ++ (rest ++ (ascii " Steps=" ++ decimal (length (chain l r.place)))))))
unfolding resultant_line pose_line joined
klt_line l r =
    let p = resultant l r.place in
    let six = six_values p.at (shown p.rot) in
    let end = (of_group r.group).end in
    (end ++ six, rw (chain_length l r.place, append-nil, append_assoc end six (ascii " Steps=" ++ decimal (steps l r.place))))

klt_listed : (st : State) → well_formed st ≡ true → Listed st
klt_listed st w = record { shown = klt_shown st w; steps = klt_line st.volatile.systems }

-- ---- both lists

pub demand_3 : Demand3
demand_3 start first second s =
    let w = well_formed_kept.history start first second in
    let st = after_inputs (after_calls (start_state start) first) second in
    let f = state_of_lem st w in
    record {
      volatile = sound st.volatile (fine_of st.volatile f.volatile);
      permanent = sound st.permanent (fine_of st.permanent f.permanent);
      listed = klt_listed st w;
      still = ap (λ (u : Unmoved). u.frames) (still_inputs (after_calls (start_state start) first) second s);
    }
