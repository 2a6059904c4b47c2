-- Frames hold still: a line that is no accepted KEN, RPA or DPA leaves the enabled systems, their chains and their resultants,
-- and so every system in use.
use Prim.Native.Nat.{ℕ, suc, ◌-◌, ◌≤◌, ◌<◌}
use mathlib.Core.Path.{◌≡◌, refl, ap, ◌∙◌}
use mathlib.Core.List.{List, [], ◌∷◌, ◌++◌}
use mathlib.Core.Bool.{true, false, ◌||◌}
use mathlib.Core.Logic.{⊎_elim}
use native.Mathlib.Omega.{arith}
use lib.ListN.{length, set, length-set}
use Rattle.model.specs.Lists.{any}
use Rattle.model.specs.Memory.{System, Memory, State, system_at, place_named, is_user, named, user_named}
use Rattle.model.specs.Chain.{hop}
use Rattle.model.specs.Use.{is_in_use, used_at, name_in_use}
use Rattle.model.specs.Request.{Change, Reading, reading, unknown, malformed, beyond, asks, change, list, last_error, define, link, copy, remove, enable, set_level, save, restore, reset, locate}
use Rattle.model.specs.Words.{reserved}
use Rattle.model.specs.Refusals.{absent, change_ladder, request_ladder, reading_ladder}
use Rattle.model.specs.Effects.{with_systems, with_pred, with_name, put, fresh, linked, mended, removed_at, changed, next, located}
use Rattle.model.specs.Machine.{carried_out}
use Rattle.model.specs.Trace.{Input, after_inputs}
use Rattle.model.specs.Claims.{applies}
use Rattle.model.specs.Demand.{changes_enabled, asks_to_enable, steady}
use Rattle.model.proofs.Basics.{or_false, either, true_false}
use Rattle.model.proofs.Chains.Hops.{InRange, hop_past, ring_free, ends_in_time}
use Rattle.model.proofs.Chains.Steps.{Ends}
use Rattle.model.proofs.Chains.Carry.{Carried, carried_hop}
use Rattle.model.proofs.Chains.Relink.{Misses, replaced_alike, replaced_hop, added_length, added_alike, added_hop}
use Rattle.model.proofs.Edits.Removal.{mended_zero, mended_in_range, without, without_length, removed_alike_from, removed_in_range, not_its_own}
use Rattle.model.proofs.Memories.Fine.{Fine, Stands, preds_within, state_of_lem, fine_of}
use Rattle.model.proofs.Memories.Named.{user_place, place_stands, place_name, present_user}
use Rattle.model.proofs.Ladder.First.{Clear, clear_of}
use Rattle.model.proofs.Histories.Untaken.{untaken_inputs}
use Rattle.model.proofs.Chains.Frames.{each_also, each_both, enabled_unmoved, enabled_within, unused_missed}
use Rattle.model.proofs.Chains.Standing.{unmoved, carried_unmoved}

-- ---- the edits

module _ (m : Memory) (fine : Fine m) where
  l : List System
  l = m.systems

  ends : (q : ℕ) → q ≤ length m.systems → Ends m.systems q
  ends q h = ring_free m.systems fine.ringless q h

  -- the system at a place that is not in use, replaced
  still_replaced : (k : ℕ) (s : System) → 0 < k → is_in_use m k ≡ false → unmoved (with_systems m (set m.systems (k - 1) s)) ≡ unmoved m
  unfolding l
  still_replaced k s pos free =
      carried_unmoved m m' (λ q. q) (enabled_unmoved m.enabled)
      (each_also (λ q. (q ≤ length l) × Misses l k q) (Carried m m' (λ q. q)) m.enabled at
      (each_both (λ q. q ≤ length l) (Misses l k) m.enabled (enabled_within m fine) (unused_missed m fine k pos free)))
    where
      m' : Memory
      m' = with_systems m (set l (k - 1) s)

      at : (q : ℕ) → (q ≤ length l) × Misses l k q → Carried m m' (λ q. q) q
      at q h =
          record {
            alike = replaced_alike l k s pos q h.1;
            ends = ends q h.0;
            ends_after = rw length-set (replaced_hop l k s pos q h.1 (length l) ∙ ends q h.0);
          }

  -- a system put last
  still_added : (s : System) → unmoved (with_systems m (m.systems ++ (s ∷ []))) ≡ unmoved m
  unfolding l
  still_added s =
      carried_unmoved m m' (λ q. q) (enabled_unmoved m.enabled)
      (each_also (λ q. q ≤ length l) (Carried m m' (λ q. q)) m.enabled at (enabled_within m fine))
    where
      m' : Memory
      m' = with_systems m (l ++ (s ∷ []))

      places : InRange l
      places = preds_within fine.systems

      at : (q : ℕ) → q ≤ length l → Carried m m' (λ q. q) q
      at q h =
          record {
            alike = added_alike l s places q h;
            ends = ends q h;
            ends_after =
                rw (added_length l s)
                (added_hop l s places q h (suc (length l)) ∙ hop_past l (length l) (suc (length l)) q (omega arith) (ends q h));
          }

  -- the system at a place that is not in use, removed
  pub still_removed : (a : ℕ) → Stands m.systems a → is_in_use m a ≡ false → unmoved (removed_at m a) ≡ unmoved m
  unfolding l removed_at
  still_removed a st free =
      carried_unmoved m (removed_at m a) f refl
      (each_also (λ q. (q ≤ length l) × Misses l a q) (Carried m (removed_at m a) f) m.enabled at
      (each_both (λ q. q ≤ length l) (Misses l a) m.enabled (enabled_within m fine) (unused_missed m fine a st.0 free)))
    where
      f : ℕ → ℕ
      f = mended a (system_at l a).pred

      places : InRange l
      places = preds_within fine.systems

      at : (q : ℕ) → (q ≤ length l) × Misses l a q → Carried m (removed_at m a) f q
      at q h =
          let alike = removed_alike_from l a st.0 st.1 q h.1 in
          let own = not_its_own l a st.0 st.1 places fine.ringless in
          let z : hop (without l a) (length l) (f q) ≡ 0 =
          carried_hop l (without l a) f q alike (length l) ∙ ap f (ends q h.0) ∙ mended_zero a (system_at l a).pred st.0 in
          let range : f q ≤ length (without l a) =
          rw (without_length l a st.0 st.1) (mended_in_range a (system_at l a).pred st.0 (length l) q st.1 (places a) own h.0) in
          record {
            alike = alike;
            ends = ends q h.0;
            ends_after = ends_in_time (without l a) (removed_in_range l a st.0 st.1 places fine.ringless) (length l) (f q) range z;
          }

  -- a definition, a copy or a link: over a system that is not in use, or a new one
  pub still_put : (s : System) → name_in_use m s.name ≡ false → unmoved (put m s) ≡ unmoved m
  unfolding put used_at is_user
  still_put s free = ⊎_elim over (λ u. rw u (still_added s)) (either (is_user m s.name))
    where
      over : is_user m s.name ≡ true → unmoved (put m s) ≡ unmoved m
      over u = rw u (still_replaced (place_named m.systems s.name) s (user_place m s.name u) (rw u at free))

  user_of : (a : List ℕ) → absent m a ≡ false → reserved a ≡ false →
      (Stands m.systems (place_named m.systems a)) × ((user_named m a).name ≡ a) × (is_user m a ≡ true)
  user_of a p r =
      let u = present_user m a p r in
      let h = user_place m a u in
      (place_stands m.systems a h, place_name m.systems a h, u)

  pub still_linked : (a b : List ℕ) → absent m a ≡ false → reserved a ≡ false → name_in_use m a ≡ false → unmoved (linked m a b) ≡ unmoved m
  unfolding linked
  still_linked a b p r free = still_put (with_pred (user_named m a) (named m b).place) (rw (user_of a p r).1 free)

  pub still_gone : (a : List ℕ) → absent m a ≡ false → reserved a ≡ false → name_in_use m a ≡ false →
      unmoved (removed_at m (place_named m.systems a)) ≡ unmoved m
  unfolding used_at is_user
  still_gone a p r free = let u = user_of a p r in still_removed (place_named m.systems a) u.0 (rw u.2 at free)

-- ---- a line

-- an accepted change other than KEN, RPA and DPA
pub still_changed : (st : State) → Fine st.volatile → (c : Change) → changes_enabled c ≡ false → Clear (change_ladder st st.volatile c) →
    unmoved (changed st st.volatile c).volatile ≡ unmoved st.volatile
unfolding changed changes_enabled change_ladder applies any fresh located
still_changed st fine (define k n t u) e clear =
    let m = st.volatile in
    still_put m fine (fresh m k n t u) (or_false (name_in_use m n) _ (clear 11)).0
still_changed st fine (locate n) e clear =
    let m = st.volatile in
    still_put m fine (located m st.position n) (or_false (name_in_use m n) _ (clear 11)).0
still_changed st fine (link a b) e clear =
    let m = st.volatile in
    let there = (or_false (absent m a) _ (or_false (absent m a || absent m b) _ (clear 7)).0).0 in
    still_linked m fine a b there (or_false (reserved a) _ (clear 8)).0 (or_false (name_in_use m a) _ (clear 11)).0
still_changed st fine (copy s d) e clear =
    let m = st.volatile in
    still_put m fine (with_name (user_named m s) d) (or_false (name_in_use m d) _ (clear 11)).0
still_changed st fine (remove a) e clear =
    let m = st.volatile in
    let there = (or_false (absent m a) _ (clear 7)).0 in
    still_gone m fine a there (or_false (reserved a) _ (clear 8)).0 (or_false (name_in_use m a) _ (clear 11)).0
still_changed st fine (enable a) e clear = true_false e
still_changed st fine (set_level n) e clear = refl
still_changed st fine save e clear = refl
still_changed st fine restore e clear = true_false e
still_changed st fine reset e clear = true_false e

-- any accepted line
still_read : (st : State) → Fine st.volatile → (r : Reading) (b : List ℕ) → asks_to_enable r ≡ false → Clear (reading_ladder st r) →
    unmoved (carried_out st r b).state.volatile ≡ unmoved st.volatile
unfolding carried_out asks_to_enable reading_ladder request_ladder next
still_read st fine unknown b e clear = refl
still_read st fine malformed b e clear = refl
still_read st fine beyond b e clear = refl
still_read st fine (asks (change c)) b e clear = still_changed st fine c e clear
still_read st fine (asks (list q)) b e clear = refl
still_read st fine (asks last_error) b e clear = refl

-- every list of lines and positions without an accepted KEN, RPA or DPA
pub still_inputs : (st : State) (cs : List Input) → steady st cs ≡ true → unmoved (after_inputs st cs).volatile ≡ unmoved st.volatile
still_inputs =
    untaken_inputs asks_to_enable (λ st. unmoved st.volatile) (λ st n. refl) (λ st p. refl)
    (λ st line b w z e. still_read st (fine_of st.volatile (state_of_lem st w).volatile) (reading line) b e (clear_of st line b z))
