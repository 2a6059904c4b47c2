-- Document 02 §3 over stored states: what KLT? A B returns after any history, and that between systems in use it returns the same while demand 3 holds them.
use Prim.Native.Nat.{ℕ, ◌+◌}
use mathlib.Core.Path.{◌≡◌, refl, sym, ap, subst, ◌∙◌}
use mathlib.Core.List.{List, [], ◌∷◌, map}
use mathlib.Core.Bool.{true, false, cond}
use mathlib.Core.Option.{Option, none, some}
use mathlib.Core.Logic.{⊎_elim}
use Rattle.model.specs.Lists.{any, same, there?, Search}
use Rattle.model.specs.Pose.{followed, inverse}
use Rattle.model.specs.Memory.{Memory, State, Ref, name_of, find, ref_or, named}
use Rattle.model.specs.Chain.{pose_in}
use Rattle.model.specs.Use.{looked_at, use_test}
use Rattle.model.specs.Request.{resultant_in}
use Rattle.model.specs.Refusals.{absent, query_ladder}
use Rattle.model.specs.Reply.{pose_line, relative_line, listing, listed}
use Rattle.model.specs.Trace.{after_calls, after_inputs}
use Rattle.model.specs.Demand.{held, start_state}
use Rattle.model.specs.Checklist.{under_enabled}
use Rattle.model.specs.Stored.{Answered, state_of}
use Rattle.model.specs.Relative.{Member, seen_line, StoredSeen, SeenAgain}
use Rattle.model.proofs.Basics.{either, true_false}
use Rattle.model.proofs.Searches.{Each}
use Rattle.model.proofs.Chains.Steps.{chain_length}
use Rattle.model.proofs.Chains.Looked.{looked_systems}
use Rattle.model.proofs.Chains.Standing.{Standing, standing, in_use_held, Unmoved, unmoved}
use Rattle.model.proofs.Memories.Fine.{Fine, state_of_lem, fine_of}
use Rattle.model.proofs.Memories.Found.{IsSystem}
use Rattle.model.proofs.Ladder.Queries.{query_alike}
use Rattle.model.proofs.Views.{view_is}
use Rattle.model.proofs.Histories.InUse.{use_by_system, named_found, says_the_same, under_enabled_lem, frames_alike}
use Rattle.model.proofs.Histories.Kept.{well_formed_kept}
use Rattle.model.proofs.Histories.Still.{still_inputs}
use Rattle.model.proofs.Histories.Stored.{begins_held, calls_held, inputs_held, inputs_steady, line_promised, line_taken, line_text}
use Rattle.model.proofs.Histories.Relative.{one_frame_from_another}

-- ---- a system in use, by its name

-- the first of that name
pick : List ℕ → List Standing → Option Standing
pick n [] = none
pick n (x ∷ xs) = cond (same n x.held.name) (some x) (pick n xs)

module _ (m : Memory) (fine : Fine m) (n : List ℕ) where
  picked : (rs : List Ref) → Each (IsSystem m.systems) rs → any (λ (r : Ref). same n (name_of m.systems r)) rs ≡ true →
      pick n (map (standing m) rs) ≡ some (standing m (named m n))
  unfolding pick any held ref_or
  picked [] each e = true_false (sym e)
  picked (r ∷ rs) each e = ⊎_elim here (λ t. rw t (picked rs each.1 (rw t at e))) (either (same n (name_of m.systems r)))
    where
      here : same n (name_of m.systems r) ≡ true → pick n (map (standing m) (r ∷ rs)) ≡ some (standing m (named m n))
      here t = rw t (ap (λ (o : Option Ref). some (standing m (ref_or o))) (sym (named_found m fine n each.0 t)))

  module _ (used : under_enabled m n ≡ true) where
    found : (use_test m n).found ≡ true
    found = under_enabled_lem m n ∙ used

    in_use_there : absent m n ≡ false
    unfolding there?
    in_use_there = go (find m n) refl
      where
        go : (o : Option Ref) → find m n ≡ o → absent m n ≡ false
        go none z = true_false (sym found ∙ (says_the_same m fine).absent n z)
        go (some r) z = rw z

    in_use_held_lem : pick n (in_use_held m) ≡ some (standing m (named m n))
    unfolding in_use_held
    in_use_held_lem = picked (looked_at m) (looked_systems m fine) (sym (ap (λ (s : Search). s.found) (use_by_system m n)) ∙ found)

-- ---- the line by what stands still

relative_of : Standing → Standing → List ℕ
relative_of x y =
    pose_line x.held.name y.held.name (followed (inverse y.held.resultant) x.held.resultant) (x.held.steps + y.held.steps)

relative_of_lem : (m : Memory) (r e : Ref) → relative_line m.systems r e ≡ relative_of (standing m r) (standing m e)
unfolding relative_of relative_line pose_in held
relative_of_lem m r e = rw (chain_length m.systems r.place, chain_length m.systems e.place)

-- ---- two memories in which the same is in use

module _ (m m' : Memory) (fine : Fine m) (fine' : Fine m') (still : unmoved m' ≡ unmoved m) where
  used_still : (n : List ℕ) → under_enabled m n ≡ true → under_enabled m' n ≡ true
  used_still n u =
      sym (under_enabled_lem m' n) ∙ ap (λ (s : Search). s.found) (frames_alike m' m (ap (λ (u : Unmoved). u.frames) still) n) ∙ under_enabled_lem m n ∙ u

  stands_still : (n : List ℕ) → under_enabled m n ≡ true → standing m' (named m' n) ≡ standing m (named m n)
  stands_still n u =
      let e : some (standing m' (named m' n)) ≡ some (standing m (named m n)) =
      sym (in_use_held_lem m' fine' n (used_still n u)) ∙ ap (λ (v : Unmoved). pick n v.in_use) still ∙ in_use_held_lem m fine n u in
      cc

  module _ (a b : List ℕ) (u : under_enabled m a ≡ true) (v : under_enabled m b ≡ true) where
    rungs_still : query_ladder m' (resultant_in a b) ≡ query_ladder m (resultant_in a b)
    unfolding query_ladder
    rungs_still =
        let g = ap (λ (x : Standing). x.group) (stands_still a u) in
        let h = ap (λ (x : Standing). x.group) (stands_still b v) in
        rw (in_use_there m fine a u, in_use_there m fine b v, in_use_there m' fine' a (used_still a u), in_use_there m' fine' b (used_still b v), g, h)

    line_still : listed m' (resultant_in a b) ≡ listed m (resultant_in a b)
    unfolding listed
    line_still =
        ap (λ (t : List ℕ). listing (t ∷ []))
        (relative_of_lem m' (named m' a) (named m' b) ∙ (λ i. relative_of (stands_still a u i) (stands_still b v i)) ∙ sym (relative_of_lem m (named m a) (named m b)))

-- ---- the claims

pub stored_seen : StoredSeen
unfolding after_inputs
stored_seen start calls s₀ s begun history line a b readable asked g p q buffer r promise room =
    let st = after_calls (start_state start) calls in
    let h = calls_held (start_state start) (begins_held begun) history in
    let e : state_of s ≡ st = (view_is s st h).1 in
    let member : (n : List ℕ) → Member (state_of s).volatile g n → Member st.volatile g n = λ n. subst (λ (t : State). Member t.volatile g n) e in
    let k = (one_frame_from_another.answers st (well_formed_kept.history start calls []) line a b readable asked).text g (member a p) (member b q) in
    (line_taken s st h line _ k buffer r promise room, line_text s st h line _ k buffer r promise room ∙ ap (λ (t : State). seen_line t.volatile a b) (sym e))

pub seen_again : SeenAgain
unfolding after_inputs
seen_again start first second numbers s₀ s s' begun calls lines steady line a b asked u v buffer r r' p p' =
    let st = after_calls (start_state start) first in
    let st' = after_inputs st second in
    let h = calls_held (start_state start) (begins_held begun) calls in
    let h' = inputs_held st h lines in
    let w = well_formed_kept.history start first [] in
    let w' = well_formed_kept.history start first second in
    let e : state_of s ≡ st = (view_is s st h).1 in
    let still = still_inputs st second (inputs_steady st h lines steady) in
    let fine = fine_of st.volatile (state_of_lem st w).volatile in
    let fine' = fine_of st'.volatile (state_of_lem st' w').volatile in
    let used : (n : List ℕ) → under_enabled (state_of s).volatile n ≡ true → under_enabled st.volatile n ≡ true =
    λ n x. ap (λ (t : State). under_enabled t.volatile n) (sym e) ∙ x in
    let rungs = rungs_still st.volatile st'.volatile fine fine' still a b (used a u) (used b v) in
    let text = line_still st.volatile st'.volatile fine fine' still a b (used a u) (used b v) in
    let o = query_alike line buffer (resultant_in a b) asked st st' w w' rungs text in
    let x = line_promised s st h line buffer r p in
    let x' = line_promised s' st' h' line buffer r' p' in (
      ap (λ (t : Answered). t.number) x' ∙ o.0 ∙ sym (ap (λ (t : Answered). t.number) x),
      ap (λ (t : Answered). t.count) x' ∙ o.1 ∙ sym (ap (λ (t : Answered). t.count) x),
      ap (λ (t : Answered). t.buffer) x' ∙ o.2 ∙ sym (ap (λ (t : Answered). t.buffer) x),
    )
