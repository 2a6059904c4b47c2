-- Lists of systems with the same predecessors have the same chains; with the same own poses too, the same resultants.
use Prim.Native.Nat.{ℕ, zero, suc}
use mathlib.Core.Path.{◌≡◌, refl, sym, ap, ◌∙◌}
use mathlib.Core.List.{List, ◌∷◌, map, map-map, map-id}
use lib.Dec.{eqb}
use lib.ListN.{length, get_or, length-map, get_or-map}
use Rattle.model.specs.declared.Enabled.{Enabled}
use Rattle.model.specs.Lists.{all, any, table, least, joined}
use Rattle.model.specs.Pose.{followed, rot_of}
use Rattle.model.specs.Memory.{System, Ref, system_at, blank}
use Rattle.model.specs.Chain.{pred_of, hop, steps, chain, on_chain, no_ring, own_pose, pose_over, resultant}
use Rattle.model.specs.Use.{in_group, enabled_refs, is_in_use, looked_at}
use Rattle.model.proofs.Chains.Looked.{looked_place}
use Rattle.chains.specs.Flat.{preds_of, linked_by, linked_to, memory_by}
use Rattle.chains.specs.Frames.{frames_of, frame_of}

pred_at : (l : List System) (i : ℕ) → get_or (preds_of l) i 0 ≡ pred_of l (suc i)
unfolding pred_of system_at
pred_at l i = get_or-map (λ (s : System). s.pred) l i blank

module _ (l k : List System) (e : preds_of l ≡ preds_of k) where
  same_length : length l ≡ length k
  same_length = sym (length-map l (λ (s : System). s.pred)) ∙ ap length e ∙ length-map k (λ (s : System). s.pred)

  same_pred : (q : ℕ) → pred_of l q ≡ pred_of k q
  unfolding pred_of
  same_pred zero = refl
  same_pred (suc i) = sym (pred_at l i) ∙ ap (λ (ps : List ℕ). get_or ps i 0) e ∙ pred_at k i

  same_hop : (i q : ℕ) → hop l i q ≡ hop k i q
  unfolding hop
  same_hop zero q = refl
  same_hop (suc i) q = same_hop i (pred_of l q) ∙ ap (hop k i) (same_pred q)

  pub same_steps : (q : ℕ) → steps l q ≡ steps k q
  unfolding steps
  same_steps q = λ d. least (suc (same_length d)) (λ i. eqb (same_hop i q d) 0)

  pub same_chain : (q : ℕ) → chain l q ≡ chain k q
  unfolding chain
  same_chain q = λ d. table (same_steps q d) (λ i. same_hop (suc i) q d)

  pub same_on_chain : (a q : ℕ) → on_chain l a q ≡ on_chain k a q
  unfolding on_chain
  same_on_chain a q = ap (any (eqb a)) (same_chain q)

  pub same_no_ring : no_ring l ≡ no_ring k
  unfolding no_ring
  same_no_ring = λ d. all (λ q. eqb (hops d (same_length d) q) 0) (table (suc (same_length d)) (λ q. q))
    where
      hops : hop l ≡ hop k
      hops = λ d i q. same_hop i q d

  pub same_looked : (e : Enabled) → looked_at (record { systems = l; enabled = e }) ≡ looked_at (record { systems = k; enabled = e })
  unfolding looked_at
  same_looked e = λ d. joined (map (λ (r : Ref). r ∷ map (in_group r.group) (same_chain r.place d)) (enabled_refs e))

  pub same_resultant : ((q : ℕ) → own_pose l q ≡ own_pose k q) → (q : ℕ) → resultant l q ≡ resultant k q
  unfolding resultant pose_over
  same_resultant own q = over (steps l q) q ∙ ap (λ (n : ℕ). pose_over k n q) (same_steps q)
    where
      over : (n q : ℕ) → pose_over l n q ≡ pose_over k n q
      over zero q = refl
      over (suc n) q = λ d. followed ((over n (pred_of l q) ∙ ap (pose_over k n) (same_pred q)) d) (own q d)

-- ---- flat links ps of a list of systems

module _ (l : List System) (ps : List ℕ) (links : ps ≡ preds_of l) where
  linked : preds_of (linked_by ps) ≡ preds_of l
  linked = map-map (λ (s : System). s.pred) linked_to ps ∙ map-id ps ∙ links

  pub links_no_ring : no_ring (linked_by ps) ≡ no_ring l
  links_no_ring = same_no_ring (linked_by ps) l linked

  pub links_on_chain : (a q : ℕ) → on_chain (linked_by ps) a q ≡ on_chain l a q
  links_on_chain = same_on_chain (linked_by ps) l linked

  pub links_looked : (e : Enabled) → looked_at (memory_by ps e) ≡ looked_at (record { systems = l; enabled = e })
  links_looked = same_looked (linked_by ps) l linked

  pub links_in_use : (e : Enabled) (k : ℕ) → is_in_use (memory_by ps e) k ≡ is_in_use (record { systems = l; enabled = e }) k
  links_in_use e k = sym (looked_place _ k) ∙ ap (any (λ (r : Ref). eqb k r.place)) (links_looked e) ∙ looked_place _ k

-- ---- the frames of a list of systems

module _ (l : List System) where
  preds_framed : preds_of (frames_of l) ≡ preds_of l
  preds_framed = map-map (λ (s : System). s.pred) frame_of l

  own_framed : (q : ℕ) → own_pose (frames_of l) q ≡ own_pose l q
  unfolding own_pose system_at
  own_framed zero = refl
  own_framed (suc i) = ap (λ (s : System). record { at = s.offset; rot = rot_of s.turns }) (get_or-map frame_of l i blank)

  pub frames_steps : (q : ℕ) → steps (frames_of l) q ≡ steps l q
  frames_steps = same_steps (frames_of l) l preds_framed

  pub frames_no_ring : no_ring (frames_of l) ≡ no_ring l
  frames_no_ring = same_no_ring (frames_of l) l preds_framed

  pub frames_resultant : (q : ℕ) → resultant (frames_of l) q ≡ resultant l q
  frames_resultant = same_resultant (frames_of l) l preds_framed own_framed
