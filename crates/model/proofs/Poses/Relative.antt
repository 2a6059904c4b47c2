-- Document 02 §3: one system seen from another, by places. The laws as equations of poses; no system's group or place matters to them.
use Prim.Native.Nat.{ℕ}
use mathlib.Core.Path.{◌≡◌, sym, ap, ◌∙◌}
use mathlib.Core.List.{List}
use Rattle.model.specs.Pose.{Pose, neutral, followed, inverse}
use Rattle.model.specs.Memory.{System}
use Rattle.model.specs.Chain.{steps, resultant, pose_in}
use Rattle.model.specs.Arithmetic.{Named}
use Rattle.model.proofs.Chains.Steps.{resultant_zero}
use Rattle.model.proofs.Poses.Laws.{follow_assoc, neutral_before, named_after, transposed_undoes, inverse_before, inverse_behind}
use Rattle.model.proofs.Poses.Arithmetic.{named_over}

module _ (l : List System) where
  named_resultant : (q : ℕ) → Named (resultant l q).rot
  unfolding resultant
  named_resultant q = named_over l (steps l q) q

  -- in the middle b is undone and done again
  pub in_through : (a b c : ℕ) → followed (pose_in l b c) (pose_in l a b) ≡ pose_in l a c
  unfolding pose_in
  in_through a b c =
      let p = resultant l a in
      let q = resultant l b in
      let back = inverse (resultant l c) in
      follow_assoc back q (followed (inverse q) p) ∙
      ap (followed back) (sym (follow_assoc q (inverse q) p) ∙ ap (λ (s : Pose). followed s p) (inverse_behind q (named_resultant b)) ∙ neutral_before p)

  pub in_itself : (a : ℕ) → pose_in l a a ≡ neutral
  unfolding pose_in
  in_itself a = inverse_before (resultant l a) (named_resultant a)

  -- a fixed system stands at place 0, unmoved
  pub in_fixed : (a : ℕ) → pose_in l a 0 ≡ resultant l a
  unfolding pose_in
  in_fixed a = ap (λ (s : Pose). followed (inverse s) (resultant l a)) (resultant_zero l) ∙ neutral_before (resultant l a)

  -- the pose between two has a rotation that a triple names
  pub in_named : (a b : ℕ) → Named (pose_in l a b).rot
  unfolding pose_in
  in_named a b =
      named_after (inverse (resultant l b)).rot (resultant l a).rot (transposed_undoes (resultant l b).rot (named_resultant b)).named (named_resultant a)
