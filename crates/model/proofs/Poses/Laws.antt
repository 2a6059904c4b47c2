-- Following on, and the inverse: the laws as equations of poses.
use mathlib.Core.Path.{◌≡◌, refl, sym, ap, subst, ◌∙◌}
use mathlib.Core.Bool.{Bool, ◌&&◌}
use Prim.Native.Nat.{ℕ, zero, suc}
use lib.Dec.{T}
use mir.Facts.{and_yes}
use Rattle.model.specs.Types.{Rot, Vec3}
use Rattle.model.specs.Lists.{least}
use Rattle.model.specs.Pose.{Pose, turned, after, unturned, times, quarter_x, quarter_y, quarter_z, rot_of, plus, minus, placed, neutral, followed, transposed, inverse, same_rot, triple, shown}
use Rattle.model.specs.Arithmetic.{Named}
use Rattle.model.proofs.Upto.{upto}
use Rattle.model.proofs.Poses.Turning.{after_assoc, after_unturned, turned_after, turned_plus, turned_origin, plus_assoc, plus_origin, origin_plus, plus_minus, minus_plus}
use Rattle.model.proofs.Poses.Naming.{same_is, at_turns}
use Rattle.model.proofs.Poses.Showing.{shown_test, tested}

-- ---- following on places a point as one pose after the other does; it is associative, and the neutral pose is neutral on either side

pub placed_followed : (p t : Pose) (q : Vec3) → placed (followed p t) q ≡ placed p (placed t q)
placed_followed p t q =
    plus_assoc p.at (turned p.rot t.at) (turned (after p.rot t.rot) q) ∙
    ap (λ (v : Vec3). plus p.at (plus (turned p.rot t.at) v)) (turned_after p.rot t.rot q) ∙
    ap (plus p.at) (sym (turned_plus p.rot t.at (turned t.rot q)))

pub follow_assoc : (p q t : Pose) → followed (followed p q) t ≡ followed p (followed q t)
follow_assoc p q t = λ i. record { at = placed_followed p q t.at i; rot = after_assoc p.rot q.rot t.rot i }

pub neutral_before : (p : Pose) → followed neutral p ≡ p
neutral_before p = λ i. record { at = origin_plus p.at i; rot = p.rot }

pub neutral_behind : (p : Pose) → followed p neutral ≡ p
neutral_behind p = λ i. record { at = (ap (plus p.at) (turned_origin p.rot) ∙ plus_origin p.at) i; rot = after_unturned p.rot i }

-- ---- of named rotations comes a named one

-- the rotation q follows on from r to one that its shown triple names
step : Rot → Rot → Bool
unfolding shown_test
step q r = shown_test (after r q)

stepped : (q : Rot) → T (upto 64 (λ k. step q (rot_of (triple k)))) → (r : Rot) → Named r → Named (after r q)
unfolding step
stepped q all r n =
    let s = after (rot_of n.name) q in
    record { name = shown s; is = tested s (at_turns (step q) all n.name) ∙ ap (λ (o : Rot). after o q) n.is }

several : (q : Rot) → T (upto 64 (λ k. step q (rot_of (triple k)))) → (m : ℕ) (r : Rot) → Named r → Named (after r (times m q))
unfolding times
several q all zero r n = subst Named (sym (after_unturned r)) n
several q all (suc m) r n = subst Named (after_assoc r q (times m q)) (several q all m (after r q) (stepped q all r n))

pub named_after : (r s : Rot) → Named r → Named s → Named (after r s)
unfolding step shown_test times rot_of same_rot least shown
named_after r s m n =
    let t = n.name in
    let x = times t.u quarter_x in
    let y = times t.v quarter_y in
    let z = times t.w quarter_z in
    subst Named (after_assoc (after r x) y z ∙ after_assoc r x (after y z) ∙ ap (after r) n.is)
    (several quarter_z tt t.w (after (after r x) y) (several quarter_y tt t.v (after r x) (several quarter_x tt t.u r m)))

pub named_unturned : Named unturned
unfolding rot_of times
named_unturned = record { name = record { u = 0; v = 0; w = 0 }; is = refl }

-- ---- the inverse

-- by a test at the 64 triples
undone : Rot → Bool
unfolding shown_test
undone r = same_rot (after (transposed r) r) unturned && (same_rot (after r (transposed r)) unturned && shown_test (transposed r))

-- the transposed rotation undoes the rotation from both sides, and has a name
pub record Undone (r : Rot) : Type 0 where
  pub before : after (transposed r) r ≡ unturned
  pub behind : after r (transposed r) ≡ unturned
  pub named : Named (transposed r)

undone_is : (r : Rot) → T (undone r) → Undone r
unfolding undone
undone_is r t =
    let b = same_rot (after (transposed r) r) unturned in
    let c = same_rot (after r (transposed r)) unturned in
    let d = shown_test (transposed r) in
    let h = and_yes b (c && d) t in
    let k = and_yes c d h.1 in
    record {
      before = same_is (after (transposed r) r) unturned h.0;
      behind = same_is (after r (transposed r)) unturned k.0;
      named = record { name = shown (transposed r); is = tested (transposed r) k.1 };
    }

pub transposed_undoes : (r : Rot) → Named r → Undone r
unfolding undone shown_test shown times rot_of same_rot least
transposed_undoes r n = subst Undone n.is (undone_is (rot_of n.name) (at_turns undone tt n.name))

module _ (p : Pose) (n : Named p.rot) where
  abbrev back : Rot
  back = transposed p.rot

  pub inverse_before : followed (inverse p) p ≡ neutral
  inverse_before =
      λ i.
      record {
        at = (sym (turned_plus back (minus p.at) p.at) ∙ ap (turned back) (minus_plus p.at) ∙ turned_origin back) i;
        rot = (transposed_undoes p.rot n).before i;
      }

  pub inverse_behind : followed p (inverse p) ≡ neutral
  inverse_behind =
      let b = (transposed_undoes p.rot n).behind in
      let there = sym (turned_after p.rot back (minus p.at)) ∙ ap (λ (s : Rot). turned s (minus p.at)) b in
      λ i. record { at = (ap (plus p.at) there ∙ plus_minus p.at) i; rot = b i }

  -- what undoes p from one side is the inverse
  pub only_before : (q : Pose) → followed q p ≡ neutral → q ≡ inverse p
  only_before q e =
      sym (neutral_behind q) ∙ ap (followed q) (sym inverse_behind) ∙ sym (follow_assoc q p (inverse p)) ∙
      ap (λ (s : Pose). followed s (inverse p)) e ∙ neutral_before (inverse p)

  pub only_behind : (q : Pose) → followed p q ≡ neutral → q ≡ inverse p
  only_behind q e =
      sym (neutral_before q) ∙ ap (λ (s : Pose). followed s q) (sym inverse_before) ∙ follow_assoc (inverse p) p q ∙
      ap (followed (inverse p)) e ∙ neutral_behind (inverse p)
