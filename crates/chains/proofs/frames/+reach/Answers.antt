use Rattle.std.proofs.Common.{ℕ, ◌-◌, ◌≤◌, ◌≡◌, List, sym, ap, ◌∙◌, arith}
use mathlib.Core.Logic.{⊎_elim}
use lib.IntN.{ℤ}
use Rattle.model.specs.Limits.{max_systems}
use Rattle.pose.proofs.Bounds.{within_origin}
use Rattle.chains.specs.Frames.{framed}
use Rattle.chains.specs.Walk.{farthest, Walk, walk_of, walked, at_fixed, onward, Laid, Enough}
use Rattle.chains.proofs.Reaching.{UserPlace, walked_fixed, in_preds, steps_link, enough_on, can_link, walked_on, few_steps, from_fixed, to_fixed}
use Rattle.chains.proofs.frames.+reach.Goals as goal

module _ (o : List ℤ) (t p : List ℕ) (place depth : ℕ) (laid : Laid o t p) (enough : Enough (framed o t p) place depth) where
  -- what a walk reaches at the place has few enough steps
  few : {w : Walk} → w ≡ walked (framed o t p) place → w.steps ≤ max_systems
  few e = omega (arith, ap (λ (w : Walk). w.steps) e, few_steps (framed o t p) laid.systems place enough.there)

  -- past the two ends of the walk the place is a user system's
  user : (place ≡ 0 → ⊥) → UserPlace o t p place (place - 1)
  user h = record { laid = laid; is = omega (arith, h); there = enough.there }

pub returns-then-place-stop : goal.returns-then-place-stop
returns-then-place-stop t c =
    let a = c.args in
    let l = framed a.offsets.now a.turns.now a.preds.now in
    let w = walk_of a.known in
    let here : w ≡ walked l a.stop → w ≡ walked l a.place = λ e. e ∙ ap (walked l) (sym c.if-place-stop.true) in
    record {
      walk = here;
      few = λ e. few a.offsets.now a.turns.now a.preds.now a.place a.depth c.requires.laid c.requires.enough (here e);
      on = λ z. sym (to_fixed l w) ∙ ap (λ q. onward w (walked l q)) (sym (c.if-place-stop.true ∙ z));
    }

pub returns-then-place-eq0 : goal.returns-then-place-eq0
returns-then-place-eq0 t c =
    let a = c.args in
    let fixed = c.unmoved.ensures ∙ walked_fixed (framed a.offsets.now a.turns.now a.preds.now) a.place c.if-place-eq0.true in
    record {
      walk = λ e. fixed;
      few = λ e. few a.offsets.now a.turns.now a.preds.now a.place a.depth c.requires.laid c.requires.enough fixed;
      on = λ z. absurd (c.if-place-stop.false (c.if-place-eq0.true ∙ sym z));
    }

pub bounds-preds-i : goal.bounds-preds-i
bounds-preds-i t c =
    let a = c.args in
    in_preds (user a.offsets.now a.turns.now a.preds.now a.place a.depth c.requires.laid c.requires.enough c.if-place-eq0.false)

pub overflow_sub-depth : goal.overflow_sub-depth
overflow_sub-depth t c =
    let a = c.args in
    let u = user a.offsets.now a.turns.now a.preds.now a.place a.depth c.requires.laid c.requires.enough c.if-place-eq0.false in
    omega (arith, c.requires.enough.deep, steps_link u)

pub reach-before-requires : goal.reach-before-requires
reach-before-requires t c =
    let a = c.args in
    let e = c.requires.enough in
    let u = user a.offsets.now a.turns.now a.preds.now a.place a.depth c.requires.laid e c.if-place-eq0.false in
    (omega (arith, c.decreases, e.deep, steps_link u), (c.requires.laid, (c.requires.known, enough_on u a.depth e)))

pub linked-requires : goal.linked-requires
linked-requires t c =
    let a = c.args in
    let u = user a.offsets.now a.turns.now a.preds.now a.place a.depth c.requires.laid c.requires.enough c.if-place-eq0.false in
    let r = c.reach-before.ensures in
    ⊎_elim
    (λ e. can_link u at_fixed (r.walk e ∙ sym (from_fixed _)) (record { at = within_origin farthest; steps = omega arith }))
    (λ k. can_link u (walk_of a.known) (r.on k.0) k.1)
    c.requires.known

pub returns : goal.returns
returns t c =
    let a = c.args in
    let u = user a.offsets.now a.turns.now a.preds.now a.place a.depth c.requires.laid c.requires.enough c.if-place-eq0.false in
    let k = c.reach-before.ensures in
    let l = framed a.offsets.now a.turns.now a.preds.now in
    let here : walk_of a.known ≡ walked l a.stop → walk_of c.linked.result ≡ walked l a.place =
    λ e. walked_on u at_fixed (k.walk e ∙ sym (from_fixed _)) c.linked.ensures ∙ from_fixed _ in
    record {
      walk = here;
      few = λ e. few a.offsets.now a.turns.now a.preds.now a.place a.depth c.requires.laid c.requires.enough (here e);
      on = λ z. walked_on u (walk_of a.known) (k.on z) c.linked.ensures;
    }
