-- `pose::rotation::shown_of` meets its contract: one computed test shows what the first two axes say to be right of every three.
use mathlib.Core.Path.{◌≡◌, sym, ap, ◌∙◌}
use mathlib.Core.Bool.{Bool, cond, ◌&&◌}
use Prim.Native.Nat.{ℕ, ◌+◌, ◌*◌, ◌/◌, ◌%◌, ◌<◌}
use native.Mathlib.Omega.{arith}
use lib.Dec.{T, eqb, eqb→eq}
use mir.Facts.{and_yes}
use borrow.Author.Tests.{eq-eqb, ne_eqb}
use Rattle.model.specs.Lists.{least}
use Rattle.model.specs.Pose.{axis_number, times, rot_of, same_rot, triple, shown}
use Rattle.model.proofs.Upto.{at}
use Rattle.pose.specs.Types.{Rot, Turns}
use Rattle.pose.specs.Numbers.{first_axes, first_place, first_named}
use Rattle.pose.proofs.Naming.{rot_number, rot_at, rot_at_number, axis_number_below}
use Rattle.pose.proofs.rotation.shown_of.Goals.{After-first_named-first}
use Rattle.pose.proofs.rotation.shown_of.Goals as goal

same_turns : Turns → Turns → Bool
same_turns s t = eqb s.u t.u && (eqb s.v t.v && eqb s.w t.w)

same_turns_lem : (s t : Turns) → T (same_turns s t) → s ≡ t
unfolding same_turns
same_turns_lem s t h =
    let h1 = and_yes (eqb s.u t.u) (eqb s.v t.v && eqb s.w t.w) h in
    let h2 = and_yes (eqb s.v t.v) (eqb s.w t.w) h1.1 in
    λ i. record { u = eqb→eq s.u t.u h1.0 i; v = eqb→eq s.v t.v h2.0 i; w = eqb→eq s.w t.w h2.1 i }

-- the triple by the first two axes, where the third is theirs
abbrev by_axes : ℕ → ℕ → Turns
by_axes axes third = cond (eqb (first_named axes / 64) third) (triple (first_named axes % 64)) (triple 63)

right : ℕ → Bool
right n = same_turns (by_axes (n / 6) (n % 6)) (shown (rot_at n))

entry : (n : ℕ) → n < 216 → by_axes (n / 6) (n % 6) ≡ shown (rot_at n)
unfolding right same_turns shown first_named first_place least times rot_of same_rot
entry n h = same_turns_lem _ _ (at 216 right tt n h)

by_axes_lem : (r : Rot) → by_axes (first_axes r) (axis_number r.c) ≡ shown r
by_axes_lem r =
    let n = rot_number r in
    let a = axis_number_below r.a in
    let b = axis_number_below r.b in
    let c = axis_number_below r.c in
    let i : first_axes r ≡ n / 6 = omega arith in
    let j : axis_number r.c ≡ n % 6 = omega arith in
    (λ k. by_axes (i k) (j k)) ∙ entry n (omega arith) ∙ ap shown (rot_at_number r)

-- what was read of the first two axes
first_is : (c : After-first_named-first) → c.first_named-first.result ≡ first_named (first_axes c.args.r)
first_is c =
    let i = c.number-i.ensures.0 in
    let j = c.number-j.ensures.0 in
    c.first_named-first.ensures ∙ (λ k. first_named (i k * 6 + j k))

pub returns-then-first-from : goal.returns-then-first-from
returns-then-first-from c =
    let r = c.args.r in
    let k = c.from.ensures ∙ c.number-k.ensures.0 in
    let d : (first_named (first_axes r) / 64 ≡ axis_number r.c → ⊥) = λ e. c.if-first-from.true (ap (λ (n : ℕ). n / 64) (first_is (goal.at.returns-then-first-from c).After-first_named-first) ∙ e ∙ sym k) in
    c.triple_at.ensures ∙ (rw (ne_eqb _ _ d) at (by_axes_lem r))

pub returns : goal.returns
returns c =
    let r = c.args.r in
    let k = c.from.ensures ∙ c.number-k.ensures.0 in
    let e : first_named (first_axes r) / 64 ≡ axis_number r.c = ap (λ (n : ℕ). n / 64) (sym (first_is (goal.at.returns c).After-first_named-first)) ∙ c.if-first-from.false ∙ k in
    c.triple_at-2.ensures ∙ ap (λ (n : ℕ). triple (n % 64)) (first_is (goal.at.returns c).After-first_named-first) ∙ (rw (eq-eqb _ _ e) at (by_axes_lem r))
