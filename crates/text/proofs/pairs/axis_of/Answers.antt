use mathlib.Core.Path.{refl, ◌∙◌}
use mathlib.Core.List.{List}
use native.Mathlib.Omega.{arith}
use Prim.Native.Nat.{ℕ, ◌-◌}
use lib.ListN.{take, drop}
use Rattle.model.specs.Lists.{least, same}
use Rattle.model.specs.Request.{axis}
use Rattle.text.proofs.PairLaws.{axis_letter, axis_other}
use Rattle.text.proofs.pairs.axis_of.Goals as goal

abbrev word : List ℕ → ℕ → ℕ → List ℕ
word line start end = take (end - start) (drop start line)

pub returns-in-88 : goal.returns-in-88
unfolding axis least same
returns-in-88 c =
    axis_letter (word c.args.line.now c.args.w.start c.args.w.end) _ c.in-len1.len_at_least c.in-len1.len_below c.upper.ensures 88 c.in-88.is

pub returns-in-89 : goal.returns-in-89
unfolding axis least same
returns-in-89 c =
    axis_letter (word c.args.line.now c.args.w.start c.args.w.end) _ c.in-len1.len_at_least c.in-len1.len_below c.upper.ensures 89 c.in-89.is

pub returns-in-90 : goal.returns-in-90
unfolding axis least same
returns-in-90 c =
    axis_letter (word c.args.line.now c.args.w.start c.args.w.end) _ c.in-len1.len_at_least c.in-len1.len_below c.upper.ensures 90 c.in-90.is

pub returns-in-85 : goal.returns-in-85
unfolding axis least same
returns-in-85 c =
    axis_letter (word c.args.line.now c.args.w.start c.args.w.end) _ c.in-len1.len_at_least c.in-len1.len_below c.upper.ensures 85 c.in-85.is

pub returns-in-86 : goal.returns-in-86
unfolding axis least same
returns-in-86 c =
    axis_letter (word c.args.line.now c.args.w.start c.args.w.end) _ c.in-len1.len_at_least c.in-len1.len_below c.upper.ensures 86 c.in-86.is

pub returns-in-87 : goal.returns-in-87
unfolding axis least same
returns-in-87 c =
    axis_letter (word c.args.line.now c.args.w.start c.args.w.end) _ c.in-len1.len_at_least c.in-len1.len_below c.upper.ensures 87 c.in-87.is

pub returns-in_default-upper : goal.returns-in_default-upper
returns-in_default-upper c =
    let u = c.upper.result in
    axis_other u (λ e. omega (arith, e)) (λ e. omega (arith, e)) (λ e. omega (arith, e)) (λ e. omega (arith, e)) (λ e. omega (arith, e)) (λ e. omega (arith, e)) ∙
    axis_letter (word c.args.line.now c.args.w.start c.args.w.end) u c.in-len1.len_at_least c.in-len1.len_below c.upper.ensures u refl
