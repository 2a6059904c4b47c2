-- `read_pairs`: the pairs are read left to right, and each way out of the loops is the definition's.
use Prim.Native.Nat.{ℕ, ◌+◌, ◌<◌}
use mathlib.Core.Path.{◌≡◌, refl, sym, ap, subst, ◌∙◌}
use mathlib.Core.List.{List}
use mathlib.Core.Bool.{Bool, true, false}
use mathlib.Core.Option.{none, some}
use native.Mathlib.Omega.{arith}
use borrow.Author.Rules.{rules}
use borrow.Author.Tests.{eqb-true, eqb-false}
use mir.Syntax.{w64}
use mir.Val.{to_z, of_z}
use lib.IntN.{ℤ}
use lib.ListN.{length, drop, get_or, set, length-set, length-drop}
use Rattle.model.specs.declared.Kind.{Kind}
use Rattle.model.specs.Request.{axis, may_come, pairs, no_values}
use Rattle.model.specs.Told.{refuses}
use Rattle.model.proofs.Told.{told_value}
use Rattle.facts.specs.Refusals.{told_or}
use Rattle.text.specs.Cursor.{run, word_of, words_from}
use Rattle.text.specs.declared.numbers.Num.{Num}
use Rattle.text.specs.declared.numbers.Num.TheVariants.{Start}
use Rattle.text.specs.Numbers.{Good, stepped, folded, valued, wrong}
use Rattle.text.specs.Pairs.{pairs_read, answered, values_of}
use Rattle.text.proofs.NumberBytes.{rest, fold_next, fold_end, fold_wrong}
use Rattle.text.proofs.NumberRange.{good_stepped}
use Rattle.text.proofs.PairLaws.{none_yet, clean_set, came_set, ranged_values, may_axis}
use Rattle.text.proofs.PairWords.{line_end, line_axis, line_number, line_on}
use Rattle.text.proofs.WordLaws.{start_from, word_within, lead_le, lead_end, run_next, run_stop}
use Rattle.text.proofs.pairs.read_pairs.Goals.{else-loop-at-test, then-loop-at-test+then-b-eq32}
use Rattle.text.proofs.pairs.read_pairs.Goals as goal

-- ---- the test of an axis

module _ (k : Kind) (came : List Bool) (values : List ℤ) (e : length values ≡ 6) (f : length came ≡ 6) (i : ℕ) (r : Bool)
    (h : (vs : List ℤ) → length vs ≡ length came → r ≡ may_come k i (values_of came vs)) where
  -- the test of the axis is the definition's
  may : (w : List ℕ) → i ≡ axis w → may_come k (axis w) (values_of came values) ≡ r
  may w p = ap (λ (j : ℕ). may_come k j (values_of came values)) (sym p) ∙ sym (h values (e ∙ sym f))

  -- an axis that is taken may come, and is one of the six
  small : r ≡ true → i < 6
  small t = may_axis k i (values_of came values) (sym (h values (e ∙ sym f)) ∙ t)

-- pairs that are malformed
refused : (k : Kind) (line : List ℕ) (from : ℕ) {o : _} → pairs k (words_from line from) no_values ≡ o → o ≡ none → refuses 5 ≡ pairs_read k (words_from line from)
unfolding answered
refused k line from p e = sym (ap answered (p ∙ e))

pub pairs-init : goal.pairs-init
unfolding values_of
pairs-init c = (c.requires, refl, refl, (λ i e. none_yet 6 i), refl)

pub returns-then-is_empty : goal.returns-then-is_empty
unfolding answered
returns-then-is_empty c =
    let v = c.pairs.invariant in
    let l = c.args.line.now in
    let h = line_end c.args.kind l c.pairs.at c.next_word-a.result c.next_word-a.ensures (values_of c.pairs.came c.pairs.values) (eqb-true _ _ (sym c.is_empty.ensures ∙ c.if-is_empty.true)) in
    c.kept.ensures ∙ sym (ap answered (v.4 ∙ h) ∙ ranged_values c.pairs.came c.pairs.values (v.2 ∙ sym v.1) v.3)

pub axis_of-i-requires : goal.axis_of-i-requires
axis_of-i-requires c = word_within c.args.line.now c.pairs.at c.next_word-a.result c.next_word-a.ensures c.pairs.invariant.0

pub past-at-requires : goal.past-at-requires
past-at-requires c = (word_within c.args.line.now c.pairs.at c.next_word-a.result c.next_word-a.ensures c.pairs.invariant.0).inside

-- ---- the bytes of a number

pub loop-at-init : goal.loop-at-init
loop-at-init c =
    let l = c.args.line.now in
    let e = c.next_word-a.result.end in
    let w = word_within l c.pairs.at c.next_word-a.result c.next_word-a.ensures c.pairs.invariant.0 in
    (omega (arith, c.past-at.ensures, lead_le true (drop e l), length-drop e l, w.inside), omega arith, tt, refl, refl)

pub loop-at-preserved : goal.loop-at-preserved
loop-at-preserved c =
    let l = c.args.line.now in
    let at = c.loop-at.at in
    let n = c.loop-at.n in
    let more = c.loop-at-test.true in
    let full = c.if-b-eq32.false in
    let e = c.step-n.ensures in
    let v = c.loop-at.invariant in (
      omega (arith, more),
      omega (arith, v.1),
      subst Good (sym e) (good_stepped n (get_or l at 0) v.2),
      v.3 ∙ fold_next l at n more full ∙ ap (λ (m : Num). folded m (rest l (at + 1))) (sym e),
      omega (arith, run_next l at more full, v.4),
    )

-- ---- a pair is read: the value, and the place behind it

pub offset_bounds-values-i : goal.offset_bounds-values-i
offset_bounds-values-i c =
    let v = c.pairs.invariant in
    let s = small c.args.kind c.pairs.came c.pairs.values v.1 v.2 c.axis_of-i.result c.may_come.result c.may_come.ensures c.if-not-may_come.false in
    omega (arith, s)

pub bounds-values-i : goal.bounds-values-i
bounds-values-i c =
    let v = c.pairs.invariant in
    small c.args.kind c.pairs.came c.pairs.values v.1 v.2 c.axis_of-i.result c.may_come.result c.may_come.ensures c.if-not-may_come.false

pub bounds-came-i : goal.bounds-came-i
bounds-came-i c =
    let v = c.pairs.invariant in
    small c.args.kind c.pairs.came c.pairs.values v.1 v.2 c.axis_of-i.result c.may_come.result c.may_come.ensures c.if-not-may_come.false

pub pairs-preserved : goal.pairs-preserved
pairs-preserved c =
    let k = c.args.kind in
    let l = c.args.line.now in
    let came = c.pairs.came in
    let values = c.pairs.values in
    let v = c.pairs.invariant in
    let u = c.loop-at.invariant in
    let i = c.axis_of-i.result in
    let a = c.next_word-a.result in
    let at = c.loop-at.at in
    let z = c.in-Some.z in
    let r = values_of came values in
    let taken = c.if-not-may_come.false in
    let six = small k came values v.1 v.2 i c.may_come.result c.may_come.ensures taken in
    let may_it = may k came values v.1 v.2 i c.may_come.result c.may_come.ensures (word_of l a) c.axis_of-i.ensures ∙ taken in
    let stopped : run (drop at l) ≡ 0 =
    elim c.loop-at-test.branch [ else-loop-at-test w ↦ lead_end false l at w.loop-at-test.false | then-loop-at-test+then-b-eq32 w ↦ run_stop l at w.loop-at-test.true w.if-b-eq32.true ]
    in
    let number_is = u.3 ∙ fold_end l at c.loop-at.n stopped in
    let value_is : valued c.loop-at.n ≡ some z = told_value _ _ _ c.in-Some.ensures in
    let s = start_from l a.end in
    let behind : s + run (drop s l) ≡ at = ap (λ (j : ℕ). j + run (drop j l)) (sym c.past-at.ensures) ∙ omega (arith, u.4, stopped) in
    let on : pairs k (words_from l c.pairs.at) r ≡ pairs k (words_from l at) (values_of (set came i true) (set values i z)) =
    line_on k l c.pairs.at a c.next_word-a.ensures r (eqb-false _ _ (sym c.is_empty.ensures ∙ c.if-is_empty.false)) z
    (ap (λ (j : ℕ). valued (folded Start (rest l j))) (sym c.past-at.ensures) ∙ ap valued number_is ∙ value_is) may_it ∙
    ap (λ (j : ℕ). pairs k (words_from l j) (set r (axis (word_of l a)) (some z))) behind ∙
    ap (λ (i : ℕ). pairs k (words_from l at) (set r i (some z))) (sym c.axis_of-i.ensures) ∙
    ap (pairs k (words_from l at)) (came_set came values i z (v.2 ∙ sym v.1))
    in
    let f : to_z w64 (of_z w64 z) ≡ z = search rules in
    rw f (
      u.0,
      length-set values i z ∙ v.1,
      simp length-set v.2,
      clean_set came values i z (omega (arith, six, v.2)) v.3,
      v.4 ∙ on,
    )

-- ---- the three ways out at a malformed word: the axis, a byte of the number, and the number's end

pub returns-then-not-may_come : goal.returns-then-not-may_come
returns-then-not-may_come c =
    let k = c.args.kind in
    let l = c.args.line.now in
    let v = c.pairs.invariant in
    let a = c.next_word-a.result in
    let m = may k c.pairs.came c.pairs.values v.1 v.2 c.axis_of-i.result c.may_come.result c.may_come.ensures (word_of l a) c.axis_of-i.ensures in
    refused k l c.args.from v.4
    (line_axis k l c.pairs.at a c.next_word-a.ensures (values_of c.pairs.came c.pairs.values) (eqb-false _ _ (sym c.is_empty.ensures ∙ c.if-is_empty.false)) (m ∙ c.if-not-may_come.true))

pub returns-then-is_wrong : goal.returns-then-is_wrong
returns-then-is_wrong c =
    let k = c.args.kind in
    let l = c.args.line.now in
    let at = c.loop-at.at in
    let m = stepped c.loop-at.n (get_or l at 0) in
    let q : wrong m ≡ true = ap wrong (sym c.step-n.ensures) ∙ sym c.is_wrong.ensures ∙ c.if-is_wrong.true in
    let on = c.loop-at.invariant.3 ∙ fold_next l at c.loop-at.n c.loop-at-test.true c.if-b-eq32.false in
    refused k l c.args.from c.pairs.invariant.4
    (line_number k l c.pairs.at c.next_word-a.result c.next_word-a.ensures (values_of c.pairs.came c.pairs.values) (eqb-false _ _ (sym c.is_empty.ensures ∙ c.if-is_empty.false))
    (ap (λ (j : ℕ). valued (folded Start (rest l j))) (sym c.past-at.ensures) ∙ ap valued (on ∙ fold_wrong (rest l (at + 1)) m q)))

pub returns-in_default : goal.returns-in_default
returns-in_default c =
    let k = c.args.kind in
    let l = c.args.line.now in
    let at = c.loop-at.at in
    let stopped : run (drop at l) ≡ 0 =
    elim c.loop-at-test.branch [ else-loop-at-test w ↦ lead_end false l at w.loop-at-test.false | then-loop-at-test+then-b-eq32 w ↦ run_stop l at w.loop-at-test.true w.if-b-eq32.true ]
    in
    let number_is = c.loop-at.invariant.3 ∙ fold_end l at c.loop-at.n stopped in
    refused k l c.args.from c.pairs.invariant.4
    (line_number k l c.pairs.at c.next_word-a.result c.next_word-a.ensures (values_of c.pairs.came c.pairs.values) (eqb-false _ _ (sym c.is_empty.ensures ∙ c.if-is_empty.false))
    (ap (λ (j : ℕ). valued (folded Start (rest l j))) (sym c.past-at.ensures) ∙ ap valued number_is ∙ told_value _ _ _ (ap (told_or 5 (λ (z : ℤ). z)) (sym c.in_default.is) ∙ c.value_of.ensures)))
