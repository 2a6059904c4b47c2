use Rattle.std.proofs.Common.{◌+◌, ◌<◌, ◌≡◌, [], ◌∷◌, ◌++◌, ◌∙◌, take, length, arith}
use Rattle.std.proofs.lemmas.Grind.{common_steps}
use native.Mathlib.Numerals.{add-one}
use lib.ListN.{set, length-set, length-replicate}
use lib.Seq.{take-suc-set, take_all}
use Rattle.model.specs.Image.{up_to}
use Rattle.model.proofs.Told.{told_value, tells_some, refuses_none}
use Rattle.image.proofs.Turns.{turn_first, turn_read, turn_refused, turn_last}
use Rattle.image.proofs.numbers.read_numbers.Goals as goal

pub loop-value-init : goal.loop-value-init
loop-value-init g c = record { long = length-replicate g.row.N _; told = turn_first (up_to _) g.row.N _; within = λ k h. absurd (omega arith) }

pub returns-in_err-value-clause-told : goal.returns-in_err-value-clause-told
returns-in_err-value-clause-told g c =
    let l = c.loop-value in
    rw c.from_residual.ensures
    (refuses_none 14 (l.invariant.told ∙ turn_refused (up_to _) g.row.N l.value-index _ (take l.value-index l.value-items) c.loop-value-test.true (told_value 14 _ _ c.in_err-value.ensures.told)))

pub loop-value-preserved : goal.loop-value-preserved
loop-value-preserved g c =
    let l = c.loop-value in
    let i = l.value-index in
    let v = l.value-items in
    let x = c.in_ok-value.field-0 in
    let h : i < length v = omega (arith, l.invariant.long, c.loop-value-test.true) in
    let e = told_value 14 _ _ c.in_ok-value.ensures.told in
    let t : take (i + 1) (set v i x) ≡ take i v ++ (x ∷ []) = rw add-one (take-suc-set v i x h) in
    record {
      long = length-set v i x ∙ l.invariant.long;
      told = rw t (l.invariant.told ∙ turn_read (up_to _) g.row.N i _ (take i v) x _ c.loop-value-test.true e);
      within = λ k q. grind (arith, common_steps, l.invariant.within k, c.in_ok-value.ensures.within);
    }

pub returns : goal.returns
returns g c =
    let l = c.loop-value in
    let e : l.value-index ≡ g.row.N = omega (arith, c.loop-value-test.false, l.auto.value-index-end) in
    let whole : take l.value-index l.value-items ≡ l.value-items = take_all l.value-index l.value-items (omega (arith, e, l.invariant.long)) in
    record {
      told = tells_some 14 (l.invariant.told ∙ turn_last (up_to _) g.row.N l.value-index _ (take l.value-index l.value-items) (omega (arith, e)) c.loop-value-test.false ∙ rw whole);
      within = λ k q. l.invariant.within k (omega (arith, e, q, l.invariant.long));
    }
