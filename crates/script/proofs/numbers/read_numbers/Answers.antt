-- The words of the line, one by one: what is left of them, behind the numbers that were read, says what all of them say.
use Rattle.std.proofs.Common.{◌≡◌, ℕ, ◌<◌, ◌≤◌, List, ◌∷◌, length, take, ℤ, sym, refl, ap, ◌∙◌, arith, length-set, length-take-le, w64, to_z, of_z, rules}
use Rattle.text.specs.Cursor.{Within}
use Rattle.text.proofs.WordLaws.{word_within}
use Rattle.script.specs.Fields.{fields_from, bytes_at}
use Rattle.script.specs.Numbers.{numbers_of, no_more_than}
use Rattle.script.proofs.FieldLaws.{no_field, a_field}
use Rattle.script.proofs.NumberLaws.{behind, behind_next, run_wrong, run_full, run_end}
use Rattle.script.proofs.numbers.read_numbers.Goals.{After-next_word-w, Else-is_empty}
use Rattle.script.proofs.numbers.read_numbers.Goals as goal

long : (numbers : List ℤ) (count : ℕ) → count ≤ length numbers → length (take count numbers) ≡ count
long numbers count h = length-take-le _ _ h

within : (c : After-next_word-w) → Within c.args.text.now c.next_word-w.result
within c = word_within c.args.text.now c.loop-count.at c.next_word-w.result c.next_word-w.ensures c.loop-count.invariant.0

pub returns-then-is_empty : goal.returns-then-is_empty
returns-then-is_empty c =
    let l = c.loop-count in
    let read = take l.count l.numbers in
    let places = length c.args.numbers.now in
    let e =
    l.invariant.2
    ∙ ap (λ (ws : List (List ℕ)). behind read (numbers_of ws)) (no_field c.args.text.now l.at c.next_word-w.result c.next_word-w.ensures (sym c.is_empty.ensures ∙ c.if-is_empty.true)) in
    record {
      told = sym (ap (no_more_than places) e ∙ run_end places read (omega (arith, long l.numbers l.count (omega (arith, c.loop-count-test.true, l.invariant.1)), c.loop-count-test.true)));
      inside = omega (arith, c.loop-count-test.true, l.invariant.1);
    }

-- a word is left, so the words say this
say : (c : Else-is_empty) {f : List ℕ} → f ≡ bytes_at c.args.text.now c.next_word-w.result →
    numbers_of (fields_from c.args.text.now c.args.from)
    ≡ behind (take c.loop-count.count c.loop-count.numbers) (numbers_of (f ∷ fields_from c.args.text.now c.next_word-w.result.end))
say c p =
    c.loop-count.invariant.2
    ∙ ap (λ (ws : List (List ℕ)). behind (take c.loop-count.count c.loop-count.numbers) (numbers_of ws))
    (a_field c.args.text.now c.loop-count.at c.next_word-w.result c.next_word-w.ensures (sym c.is_empty.ensures ∙ c.if-is_empty.false) p)

pub bytes_of-requires : goal.bytes_of-requires
bytes_of-requires c = within (goal.at.bytes_of-requires c).After-next_word-w

pub returns-in_err-numbers : goal.returns-in_err-numbers
returns-in_err-numbers c =
    let l = c.loop-count in
    let places = length c.args.numbers.now in
    rw c.from_residual.ensures (record {
      told =
          sym (ap (no_more_than places) (say (goal.at.returns-in_err-numbers c).Else-is_empty c.bytes_of.ensures)
          ∙ run_wrong places (take l.count l.numbers) _ _ (sym c.in_err-numbers.ensures));
      inside = tt;
    })

pub loop-count-preserved : goal.loop-count-preserved
loop-count-preserved c =
    let l = c.loop-count in
    let z = c.in_ok-numbers.field-0 in
    let have : l.count < length l.numbers = omega (arith, c.loop-count-test.true, l.invariant.1) in
    let f : to_z w64 (of_z w64 z) ≡ z = search rules in
    rw f (
      (within (goal.at.loop-count-preserved c).After-next_word-w).inside,
      length-set l.numbers l.count z ∙ l.invariant.1,
      say (goal.at.loop-count-preserved c).Else-is_empty c.bytes_of.ensures ∙ behind_next l.numbers l.count z _ _ have (sym c.in_ok-numbers.ensures),
    )

-- ---- every place is taken

pub returns-then-is_empty-2 : goal.returns-then-is_empty-2
returns-then-is_empty-2 c =
    let l = c.loop-count in
    let places = length c.args.numbers.now in
    let full : length l.numbers ≡ l.count = omega (arith, l.invariant.1, l.auto.count-end, c.loop-count-test.false) in
    let e =
    l.invariant.2
    ∙ ap (λ (ws : List (List ℕ)). behind (take l.count l.numbers) (numbers_of ws)) (no_field c.args.text.now l.at c.next_word-more.result c.next_word-more.ensures (sym c.is_empty-2.ensures ∙ c.if-is_empty-2.true)) in
    record {
      told = rw full (sym (ap (no_more_than places) e ∙ run_end places (take l.count l.numbers) (omega (arith, long l.numbers l.count (omega arith), l.auto.count-end))));
      inside = omega arith;
    }

pub returns-else-is_empty-2 : goal.returns-else-is_empty-2
returns-else-is_empty-2 c =
    let l = c.loop-count in
    let places = length c.args.numbers.now in
    let e =
    l.invariant.2
    ∙ ap (λ (ws : List (List ℕ)). behind (take l.count l.numbers) (numbers_of ws))
    (a_field c.args.text.now l.at c.next_word-more.result c.next_word-more.ensures (sym c.is_empty-2.ensures ∙ c.if-is_empty-2.false) refl) in
    record {
      told =
          sym
          (ap (no_more_than places) e
          ∙ run_full places (take l.count l.numbers) _ _ (omega (arith, long l.numbers l.count (omega (arith, l.auto.count-end, l.invariant.1)), c.loop-count-test.false)));
      inside = tt;
    }
