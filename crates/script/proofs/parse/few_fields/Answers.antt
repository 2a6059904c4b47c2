-- The fields behind the first, one by one, until none is left or there are too many.
use Rattle.std.proofs.Common.{◌≡◌, ℕ, ◌*◌, ◌≤◌, List, length, sym, refl, ap, ◌∙◌, arith}
use Rattle.text.specs.declared.words.Word.{Word}
use Rattle.text.specs.Cursor.{Within, next_word}
use Rattle.text.proofs.WordLaws.{word_within}
use Rattle.script.specs.Fields.{bytes_at}
use Rattle.script.specs.Directive.{few_fields, hex_field}
use Rattle.script.proofs.FieldLaws.{no_field, a_field, bytes_short, nothing}
use Rattle.script.proofs.parse.few_fields.Goals as goal

-- what the second word found lies within the line
within2 : (text : List ℕ) {from : ℕ} {v : Word} → from ≤ length text → v ≡ next_word text from → Within text v
within2 text {from} {v} h e = word_within text from v e h

-- and the third
within3 : (text : List ℕ) {from : ℕ} {v n : Word} → from ≤ length text → v ≡ next_word text from → n ≡ next_word text v.end → Within text n
within3 text {from} {v} {n} h e g = word_within text v.end n g (within2 text h e).inside

-- a field is no longer than the line
short : (text f : List ℕ) (w : Word) (k : ℕ) → f ≡ bytes_at text w → length text ≤ 2 * k → length f ≤ 2 * k
short text f w k e h = omega (arith, ap length e, bytes_short text w, h)

pub returns-then-is_empty : goal.returns-then-is_empty
unfolding few_fields hex_field
returns-then-is_empty c =
    rw (no_field c.args.text.now c.args.from c.next_word-v.result c.next_word-v.ensures (sym c.is_empty.ensures ∙ c.if-is_empty.true)) (c.one_field.ensures _)

pub bytes_of-second-requires : goal.bytes_of-second-requires
bytes_of-second-requires c = within2 c.args.text.now c.requires.0 c.next_word-v.ensures

pub next_word-n-requires : goal.next_word-n-requires
next_word-n-requires c = (within2 c.args.text.now c.requires.0 c.next_word-v.ensures).inside

pub two_fields-requires : goal.two_fields-requires
two_fields-requires c = short c.args.text.now _ c.next_word-v.result (length c.args.bytes.now) c.bytes_of-second.ensures c.requires.1

pub returns-then-is_empty-2 : goal.returns-then-is_empty-2
unfolding few_fields
returns-then-is_empty-2 c =
    let text = c.args.text.now in
    rw (
      a_field text c.args.from c.next_word-v.result c.next_word-v.ensures (sym c.is_empty.ensures ∙ c.if-is_empty.false) c.bytes_of-second.ensures,
      no_field text c.next_word-v.result.end c.next_word-n.result c.next_word-n.ensures (sym c.is_empty-2.ensures ∙ c.if-is_empty-2.true),
    )
    c.two_fields.ensures

pub bytes_of-third-requires : goal.bytes_of-third-requires
bytes_of-third-requires c = within3 c.args.text.now c.requires.0 c.next_word-v.ensures c.next_word-n.ensures

pub next_word-more-requires : goal.next_word-more-requires
next_word-more-requires c = (within3 c.args.text.now c.requires.0 c.next_word-v.ensures c.next_word-n.ensures).inside

pub returns-then-not-is_empty : goal.returns-then-not-is_empty
unfolding few_fields hex_field
returns-then-not-is_empty c =
    let text = c.args.text.now in
    rw (
      a_field text c.args.from c.next_word-v.result c.next_word-v.ensures (sym c.is_empty.ensures ∙ c.if-is_empty.false) c.bytes_of-second.ensures,
      a_field text c.next_word-v.result.end c.next_word-n.result c.next_word-n.ensures (sym c.is_empty-2.ensures ∙ c.if-is_empty-2.false) c.bytes_of-third.ensures,
      a_field text c.next_word-n.result.end c.next_word-more.result c.next_word-more.ensures (sym c.is_empty-3.ensures ∙ c.if-not-is_empty.true) refl,
    )
    (nothing _)

pub three_fields-requires : goal.three_fields-requires
three_fields-requires c = short c.args.text.now _ c.next_word-v.result (length c.args.bytes.now) c.bytes_of-second.ensures c.requires.1

pub returns : goal.returns
unfolding few_fields
returns c =
    let text = c.args.text.now in
    rw (
      a_field text c.args.from c.next_word-v.result c.next_word-v.ensures (sym c.is_empty.ensures ∙ c.if-is_empty.false) c.bytes_of-second.ensures,
      a_field text c.next_word-v.result.end c.next_word-n.result c.next_word-n.ensures (sym c.is_empty-2.ensures ∙ c.if-is_empty-2.false) c.bytes_of-third.ensures,
      no_field text c.next_word-n.result.end c.next_word-more.result c.next_word-more.ensures (sym c.is_empty-3.ensures ∙ c.if-not-is_empty.false),
    )
    c.three_fields.ensures
