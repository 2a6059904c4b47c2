-- The first field, and what its letter asks for.
use Rattle.std.proofs.Common.{◌≡◌, ℕ, List, [], ◌∷◌, sym, ◌∙◌, arith}
use Rattle.model.proofs.Basics.{same→≡}
use Rattle.text.specs.declared.words.Word.{Word}
use Rattle.text.specs.Cursor.{Within, next_word}
use Rattle.text.proofs.WordLaws.{word_within}
use Rattle.script.specs.Fields.{fields, fields_from}
use Rattle.script.specs.Directive.{understood, hex_field}
use Rattle.script.proofs.FieldLaws.{no_field, a_field, nothing, too_long, by_fields}
use Rattle.script.proofs.OrderLaws.{first_position, first_other}
use Rattle.script.proofs.parse.parse.Goals.{After-is_letter}
use Rattle.script.proofs.parse.parse.Goals as goal

pub returns-then-text-gt-LONGEST_LINE : goal.returns-then-text-gt-LONGEST_LINE
returns-then-text-gt-LONGEST_LINE c = too_long c.args.text.now _ c.if-text-gt-LONGEST_LINE.true

pub returns-then-is_empty : goal.returns-then-is_empty
unfolding understood hex_field
returns-then-is_empty c =
    by_fields c.args.text.now c.if-text-gt-LONGEST_LINE.false (no_field c.args.text.now 0 c.next_word-w.result c.next_word-w.ensures (sym c.is_empty.ensures ∙ c.if-is_empty.true)) (nothing _)

within : (text : List ℕ) {w : Word} → w ≡ next_word text 0 → Within text w
within text {w} e = word_within text 0 w e (omega arith)

pub bytes_of-first-requires : goal.bytes_of-first-requires
bytes_of-first-requires c = within c.args.text.now c.next_word-w.ensures

-- ---- its letter

fields_of : (c : After-is_letter) → fields c.args.text.now ≡ c.bytes_of-first.result.now ∷ fields_from c.args.text.now c.next_word-w.result.end
fields_of c = a_field c.args.text.now 0 c.next_word-w.result c.next_word-w.ensures (sym c.is_empty.ensures ∙ c.if-is_empty.false) c.bytes_of-first.ensures

pub read_position-requires : goal.read_position-requires
read_position-requires c = (within c.args.text.now c.next_word-w.ensures).inside

pub returns-then-is_letter : goal.returns-then-is_letter
returns-then-is_letter c =
    let letter = same→≡ _ (80 ∷ []) (sym c.is_letter.ensures ∙ c.if-is_letter.true) in
    let fields = fields_of (goal.at.returns-then-is_letter c).After-is_letter in
    by_fields c.args.text.now c.if-text-gt-LONGEST_LINE.false (rw letter at fields) (first_position _ (c.read_position.ensures _))

pub few_fields-requires : goal.few_fields-requires
few_fields-requires c = ((within c.args.text.now c.next_word-w.ensures).inside, omega (arith, c.if-text-gt-LONGEST_LINE.false, c.requires))

pub returns : goal.returns
returns c =
    by_fields c.args.text.now c.if-text-gt-LONGEST_LINE.false (fields_of (goal.at.returns c).After-is_letter)
    (first_other _ _ (sym c.is_letter.ensures ∙ c.if-is_letter.false) c.few_fields.ensures)
