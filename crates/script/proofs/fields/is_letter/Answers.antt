use Rattle.std.proofs.Common.{sym, arith}
use Rattle.script.proofs.FieldLaws.{one_letter, no_letter}
use Rattle.script.proofs.fields.is_letter.Goals as goal

pub returns-in-len1 : goal.returns-in-len1
returns-in-len1 c = sym (one_letter c.args.word.now c.args.letter (omega arith) (omega arith))

pub returns-in_default : goal.returns-in_default
returns-in_default c = sym (no_letter c.args.word.now c.args.letter (λ h e. omega arith))

pub returns-in_default-2 : goal.returns-in_default-2
returns-in_default-2 c = sym (no_letter c.args.word.now c.args.letter (λ h e. omega arith))

pub returns-in_default-3 : goal.returns-in_default-3
returns-in_default-3 c = sym (no_letter c.args.word.now c.args.letter (λ h e. omega arith))
