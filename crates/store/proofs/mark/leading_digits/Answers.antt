-- `leading_digits`: the first byte that is no digit, or none.
use mathlib.Core.Path.{sym}
use borrow.Author.Rules.{rules}
use Rattle.store.proofs.Marks.{digits_first, digits_whole}
use Rattle.store.proofs.mark.leading_digits.Goals as goal

pub returns-in-Some-clause-value : goal.returns-in-Some-clause-value
returns-in-Some-clause-value c = sym (digits_first c.args.text.now c.in-Some.i (search rules) (search rules) (search rules))

pub returns-in-None-clause-value : goal.returns-in-None-clause-value
returns-in-None-clause-value c = sym (digits_whole c.args.text.now (search rules))
