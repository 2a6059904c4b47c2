-- `slash_end`: the last '/' of all, or none.
use mathlib.Core.Path.{sym}
use borrow.Author.Rules.{rules}
use Rattle.store.proofs.Placing.{slash_none, slash_last}
use Rattle.store.proofs.place.slash_end.Goals as goal

pub returns-in-Some-clause-value : goal.returns-in-Some-clause-value
returns-in-Some-clause-value c = sym (slash_last c.args.path.now c.in-Some.i (search rules) (search rules) (search rules))

pub returns-in-None-clause-value : goal.returns-in-None-clause-value
returns-in-None-clause-value c = sym (slash_none c.args.path.now (search rules))
