use Rattle.std.proofs.Common.{◌∙◌, sym}
use borrow.Author.Tests.{le-leb, lt-leb}
use Rattle.model.specs.Limits.{name_limit}
use Rattle.model.specs.WellFormed.{system_fine}
use Rattle.memory.specs.Fine.{stored_fine}
use Rattle.memory.proofs.fine.stored_fine.Goals as goal

pub returns-then-s-gt-NAME_LIMIT : goal.returns-then-s-gt-NAME_LIMIT
unfolding stored_fine system_fine
returns-then-s-gt-NAME_LIMIT c = rw (lt-leb _ name_limit c.if-s-gt-NAME_LIMIT.true)

pub returns-then-own_fine : goal.returns-then-own_fine
unfolding stored_fine system_fine
returns-then-own_fine c = rw (le-leb _ name_limit c.if-s-gt-NAME_LIMIT.false, sym c.own_fine.ensures ∙ c.if-own_fine.true) c.is_kind.ensures

pub returns-else-own_fine : goal.returns-else-own_fine
unfolding stored_fine system_fine
returns-else-own_fine c = c.if-own_fine.false ∙ rw (le-leb _ name_limit c.if-s-gt-NAME_LIMIT.false, sym c.own_fine.ensures ∙ c.if-own_fine.false)
