-- `link_start`: the text begins at the root, or it does not.
use mathlib.Core.Path.{sym, ◌∙◌}
use Rattle.store.specs.Place.{link_start}
use Rattle.store.proofs.Placing.{rooted_starts}
use Rattle.store.proofs.place.link_start.Goals as goal

pub returns-then-starts_with-clause-value : goal.returns-then-starts_with-clause-value
unfolding link_start
returns-then-starts_with-clause-value c = rw (sym (rooted_starts c.args.text.now) ∙ sym c.if-starts_with.ensures.value)

pub returns-clause-value : goal.returns-clause-value
unfolding link_start
returns-clause-value c = rw (sym (rooted_starts c.args.text.now) ∙ sym c.if-starts_with.ensures.value) c.slash_end.ensures.value
