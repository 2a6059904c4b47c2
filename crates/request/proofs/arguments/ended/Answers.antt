use mathlib.Core.Path.{◌∙◌}
use Rattle.request.proofs.Words.{none_left}
use Rattle.request.proofs.arguments.ended.Goals as goal

pub returns : goal.returns
returns c = c.is_empty.ensures ∙ none_left _ _ _ c.next_word.ensures
