use Rattle.model.specs.Effects.{mended_part}
use Rattle.memory.proofs.edit.mended_part.Goals as goal

pub returns-in-Single : goal.returns-in-Single
unfolding mended_part
returns-in-Single c = rw (c.in-Single.is, c.mended_place.ensures)

pub returns-in-Pair : goal.returns-in-Pair
unfolding mended_part
returns-in-Pair c = rw (c.in-Pair.is, c.mended_place-in-Pair.ensures, c.mended_place-in-Pair-2.ensures)
