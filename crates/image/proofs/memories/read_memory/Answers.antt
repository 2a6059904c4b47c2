use Rattle.model.specs.Told.{or_number}
use borrow.Author.Tests.{ne_eqb, eq-eqb, lt-leb, le-leb}
use Rattle.model.specs.Image.{fail, read_memory}
use Rattle.image.proofs.Steps.{refused, went_on}
use Rattle.image.proofs.memories.read_memory.Goals as goal

pub returns-in_err-edition-clause-told : goal.returns-in_err-edition-clause-told
unfolding read_memory
returns-in_err-edition-clause-told c = rw c.from_residual.ensures (refused _ _ _ c.in_err-edition.ensures.told)

pub returns-then-edition-ne-EDITION-clause-told : goal.returns-then-edition-ne-EDITION-clause-told
unfolding read_memory fail or_number
returns-then-edition-ne-EDITION-clause-told c = went_on _ _ _ c.in_ok-edition.ensures.told (rw (ne_eqb _ _ c.if-edition-ne-EDITION.true))

pub returns-then-count-gt-MAX_SYSTEMS-clause-told : goal.returns-then-count-gt-MAX_SYSTEMS-clause-told
unfolding read_memory fail or_number
returns-then-count-gt-MAX_SYSTEMS-clause-told c =
    went_on _ _ _ c.in_ok-edition.ensures.told (rw (eq-eqb _ _ c.if-edition-ne-EDITION.false, lt-leb _ _ c.if-count-gt-MAX_SYSTEMS.true))

pub returns-clause-told : goal.returns-clause-told
unfolding read_memory
returns-clause-told c =
    went_on _ _ _ c.in_ok-edition.ensures.told
    (rw (eq-eqb _ _ c.if-edition-ne-EDITION.false, le-leb _ _ c.if-count-gt-MAX_SYSTEMS.false) c.read_contents.ensures.told)
