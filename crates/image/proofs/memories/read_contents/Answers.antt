use Rattle.std.proofs.Common.{refl}
use borrow.Author.Tests.{le-leb}
use Rattle.model.specs.Limits.{max_systems}
use Rattle.model.specs.Told.{or_number}
use Rattle.model.specs.Stored.{memory_shaped}
use Rattle.model.specs.Image.{give, read_contents}
use Rattle.model.proofs.Basics.{and_join}
use Rattle.image.proofs.Steps.{refused, went_on}
use Rattle.image.proofs.memories.read_contents.Goals as goal

pub returns-in_err-systems-clause-told : goal.returns-in_err-systems-clause-told
unfolding read_contents
returns-in_err-systems-clause-told c = rw c.from_residual.ensures (refused _ _ _ c.in_err-systems.ensures.told)

pub returns-in_err-enabled-clause-told : goal.returns-in_err-enabled-clause-told
unfolding read_contents
returns-in_err-enabled-clause-told c =
    rw c.from_residual-in_err-enabled.ensures (went_on _ _ _ c.in_ok-systems.ensures.told (refused _ _ _ c.in_err-enabled.ensures))

pub returns : goal.returns
unfolding read_contents give or_number memory_shaped
returns c = record {
  told = went_on _ _ _ c.in_ok-systems.ensures.told (went_on _ _ _ c.in_ok-enabled.ensures refl);
  shaped = and_join (le-leb c.args.count max_systems c.requires) c.in_ok-systems.ensures.shaped;
}
