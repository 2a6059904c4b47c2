-- `write_image` writes the image of the permanent memory; it can meet only 1 and 2.
use mathlib.Core.Path.{sym, ◌∙◌}
use borrow.Author.Tests.{lt-ltb, le-ltb}
use Rattle.model.specs.Refusals.{short}
use Rattle.model.specs.Stored.{FineState}
use Rattle.model.proofs.Memories.Fine.{state_of_lem}
use Rattle.memory.proofs.Shape.{shape_parts}
use Rattle.engine.proofs.Views.{fine_of, ill_image}
use Rattle.machine.proofs.Calls.{image_refused, image_taken}
use Rattle.machine.proofs.write_image.Goals.{Else-not-state_fine}
use Rattle.machine.proofs.write_image.Goals as goal

pub returns-then-not-state_fine : goal.returns-then-not-state_fine
returns-then-not-state_fine c =
    rw c.refusing.ensures (sym (ill_image c.args.s (sym c.state_fine.ensures ∙ c.if-not-state_fine.true) c.args.out.now))

-- the state is well formed
fine : (c : Else-not-state_fine) → FineState c.args.s
fine c = fine_of c.args.s (sym c.state_fine.ensures ∙ c.if-not-state_fine.false)

pub returns-then-out-lt-BUFFER_LIMIT : goal.returns-then-out-lt-BUFFER_LIMIT
unfolding short
returns-then-out-lt-BUFFER_LIMIT c =
    rw c.refusing-then-out-lt-BUFFER_LIMIT.ensures (image_refused c.args.s (fine (goal.at.returns-then-out-lt-BUFFER_LIMIT c).Else-not-state_fine) c.args.out.now (lt-ltb _ _ c.if-out-lt-BUFFER_LIMIT.true))

pub write-requires : goal.write-requires
write-requires c =
    let f = fine (goal.at.write-requires c).Else-not-state_fine in
    ((shape_parts _ f.shape).1, (state_of_lem _ f.formed).permanent, c.if-out-lt-BUFFER_LIMIT.false)

pub returns : goal.returns
unfolding short
returns c =
    let w = c.write.ensures in
    image_taken c.args.s (fine (goal.at.returns c).Else-not-state_fine) c.args.out.now _ _ (le-ltb _ _ c.if-out-lt-BUFFER_LIMIT.false) w.0 w.1
