-- `in_use` gives the answer of document 02 §2: the test for use in the volatile memory, or 1.
use mathlib.Core.Path.{sym, ◌∙◌}
use Rattle.model.specs.Stored.{FineState}
use Rattle.engine.proofs.Views.{fine_of, fine_volatile, ill_use}
use Rattle.machine.proofs.Calls.{use_taken}
use Rattle.machine.proofs.in_use.Goals.{Else-not-state_fine}
use Rattle.machine.proofs.in_use.Goals as goal

pub returns-then-not-state_fine : goal.returns-then-not-state_fine
returns-then-not-state_fine c =
    let a = c.args in
    sym (ill_use a.s (sym c.state_fine.ensures ∙ c.if-not-state_fine.true) a.name.now)

-- the state is well formed past the test
fine : (c : Else-not-state_fine) → FineState c.args.s
fine c = fine_of _ (sym c.state_fine.ensures ∙ c.if-not-state_fine.false)

pub use_of-requires : goal.use_of-requires
use_of-requires c = fine_volatile _ (fine (goal.at.use_of-requires c).Else-not-state_fine)

pub returns : goal.returns
returns c =
    let a = c.args in
    use_taken a.s (fine (goal.at.returns c).Else-not-state_fine) a.name.now _ c.use_of.ensures
