-- `restart` gives document 01's restart: the permanent memory in both, or 1 and all as it was.
use mathlib.Core.Path.{sym, ◌∙◌}
use Rattle.engine.proofs.Views.{fine_of, ill_restart}
use Rattle.machine.proofs.Calls.{restart_taken}
use Rattle.machine.proofs.restart.Goals as goal

pub returns-then-not-state_fine : goal.returns-then-not-state_fine
returns-then-not-state_fine c =
    let s = c.args.s in
    sym (ill_restart s (sym c.state_fine.ensures ∙ c.if-not-state_fine.true))

pub returns : goal.returns
returns c =
    let s = c.args.s in
    rw c.started.ensures (restart_taken s (fine_of s (sym c.state_fine.ensures ∙ c.if-not-state_fine.false)))
