-- `line` is document 01's step, and a state that is not well formed comes back with 1.
use mathlib.Core.Path.{sym, ◌∙◌}
use Rattle.engine.proofs.Views.{fine_of, ill_line}
use Rattle.machine.proofs.Calls.{line_fine}
use Rattle.machine.proofs.line.Goals as goal

pub obey-requires : goal.obey-requires
obey-requires c =
    fine_of c.args.s (sym c.state_fine.ensures ∙ c.if-state_fine.true)

pub returns-then-state_fine : goal.returns-then-state_fine
returns-then-state_fine c =
    let fine = fine_of c.args.s (sym c.state_fine.ensures ∙ c.if-state_fine.true) in
    c.obey.ensures ∙ sym (line_fine c.args.s fine c.args.line.now c.args.reply.now)

pub returns : goal.returns
returns c =
    rw c.refusing.ensures (sym (ill_line c.args.s (sym c.state_fine.ensures ∙ c.if-state_fine.false) c.args.line.now c.args.reply.now))
