-- `set_position`: 1 and 6 leave all as it was; otherwise the position alone is another.
use mathlib.Core.Path.{sym, ◌∙◌}
use Rattle.engine.proofs.Views.{fine_of, ill_position}
use Rattle.machine.proofs.Calls.{position_refused, position_told}
use Rattle.machine.proofs.set_position.Goals as goal

pub returns-then-not-state_fine : goal.returns-then-not-state_fine
returns-then-not-state_fine c =
    let a = c.args in
    sym (ill_position a.s (sym c.state_fine.ensures ∙ c.if-not-state_fine.true) a.p)

pub returns-then-not-position_fine : goal.returns-then-not-position_fine
returns-then-not-position_fine c =
    let a = c.args in
    position_refused a.s (fine_of a.s (sym c.state_fine.ensures ∙ c.if-not-state_fine.false)) a.p
    (sym c.position_fine.ensures ∙ c.if-not-position_fine.true)

pub returns : goal.returns
returns c =
    let a = c.args in
    position_told a.s (fine_of a.s (sym c.state_fine.ensures ∙ c.if-not-state_fine.false)) a.p
    (sym c.position_fine.ensures ∙ c.if-not-position_fine.false)
