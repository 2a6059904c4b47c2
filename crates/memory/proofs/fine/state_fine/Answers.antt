use mathlib.Core.Path.{◌≡◌, sym, ◌∙◌}
use mathlib.Core.Bool.{◌&&◌}
use Rattle.model.specs.WellFormed.{memory_fine, well_formed}
use Rattle.model.specs.Stored.{memory_of, state_of, memory_shaped, shaped}
use Rattle.memory.proofs.Judged.{state_judged}
use Rattle.memory.proofs.fine.state_fine.Goals.{Else-not-position_fine}
use Rattle.memory.proofs.fine.state_fine.Goals as goal

-- where the few numbers are fine, the memories decide
small : (c : Else-not-position_fine) → shaped c.args.s && well_formed (state_of c.args.s)
    ≡ (memory_shaped c.args.s.volatile && memory_fine (memory_of c.args.s.volatile)) && (memory_shaped c.args.s.permanent && memory_fine (memory_of c.args.s.permanent))
small c = rw (state_judged c.args.s, sym c.values_fine.ensures ∙ c.if-not-values_fine.false, sym c.position_fine.ensures ∙ c.if-not-position_fine.false)

pub returns-then-not-values_fine : goal.returns-then-not-values_fine
returns-then-not-values_fine c = rw (state_judged c.args.s, sym c.values_fine.ensures ∙ c.if-not-values_fine.true)

pub returns-then-not-position_fine : goal.returns-then-not-position_fine
returns-then-not-position_fine c = rw (state_judged c.args.s, sym c.values_fine.ensures ∙ c.if-not-values_fine.false, sym c.position_fine.ensures ∙ c.if-not-position_fine.true)

pub returns-else-memory_fine : goal.returns-else-memory_fine
returns-else-memory_fine c = c.if-memory_fine.false ∙ rw (small (goal.at.returns-else-memory_fine c).Else-not-position_fine, sym c.memory_fine.ensures ∙ c.if-memory_fine.false)

pub returns-then-memory_fine : goal.returns-then-memory_fine
returns-then-memory_fine c = rw (small (goal.at.returns-then-memory_fine c).Else-not-position_fine, sym c.memory_fine.ensures ∙ c.if-memory_fine.true) c.memory_fine-then-memory_fine.ensures
