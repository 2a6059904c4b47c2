-- Document 01, "Error numbers" and "Commands": what a line does in a well-formed state once 2 and 3 do not apply to it.
use Rattle.model.specs.Base.{List, ℕ}
use Rattle.model.specs.Memory.{State}
use Rattle.model.specs.Request.{Reading}
use Rattle.model.specs.Refusals.{first, reading_ladder}
use Rattle.model.specs.Machine.{Outcome, judged}

-- [Errors 4 to 13] what was read is judged by the rest of the ladder
unfoldable pub obeyed : State → Reading → List ℕ → Outcome
obeyed st r b = judged st (first (reading_ladder st r)) r b
