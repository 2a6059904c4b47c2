-- What the answers of this crate stand for.
use Rattle.std.specs.Prelude.{ℕ, List, Result, Ok, Err}
use Rattle.facts.specs.declared.refusals.Refusal.{Refusal}
use Rattle.facts.specs.Refusals.{outcome}
use Rattle.model.specs.Stored.{Answered}
use Rattle.model.specs.Histories.{Returned, stands_for}
use Rattle.engine.specs.declared.answer.Stepped.{Stepped}

-- how many bytes of the lent buffer were written; a refusal writes none
abbrev pub written_by : Result ℕ Refusal → ℕ
written_by (Ok n) = n
written_by (Err why) = 0

-- what a call returned, with the lent buffer beside it
abbrev pub returned : Stepped → List ℕ → Returned
returned r b = record { state = r.state; number = outcome r.outcome; count = written_by r.outcome; buffer = b }

abbrev pub answered_of : Stepped → List ℕ → Answered
answered_of r b = stands_for (returned r b)
