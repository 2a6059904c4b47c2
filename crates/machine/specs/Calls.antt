-- What the calls' values stand for.
use Rattle.std.specs.Prelude.{Result, Ok, Err}
use Rattle.facts.specs.declared.refusals.Refusal.{Refusal}
use Rattle.facts.specs.Refusals.{number_of, outcome}
use Rattle.model.specs.declared.Memory.{Memory}
use Rattle.model.specs.declared.State.{State}
use Rattle.model.specs.Base.{false}
use Rattle.model.specs.Memory.{zero_position}
use Rattle.model.specs.Stored.{Restarted}
use Rattle.model.specs.Histories.{ReturnedAlone, stands_alone}
use Rattle.model.specs.Machine.{Usage, tells_use}
use Rattle.chains.specs.declared.links.Search.{Search}
use Rattle.chains.specs.Searches.{search_of}
use Rattle.machine.specs.declared.Begun.{Begun}

-- what a call without a lent buffer returned
abbrev pub returned_alone : Begun → ReturnedAlone
returned_alone r = record { state = r.state; number = outcome r.outcome }

abbrev pub begun_of : Begun → Restarted
begun_of r = stands_alone (returned_alone r)

-- [Memory 4; Image; 02 §1] both memories are m, the platform stands at zero, level 0, no error
abbrev pub started_with : Memory → State
started_with m = record { volatile = m; permanent = m; position = zero_position; level = 0; error = 0 }

-- [02 §2] what the question of use returned
abbrev pub usage_of : Result Search Refusal → Usage
usage_of (Ok r) = tells_use (search_of r)
usage_of (Err why) = record { number = number_of why; used = false; looked = 0 }
