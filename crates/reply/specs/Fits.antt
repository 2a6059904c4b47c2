-- What is claimed of the replies' lengths (document 01, [Error 2; lists]). The statement only; proofs/ShortLaws.antt proves it.
use Rattle.std.specs.Prelude.{◌≤◌, ◌≡◌}
use Rattle.model.specs.Base.{true, length}
use Rattle.model.specs.Limits.{buffer_limit}
use Rattle.model.specs.Memory.{Memory}
use Rattle.model.specs.WellFormed.{memory_fine}
use Rattle.model.specs.Request.{Query}
use Rattle.model.specs.Reply.{listed}

-- a buffer that is not too short holds every listing of a well-formed memory
abbrev pub RepliesFit : Type 0
RepliesFit = (m : Memory) → memory_fine m ≡ true → (q : Query) → length (listed m q) ≤ buffer_limit
