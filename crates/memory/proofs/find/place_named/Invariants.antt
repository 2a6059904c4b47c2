use Rattle.std.proofs.Common.{ℕ, ◌≡◌, ◌<◌, map}
use Rattle.std.proofs.Common.{false}
use Rattle.model.specs.Stored.{system_of}
use Rattle.memory.proofs.Places.{has}
use Rattle.memory.proofs.find.place_named.Given as goal

-- no system passed has the name
abbrev pub invariant-loop-i : goal.invariant-loop-i
invariant-loop-i l = (j : ℕ) → j < l.i → has (map system_of l.s-items) l.t j ≡ false
