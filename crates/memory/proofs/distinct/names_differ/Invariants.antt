use Rattle.std.proofs.Common.{◌≡◌, drop, map}
use Rattle.model.specs.WellFormed.{names_differ}
use Rattle.model.specs.Stored.{system_of}
use Rattle.memory.proofs.Differ.{left}
use Rattle.memory.proofs.distinct.names_differ.Given as goal

-- the systems before i differ from all others
abbrev pub invariant-loop-i : goal.invariant-loop-i
invariant-loop-i l = names_differ (map system_of l.systems) ≡ names_differ (drop l.i (map system_of l.systems))

-- and i from those before j
abbrev pub invariant-loop-j : goal.invariant-loop-j
invariant-loop-j l = names_differ (map system_of l.systems) ≡ left (map system_of l.systems) l.i l.j
