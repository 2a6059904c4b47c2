use Rattle.std.proofs.Common.{◌≡◌, length, take, map}
use Rattle.model.specs.Limits.{max_systems}
use Rattle.model.specs.Stored.{system_of}
use Rattle.memory.specs.Keys.{keys_of}
use Rattle.memory.proofs.distinct.name_keys.Given as goal

abbrev pub invariant-loop-i : goal.invariant-loop-i
invariant-loop-i l = (length l.keys ≡ max_systems) × (take l.i l.keys ≡ take l.i (keys_of (map system_of l.s-items)))
