use Rattle.std.proofs.Common.{map, drop}
use Rattle.model.specs.Lists.{joined}
use Rattle.model.specs.Image.{system_bytes}
use Rattle.model.specs.Stored.{systems_of}
use Rattle.print.proofs.Left.{Left}
use Rattle.image.proofs.memories.write_systems.Given as goal

abbrev pub invariant-loop-system : goal.invariant-loop-system
invariant-loop-system l =
    Left (joined (map system_bytes (systems_of l.fn.m))) l.at l.initial.out (joined (map system_bytes (drop l.system-index (systems_of l.fn.m)))) l.next l.out
