use Rattle.std.proofs.Common.{◌≡◌, length, take}
use Rattle.model.specs.Limits.{max_systems}
use Rattle.model.specs.Stored.{bytes_of}
use Rattle.chains.proofs.Copies.{preds_before}
use Rattle.memory.proofs.Places.{Seen}
use Rattle.memory.proofs.find.places_named.Given as goal

abbrev pub invariant-loop-i : goal.invariant-loop-i
invariant-loop-i l =
    Seen l.systems (bytes_of l.a) l.i l.first l.one × Seen l.systems (bytes_of l.b) l.i l.second l.other × (length l.preds ≡ max_systems) × (take l.i l.preds ≡ preds_before l.systems l.i)
