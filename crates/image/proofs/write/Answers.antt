use native.Mathlib.Omega.{arith}
use Rattle.model.specs.Stored.{memory_of}
use Rattle.model.proofs.Image.Limits.{fits}
use Rattle.print.proofs.Laws.{wrote_front}
use Rattle.image.proofs.write.Goals as goal

pub returns : goal.returns
returns c =
    wrote_front (omega (arith, c.requires.2, (fits (memory_of c.args.m) c.requires.1).0)) c.write_memory.ensures
