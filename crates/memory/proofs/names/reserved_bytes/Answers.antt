use Rattle.model.specs.Lists.{any, one_of}
use Rattle.model.specs.Words.{reserved}
use Rattle.memory.proofs.Tests.{or_last}
use Rattle.memory.proofs.names.reserved_bytes.Goals as goal

pub returns : goal.returns
unfolding reserved one_of any
returns c = rw (c.same_bytes-zero.ensures, c.same_bytes-base.ensures, c.same_bytes-levelling.ensures, c.same_bytes-hexapod.ensures, or_last)
