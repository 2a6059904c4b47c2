-- `keep`: what was read is written from byte 0 on.
use native.Mathlib.Omega.{arith}
use Rattle.store.proofs.Placing.{kept}
use Rattle.store.proofs.load.keep.Goals as goal

pub returns : goal.returns
returns c =
    kept (omega (arith, c.if-bytes-gt-LONGEST_IMAGE.false)) (omega (arith, c.if-bytes-gt-LONGEST_IMAGE.false, c.requires)) c.put_text.ensures
