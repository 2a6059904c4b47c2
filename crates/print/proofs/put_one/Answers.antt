use Prim.Native.Nat.{◌/◌}
use mathlib.Core.Path.{◌≡◌}
use native.Mathlib.Omega.{arith}
use Rattle.model.specs.Reply.{last_digits}
use Rattle.print.proofs.put_one.Goals as goal

pub returns : goal.returns
unfolding last_digits
returns c = let e : c.args.n / 1 ≡ c.args.n = omega arith in rw e c.put_byte.ensures
