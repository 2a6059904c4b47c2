use native.Mathlib.Omega.{arith}
use Prim.Native.Nat.{ℕ, ◌≤◌, ◌<◌}
use lib.ListN.{length, length-append}
use borrow.Author.Rules.{rules}
use Rattle.model.specs.Reply.{decimal}
use Rattle.model.proofs.Digits.{decimal_short}
use Rattle.print.proofs.Laws.{wrote_then}
use Rattle.reply.proofs.ListLaws.{replied}
use Rattle.reply.proofs.last_error.Goals as goal

-- a byte has at most three digits
short : (n : ℕ) → n < 256 → length (decimal n) ≤ 3
short n h = decimal_short 3 n (omega arith) (omega arith)

pub put_decimal-at-requires : goal.put_decimal-at-requires
put_decimal-at-requires c = omega (arith, short c.args.number (search rules))

pub put_byte-requires : goal.put_byte-requires
put_byte-requires c = omega (arith, short c.args.number (search rules))

pub returns : goal.returns
returns c =
    replied (rw length-append (omega (arith, c.requires, short c.args.number (search rules)))) (wrote_then c.put_decimal-at.ensures c.put_byte.ensures)
