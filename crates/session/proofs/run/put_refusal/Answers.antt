-- `put_refusal`: three writes, one after the other.
use Prim.Native.Nat.{ℕ, ◌<◌, ◌≤◌}
use lib.ListN.{length}
use native.Mathlib.Omega.{arith}
use borrow.Author.Rules.{rules}
use Rattle.model.specs.Reply.{decimal}
use Rattle.model.proofs.Digits.{decimal_short}
use Rattle.print.proofs.Laws.{length_over, wrote_then}
use Rattle.session.proofs.Answering.{refusal_written}
use Rattle.session.proofs.run.put_refusal.Goals as goal

-- the number is a byte, of three digits at most
digits : (n : ℕ) → n < 256 → length (decimal n) ≤ 3
digits n h = decimal_short 3 n (omega arith) (omega arith)

pub put_decimal-b-requires : goal.put_decimal-b-requires
put_decimal-b-requires c =
    let byte : c.args.number < 256 = search rules in
    rw (c.from.ensures, c.put_text-a.ensures.bytes, length_over _ c.args.out.now 0)
    (omega (arith, c.put_text-a.ensures.place, digits c.args.number byte, c.requires))

pub put_byte-requires : goal.put_byte-requires
put_byte-requires c =
    let byte : c.args.number < 256 = search rules in
    let place = rw c.from.ensures at c.put_decimal-b.ensures.place in
    rw (c.put_decimal-b.ensures.bytes, length_over, c.put_text-a.ensures.bytes, length_over)
    (omega (arith, c.put_text-a.ensures.place, place, digits c.args.number byte, c.requires))

pub returns : goal.returns
returns c =
    let byte : c.args.number < 256 = search rules in
    refusal_written c.args.number byte c.args.out.now c.put_byte.new.out c.put_byte.result c.requires
    (wrote_then c.put_text-a.ensures (wrote_then (rw c.from.ensures at c.put_decimal-b.ensures) c.put_byte.ensures))
