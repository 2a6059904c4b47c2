use native.Mathlib.Omega.{arith}
use lib.ListN.{length-append}
use Rattle.print.proofs.Laws.{wrote_then, wrote_part}
use Rattle.reply.proofs.put_fixed.Goals as goal

pub overflow_add-result : goal.overflow_add-result
overflow_add-result c =
    let room = simp length-append at c.requires in
    record { fits = omega (arith, room, c.put_text-i.ensures.place, c.put_further.ensures.place, c.put_further-2.ensures.place) }

pub returns : goal.returns
returns c =
    let room = simp length-append at c.requires in
    wrote_then c.put_text-i.ensures (wrote_then (wrote_part _ _ (omega (arith, room, c.put_text-i.ensures.place)) c.put_further.ensures)
    (wrote_part _ _ (omega (arith, room, c.put_text-i.ensures.place, c.put_further.ensures.place)) c.put_further-2.ensures))
