-- `put_reason`: four writes, one after the other, of what is left of the line.
use mathlib.Core.Path.{refl}
use mathlib.Core.List.{[], ◌++◌}
use native.Mathlib.Omega.{arith}
use borrow.Author.Rules.{rules}
use Rattle.model.specs.Ascii.{ascii}
use Rattle.model.specs.Reply.{decimal}
use Rattle.model.specs.Reasons.{reason, reason_line}
use Rattle.print.proofs.Left.{Left, left_all, left_wrote, left_fits, left_done}
use Rattle.reasons.proofs.Short.{line_short}
use Rattle.reasons.proofs.put_reason.Goals.{After-from}
use Rattle.reasons.proofs.put_reason.Goals as goal

all_left : (c : After-from) → (
    let n = c.args.number in
    Left (reason_line n) 0 c.args.out.now (decimal c.from.result ++ (ascii ": " ++ (reason n ++ ascii "\n"))) 0 c.args.out.now
    )
all_left c = rw c.from.ensures (left_all refl (omega (arith, line_short c.args.number (search rules), c.requires)))

pub put_decimal-a-requires : goal.put_decimal-a-requires
put_decimal-a-requires c = left_fits _ _ (all_left (goal.at.put_decimal-a-requires c).After-from)

pub put_text-b-requires : goal.put_text-b-requires
put_text-b-requires c = left_fits (ascii ": ") _ (left_wrote (all_left (goal.at.put_text-b-requires c).After-from) c.put_decimal-a.ensures)

pub put_text-c-requires : goal.put_text-c-requires
put_text-c-requires c =
    rw c.words_of.ensures
    (left_fits _ _ (left_wrote {x = ascii ": "} (left_wrote (all_left (goal.at.put_text-c-requires c).After-from) c.put_decimal-a.ensures) c.put_text-b.ensures))

pub put_byte-requires : goal.put_byte-requires
put_byte-requires c =
    let all = all_left (goal.at.put_byte-requires c).After-from in
    let l = left_wrote (left_wrote {x = ascii ": "} (left_wrote all c.put_decimal-a.ensures) c.put_text-b.ensures) (rw c.words_of.ensures at c.put_text-c.ensures) in
    omega (arith, l.room)

pub returns : goal.returns
returns c =
    let all = all_left (goal.at.returns c).After-from in
    left_done
    (left_wrote {x = ascii "\n"} {rest = []} (left_wrote (left_wrote {x = ascii ": "} (left_wrote all c.put_decimal-a.ensures) c.put_text-b.ensures) (rw c.words_of.ensures at c.put_text-c.ensures)) c.put_byte.ensures)
