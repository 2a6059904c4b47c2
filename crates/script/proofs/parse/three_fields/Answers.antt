use Rattle.std.proofs.Common.{arith}
use Rattle.script.proofs.FieldLaws.{a_letter}
use Rattle.script.proofs.OrderLaws.{three_line, three_no_bytes, three_no_length, three_other}
use Rattle.script.proofs.parse.three_fields.Goals as goal

pub returns-in_err-count : goal.returns-in_err-count
returns-in_err-count c =
    rw (c.from_residual.ensures, a_letter c.args.w.now 76 (omega arith) (omega arith)) (three_no_bytes c.args.h.now c.args.v.now c.in_err-count.ensures)

pub returns-in_err-length : goal.returns-in_err-length
returns-in_err-length c =
    rw (c.from_residual-in_err-length.ensures, a_letter c.args.w.now 76 (omega arith) (omega arith))
    (three_no_length c.args.h.now c.args.v.now c.in_ok-count.ensures c.in_err-length.ensures)

pub returns : goal.returns
returns c =
    rw (a_letter c.args.w.now 76 (omega arith) (omega arith)) (three_line c.args.h.now c.args.v.now c.in_ok-count.ensures c.in_ok-length.ensures)

pub returns-in_default : goal.returns-in_default
returns-in_default c = three_other c.args.h.now c.args.v.now c.args.w.now _ (λ h e. omega arith)

pub returns-in_default-2 : goal.returns-in_default-2
returns-in_default-2 c = three_other c.args.h.now c.args.v.now c.args.w.now _ (λ h e. omega arith)

pub returns-in_default-3 : goal.returns-in_default-3
returns-in_default-3 c = three_other c.args.h.now c.args.v.now c.args.w.now _ (λ h e. omega arith)
