use Rattle.std.proofs.Common.{arith}
use Rattle.script.proofs.FieldLaws.{a_letter}
use Rattle.script.proofs.OrderLaws.{two_write, two_unwritten, two_image, two_no_image, two_name, two_no_name, two_other}
use Rattle.script.proofs.parse.two_fields.Goals as goal

pub returns-in_ok-read_length-in-W : goal.returns-in_ok-read_length-in-W
returns-in_ok-read_length-in-W c = rw (a_letter c.args.w.now 87 (omega arith) (omega arith)) (two_write c.args.v.now _ c.in_ok-read_length-in-W.ensures)

pub returns-in_err-read_length-in-W : goal.returns-in_err-read_length-in-W
returns-in_err-read_length-in-W c =
    rw (c.from_residual.ensures, a_letter c.args.w.now 87 (omega arith) (omega arith)) (two_unwritten c.args.v.now _ c.in_err-read_length-in-W.ensures)

pub returns-in_ok-read_bytes-in-I : goal.returns-in_ok-read_bytes-in-I
returns-in_ok-read_bytes-in-I c = rw (a_letter c.args.w.now 73 (omega arith) (omega arith)) (two_image c.args.v.now c.in_ok-read_bytes-in-I.ensures)

pub returns-in_err-read_bytes-in-I : goal.returns-in_err-read_bytes-in-I
returns-in_err-read_bytes-in-I c =
    let r = c.from_residual-in_err-read_bytes-in-I.ensures in
    rw (r, a_letter c.args.w.now 73 (omega arith) (omega arith)) (two_no_image c.args.v.now c.in_err-read_bytes-in-I.ensures)

pub returns-in_ok-read_bytes-in-U : goal.returns-in_ok-read_bytes-in-U
returns-in_ok-read_bytes-in-U c = rw (a_letter c.args.w.now 85 (omega arith) (omega arith)) (two_name c.args.v.now c.in_ok-read_bytes-in-U.ensures)

pub returns-in_err-read_bytes-in-U : goal.returns-in_err-read_bytes-in-U
returns-in_err-read_bytes-in-U c =
    let r = c.from_residual-in_err-read_bytes-in-U.ensures in
    rw (r, a_letter c.args.w.now 85 (omega arith) (omega arith)) (two_no_name c.args.v.now c.in_err-read_bytes-in-U.ensures)

pub returns-in_default : goal.returns-in_default
returns-in_default c =
    let w = c.args.w.now in
    two_other c.args.v.now w _ (λ h e. omega arith) (λ h e. omega arith) (λ h e. omega arith)

pub returns-in_default-2 : goal.returns-in_default-2
returns-in_default-2 c =
    let w = c.args.w.now in
    two_other c.args.v.now w _ (λ h e. omega arith) (λ h e. omega arith) (λ h e. omega arith)

pub returns-in_default-3 : goal.returns-in_default-3
returns-in_default-3 c =
    let w = c.args.w.now in
    two_other c.args.v.now w _ (λ h e. omega arith) (λ h e. omega arith) (λ h e. omega arith)
