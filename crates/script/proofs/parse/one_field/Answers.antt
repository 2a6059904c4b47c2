use Rattle.std.proofs.Common.{arith}
use Rattle.script.proofs.FieldLaws.{a_letter}
use Rattle.script.proofs.OrderLaws.{one_restart, one_factory, one_other}
use Rattle.script.proofs.parse.one_field.Goals as goal

pub returns-in-R : goal.returns-in-R
returns-in-R c = λ b. rw (a_letter c.args.w.now 82 (omega arith) (omega arith)) (one_restart b)

pub returns-in-N : goal.returns-in-N
returns-in-N c = λ b. rw (a_letter c.args.w.now 78 (omega arith) (omega arith)) (one_factory b)

pub returns-in_default : goal.returns-in_default
returns-in_default c = let w = c.args.w.now in λ b. one_other b w (λ h e. omega arith) (λ h e. omega arith)

pub returns-in_default-2 : goal.returns-in_default-2
returns-in_default-2 c = let w = c.args.w.now in λ b. one_other b w (λ h e. omega arith) (λ h e. omega arith)

pub returns-in_default-3 : goal.returns-in_default-3
returns-in_default-3 c = let w = c.args.w.now in λ b. one_other b w (λ h e. omega arith) (λ h e. omega arith)
