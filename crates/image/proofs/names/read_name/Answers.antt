use Rattle.std.proofs.Common.{rules}
use Rattle.model.proofs.Told.{tells_some, refuses_none}
use Rattle.image.proofs.NameLaws.{name_long, name_beyond, name_there}
use Rattle.image.proofs.names.read_name.Goals as goal

pub returns-then-n-gt-NAME_LIMIT-clause-told : goal.returns-then-n-gt-NAME_LIMIT-clause-told
returns-then-n-gt-NAME_LIMIT-clause-told c = refuses_none 14 (name_long c.args.bytes.now.now c.args.len c.if-n-gt-NAME_LIMIT.true)

pub returns-in_err-text-clause-told : goal.returns-in_err-text-clause-told
returns-in_err-text-clause-told c =
    rw c.from_residual.ensures (refuses_none 14 (name_beyond c.args.bytes.now.now c.args.len c.if-n-gt-NAME_LIMIT.false (search rules)))

pub returns-clause-told : goal.returns-clause-told
returns-clause-told c =
    let s = c.in_ok-text.ensures.cases in
    rw (c.copy_from_slice.ensures.after, s.1, s.2) (tells_some 14 (name_there c.args.bytes.now.now c.args.len c.if-n-gt-NAME_LIMIT.false _ s.0))
