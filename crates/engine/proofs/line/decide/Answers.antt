-- `decide`: 2 and 3 come first, then what the line asks.
use mathlib.Core.Path.{sym, ap, ◌∙◌}
use borrow.Author.Tests.{lt-ltb, le-ltb}
use Rattle.facts.specs.declared.refusals.Refusal.TheVariants.{Short, Unreadable}
use Rattle.model.specs.Refusals.{short}
use Rattle.model.specs.Request.{Reading}
use Rattle.model.specs.Checklist.{asks_to_save}
use Rattle.model.specs.Stored.{state_of}
use Rattle.commands.specs.Obeyed.{obeyed}
use Rattle.request.proofs.Says.{says_asks}
use Rattle.engine.proofs.Steps.{step_short, step_unreadable, step_obeyed, obeyed_refused}
use Rattle.engine.proofs.Taking.{handed_on, retold, asked_as, refusal_taken}
use Rattle.engine.proofs.line.decide.Goals as goal

pub returns-then-reply-lt-BUFFER_LIMIT : goal.returns-then-reply-lt-BUFFER_LIMIT
unfolding short
returns-then-reply-lt-BUFFER_LIMIT c s volatile position level error fine =
    refusal_taken s _ Short _ (step_short _ c.args.line.now _ fine.formed (lt-ltb _ _ c.if-reply-lt-BUFFER_LIMIT.true))

pub returns-then-unreadable : goal.returns-then-unreadable
unfolding short
returns-then-unreadable c s volatile position level error fine =
    refusal_taken s _ Unreadable _
    (step_unreadable _ c.args.line.now _ fine.formed (le-ltb _ _ c.if-reply-lt-BUFFER_LIMIT.false) (sym c.unreadable.ensures ∙ c.if-unreadable.true))

pub returns-in_err-q : goal.returns-in_err-q
unfolding short
returns-in_err-q c s volatile position level error fine =
    rw (handed_on c.from_residual.ensures)
    (refusal_taken s _ _ _
    (step_obeyed (state_of s) c.args.line.now _ fine.formed (le-ltb _ _ c.if-reply-lt-BUFFER_LIMIT.false) (sym c.unreadable.ensures ∙ c.if-unreadable.false)
    ∙ obeyed_refused (state_of s) c.args.reply.now c.in_err-q.ensures))

pub returns : goal.returns
unfolding short
returns c s volatile position level error fine =
    let st = state_of s in
    let is = says_asks c.in_ok-q.ensures in
    retold
    (step_obeyed st c.args.line.now _ fine.formed (le-ltb _ _ c.if-reply-lt-BUFFER_LIMIT.false) (sym c.unreadable.ensures ∙ c.if-unreadable.false)
    ∙ ap (λ (r : Reading). obeyed st r c.args.reply.now) is)
    (asked_as (ap asks_to_save is) (c.carry_out.ensures s volatile position level error))
