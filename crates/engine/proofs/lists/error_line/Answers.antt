use Prim.Native.Nat.{ℕ}
use mathlib.Core.Path.{ap, ◌∙◌}
use mathlib.Core.List.{◌++◌}
use Rattle.model.specs.Effects.{with_error}
use Rattle.model.specs.Reply.{decimal}
use Rattle.model.specs.Ascii.{ascii}
use Rattle.model.specs.Machine.{answered}
use Rattle.model.specs.Stored.{state_of}
use Rattle.engine.proofs.Steps.{obeyed_error}
use Rattle.engine.proofs.Taking.{cleared_taken}
use Rattle.engine.proofs.lists.error_line.Goals as goal

pub returns : goal.returns
returns c s e =
    let st = state_of s in
    let b = c.args.reply.now in
    cleared_taken s _ _ _ _ c.last_error-length.ensures (obeyed_error st b ∙ ap (λ (n : ℕ). answered (with_error st 0) (decimal n ++ ascii "\n") b) e)
