-- `relative_line`: the line of the first system seen from the second, or 7, or 10.
use mathlib.Core.Path.{◌≡◌, refl, ap, ◌∙◌}
use mathlib.Core.Bool.{Bool, true, false, not}
use Rattle.facts.specs.declared.refusals.Refusal.TheVariants.{Absent, OtherType}
use Rattle.memory.proofs.Alike.{groups_alike}
use Rattle.model.specs.declared.Memory.{Memory}
use Rattle.model.specs.Machine.{answered}
use Rattle.model.specs.Stored.{state_of}
use Rattle.engine.proofs.TwoNames.{seen_line, absent_answers, apart_answers, seen_answers}
use Rattle.engine.proofs.Taking.{seen_in, reply_taken, refusal_taken}
use Rattle.engine.proofs.lists.relative_line.Goals as goal

-- the test of two groups, as the laws have it
apart : (b : Bool) → true ≡ not b → b ≡ false
apart true e = e
apart false e = refl

alike : (b : Bool) → false ≡ not b → b ≡ true
alike true e = refl
alike false e = e

pub returns-then-is_none : goal.returns-then-is_none
returns-then-is_none c s a b e t =
    let seen = seen_in e t in
    refusal_taken s _ Absent _ (absent_answers s a b _ _ seen.first seen.second _ _ c.is_none.ensures c.is_none-2.ensures _ c.if-is_none.true)

pub returns-then-ne : goal.returns-then-ne
returns-then-ne c s a b e t =
    let seen = seen_in e t in
    refusal_taken s _ OtherType _
    (apart_answers s a b _ _ seen.first seen.second _ _ c.is_none.ensures c.is_none-2.ensures _ c.if-is_none.false (apart _ (rw groups_alike at c.if-ne.ensures)))

pub returns : goal.returns
returns c s a b e t =
    let seen = seen_in e t in
    let args = c.args in
    let x = args.k.first in
    let y = args.k.second in
    let b₀ = args.reply.now in
    rw c.replied.ensures (reply_taken s _ (seen_line args.m x.group x.place y.place) b₀ _ c.relative_at.ensures
    (seen_answers s a b x y seen.first seen.second _ _ c.is_none.ensures c.is_none-2.ensures b₀ c.if-is_none.false (alike _ (rw groups_alike at c.if-ne.ensures))
    ∙ ap (λ (v : Memory). answered (state_of s) (seen_line v x.group x.place y.place) b₀) e))
