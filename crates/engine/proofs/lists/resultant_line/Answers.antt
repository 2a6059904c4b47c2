-- `resultant_line`: the line of the system that the name finds, or 7.
use mathlib.Core.Path.{◌≡◌, ap, ◌∙◌}
use Rattle.std.specs.Prelude.{Option, Some}
use Rattle.memory.specs.declared.find.Found.{Found}
use Rattle.facts.specs.declared.refusals.Refusal.TheVariants.{Absent}
use Rattle.model.specs.declared.Memory.{Memory}
use Rattle.model.specs.declared.Group.TheVariants.{Operating}
use Rattle.model.specs.Machine.{answered}
use Rattle.model.specs.Stored.{memory_of, state_of}
use Rattle.commands.specs.Subject.{Tells}
use Rattle.engine.proofs.OneLine.{chain_line, user_answers, fixed_answers, absent_answers}
use Rattle.engine.proofs.Taking.{reply_taken, refusal_taken}
use Rattle.engine.proofs.lists.resultant_line.Goals as goal

-- what was found, by its parts
found : {x : Option Found} {f g : Found} → x ≡ Some f → f ≡ g → x ≡ Some g
found e h = e ∙ ap (λ (y : Found). Some y) h

pub returns-in-Some-User : goal.returns-in-Some-User
returns-in-Some-User c s n e t =
    let a = c.args in
    let told : Tells (memory_of s.volatile) n a.x = rw e t in
    rw c.replied.ensures (reply_taken s _ (chain_line a.m Operating a.x.place) a.reply.now _ c.resultant_at.ensures
    (user_answers s n a.x told a.reply.now _ (found c.in-Some-User.is (rw c.in-Some-User.is at c.in-Some-User.field-0-is))
    ∙ ap (λ (v : Memory). answered (state_of s) (chain_line v Operating a.x.place) a.reply.now) e))

pub returns-in-Some-Fixed : goal.returns-in-Some-Fixed
returns-in-Some-Fixed c s n e t =
    let a = c.args in
    let told : Tells (memory_of s.volatile) n a.x = rw e t in
    let g = c.in-Some-Fixed.group in
    rw c.replied-in-Some-Fixed.ensures (reply_taken s _ (chain_line a.m g 0) a.reply.now _ c.resultant_at-in-Some-Fixed.ensures
    (fixed_answers s n a.x told a.reply.now _ (found c.in-Some-Fixed.is (rw c.in-Some-Fixed.is at c.in-Some-Fixed.field-0-is))
    ∙ ap (λ (v : Memory). answered (state_of s) (chain_line v g 0) a.reply.now) e))

pub returns-in-None : goal.returns-in-None
returns-in-None c s n e t =
    let a = c.args in
    let told : Tells (memory_of s.volatile) n a.x = rw e t in
    refusal_taken s _ Absent _ (absent_answers s n a.x told _ c.in-None.is)
