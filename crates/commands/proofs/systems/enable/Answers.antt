use mathlib.Core.Path.{refl, sym, ◌∙◌}
use Rattle.model.specs.Memory.{ref_or}
use Rattle.model.specs.Request.{enable}
use Rattle.model.specs.Effects.{with_volatile, enabling, changed}
use Rattle.model.specs.Stored.{systems_of, memory_of, state_of}
use Rattle.memory.specs.Put.{holding}
use Rattle.model.specs.Checklist.{asks_to_save}
use Rattle.commands.specs.declared.changed.Deed.TheVariants.{Enable}
use Rattle.commands.specs.Done.{done, saving, settle, Fits}
use Rattle.commands.proofs.Asked.{found_is, found_kind}
use Rattle.commands.proofs.Carried.{decides_handed_on, decides_accepted}
use Rattle.commands.proofs.systems.enable.Goals as goal

pub returns-in_err-judge_enable : goal.returns-in_err-judge_enable
returns-in_err-judge_enable c = λ s x level before tells. decides_handed_on s (enable x) _ c.from_residual.result c.from_residual.ensures.1 (c.in_err-judge_enable.ensures s.volatile x tells (state_of s) level)

pub returns : goal.returns
unfolding changed done saving settle Fits asks_to_save
returns c =
    let a = c.args in
    λ s x level before tells.
    let number = c.in_ok-judge_enable.ensures s.volatile x tells (state_of s) level in
    let l = systems_of s.volatile in
    let kind = found_kind (memory_of s.volatile) x a.n tells in
    let found = found_is (memory_of s.volatile) x a.n tells in
    let enabled = c.enabling-after.ensures l kind ∙ (λ i. enabling (sym level i) (holding l (sym before i)) (ref_or (found i))) in
    decides_accepted s (enable x) (Enable c.enabling-after.result) number refl
    tt
    (λ i. with_volatile (state_of s) (holding l (enabled i))) refl
