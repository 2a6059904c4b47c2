use mathlib.Core.Path.{refl, sym, ap, ◌∙◌}
use borrow.Author.Tests.{le-leb}
use Rattle.model.specs.Limits.{name_limit}
use Rattle.model.specs.Memory.{System, system_at}
use Rattle.model.specs.Request.{copy}
use Rattle.model.specs.Effects.{with_volatile, with_name, changed}
use Rattle.model.specs.Stored.{bytes_of, memory_of, state_of}
use Rattle.memory.specs.Put.{put_at}
use Rattle.memory.proofs.ByName.{copied_by_place}
use Rattle.model.specs.Checklist.{asks_to_save}
use Rattle.commands.proofs.Asked.{place_is}
use Rattle.commands.proofs.Carried.{decides_handed_on, decides_put, copy_room, place_few, room}
use Rattle.commands.proofs.systems.copy.Goals as goal

pub returns-in_err-judge_copy : goal.returns-in_err-judge_copy
returns-in_err-judge_copy c = λ s x level seen. decides_handed_on s (copy x (bytes_of c.args.to)) _ c.from_residual.result c.from_residual.ensures.1 (c.in_err-judge_copy.ensures s.volatile x (bytes_of c.args.to) seen (state_of s) level)

pub returns : goal.returns
unfolding changed asks_to_save
returns c =
    let a = c.args in
    let made = c.renamed-made.ensures in
    let to = bytes_of a.to in
    λ s x level seen.
    let number = c.in_ok-judge_copy.ensures s.volatile x to seen (state_of s) level in
    let m = memory_of s.volatile in
    let passed = copy_room (state_of s) m x to (sym number) in
    let y = place_is m to _ seen.second in
    let source = seen.source ∙ ap (system_at m.systems) (place_is m x _ seen.first) in
    let copied = made.stands_for ∙ ap (λ (z : System). with_name z to) source in
    let next = (λ i. put_at m (y i) (copied i)) ∙ sym (copied_by_place m x to) in
    decides_put s (copy x to) a.k.second.place c.renamed-made.result number
    (rw made.name_value (le-leb a.to.len name_limit c.requires))
    (rw y (place_few s.volatile x to _ seen to, room s.volatile x to _ seen to passed))
    (ap (with_volatile (state_of s)) next) refl
