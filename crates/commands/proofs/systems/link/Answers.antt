use mathlib.Core.Path.{refl, sym, ap, ◌∙◌}
use native.Mathlib.Omega.{arith}
use Rattle.model.specs.Memory.{system_at}
use Rattle.model.specs.Request.{link}
use Rattle.model.specs.Effects.{with_volatile, with_pred, changed}
use Rattle.model.specs.Stored.{memory_of, state_of}
use Rattle.model.proofs.Memories.Named.{user_place}
use Rattle.memory.specs.Put.{put_at}
use Rattle.memory.proofs.ByName.{linked_by_place}
use Rattle.model.specs.Checklist.{asks_to_save}
use Rattle.commands.proofs.Asked.{place_is}
use Rattle.commands.proofs.Carried.{decides_handed_on, decides_put, link_user, place_few}
use Rattle.commands.proofs.systems.link.Goals as goal

pub returns-in_err-judge_link : goal.returns-in_err-judge_link
returns-in_err-judge_link c = λ s x y level seen. decides_handed_on s (link x y) _ c.from_residual.result c.from_residual.ensures.1 (c.in_err-judge_link.ensures s.volatile x y seen (state_of s) level)

pub returns : goal.returns
unfolding changed asks_to_save
returns c =
    let a = c.args in
    let made = c.relinked-made.ensures in
    λ s x y level seen.
    let number = c.in_ok-judge_link.ensures s.volatile x y seen (state_of s) level in
    let m = memory_of s.volatile in
    let user = link_user (state_of s) m x y (sym number) in
    let place = place_is m x _ seen.first in
    let source = seen.source ∙ ap (system_at m.systems) place in
    let linked = made.stands_for ∙ (λ i. with_pred (source i) (place_is m y _ seen.second i)) in
    let next = (λ i. put_at m (place i) (linked i)) ∙ sym (linked_by_place m x y user) in
    decides_put s (link x y) a.k.first.place c.relinked-made.result number
    (rw made.name_value seen.named)
    (rw place (place_few s.volatile x y _ seen x, λ z. absurd (omega (arith, z, user_place m x user))))
    (ap (with_volatile (state_of s)) next) refl
