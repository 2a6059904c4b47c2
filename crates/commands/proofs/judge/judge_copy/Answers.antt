-- The longest ladder: with the search's limits halved it is not found (rt check --margin), so it is written out.
use mathlib.Core.Path.{sym, ◌∙◌}
use mathlib.Core.Bool.{◌||◌}
use mathlib.Core.List.{[], ◌∷◌}
use Rattle.model.specs.Use.{used_at}
use Rattle.model.specs.Refusals.{first, locked, other_type, at_or_before, no_room, change_ladder}
use Rattle.model.specs.Stored.{systems_of, memory_of}
use Rattle.memory.specs.Put.{holding}
use Rattle.commands.proofs.Asked.{absent_is}
use Rattle.commands.proofs.judge.judge_copy.Goals as goal

pub returns : goal.returns
unfolding change_ladder first
returns c =
    λ m x y s st e.
    let t = s.first in
    let u = s.second in
    let l = systems_of m in
    let gone = absent_is (memory_of m) _ _ t c.is_none.ensures in
    let lock = c.locked.ensures ∙ (λ i. locked (sym e i) (t.meant_is i).group) in
    let other = c.other_type.ensures ∙ (λ i. other_type (u.meant_is i) (t.meant_is i).kind) in
    let used = c.used_in.ensures l s.links ∙ (λ i. used_at (holding l (s.enabled i)) (u.meant_is i).place) in
    let ring = c.at_or_before.ensures l s.links ∙ (λ i. at_or_before l (u.meant_is i).place (t.meant_is i).place) in
    let full = c.no_room.ensures l s.counted ∙ (λ i. no_room l (u.meant_is i).place) in
    c.first_number.ensures ∙
    (λ i. first ((7, gone i) ∷ (8, t.reserved_is i || u.reserved_is i) ∷ (9, lock i) ∷ (10, other i) ∷ (11, used i) ∷ (12, ring i) ∷ (13, full i) ∷ []))
