use mathlib.Core.Path.{refl, sym, ap, ◌∙◌}
use borrow.Author.Tests.{le-leb}
use Rattle.model.specs.Limits.{name_limit}
use Rattle.model.specs.declared.Enabled.{Enabled}
use Rattle.model.specs.Request.{define}
use Rattle.model.specs.Effects.{with_volatile, fresh, changed}
use Rattle.model.specs.Stored.{bytes_of, memory_of, state_of}
use Rattle.memory.specs.Put.{put_at, holding}
use Rattle.model.specs.Checklist.{asks_to_save}
use Rattle.commands.proofs.Asked.{place_is}
use Rattle.commands.proofs.Carried.{decides_handed_on, decides_put, define_room, place_few, room, defined_by_place}
use Rattle.commands.proofs.systems.define.Goals as goal

pub returns-in_err-judge_define : goal.returns-in_err-judge_define
returns-in_err-judge_define c = λ s y level seen. decides_handed_on s (define c.args.kind (bytes_of c.args.n) c.args.offset c.args.turns) _ c.from_residual.result c.from_residual.ensures.1 (c.in_err-judge_define.ensures s.volatile _ y _ _ seen (state_of s) level)

pub returns : goal.returns
unfolding changed asks_to_save
returns c =
    let a = c.args in
    let made = c.fresh_system-made.ensures in
    λ s y level seen.
    let number = c.in_ok-judge_define.ensures s.volatile _ y a.offset a.turns seen (state_of s) level in
    let m = memory_of s.volatile in
    let passed = define_room (state_of s) m a.kind (bytes_of a.n) a.offset a.turns (sym number) in
    let x = place_is m (bytes_of a.n) _ seen.first in
    let new = made.stands_for m.systems ∙ ap (λ (e : Enabled). fresh (holding m.systems e) a.kind (bytes_of a.n) a.offset a.turns) seen.enabled in
    let next = (λ i. put_at m (x i) (new i)) ∙ sym (defined_by_place m a.kind (bytes_of a.n) a.offset a.turns) in
    decides_put s (define c.args.kind (bytes_of c.args.n) c.args.offset c.args.turns) a.k.first.place c.fresh_system-made.result number
    (rw made.name_value (le-leb a.n.len name_limit c.requires))
    (rw x (place_few s.volatile _ _ _ seen (bytes_of a.n), room s.volatile _ _ _ seen (bytes_of a.n) passed))
    (ap (with_volatile (state_of s)) next) refl
