use mathlib.Core.Path.{◌≡◌, sym, ap, ◌∙◌}
use Rattle.model.specs.Memory.{System, system_at}
use Rattle.model.specs.Request.{remove}
use Rattle.model.specs.Stored.{system_of, systems_of, memory_of, state_of}
use Rattle.model.proofs.Memories.Named.{user_place, place_name}
use borrow.Author.Tests.{eqb-false}
use Rattle.commands.proofs.Settled.{not_zero}
use Rattle.commands.proofs.Asked.{place_is}
use Rattle.commands.proofs.Carried.{decides_handed_on}
use Rattle.commands.proofs.Removal.{refused_by_volatile, remove_user, decides_removal}
use Rattle.commands.proofs.systems.remove.Goals as goal

pub returns-in_err-judge_remove : goal.returns-in_err-judge_remove
returns-in_err-judge_remove c = λ s x y level seen. decides_handed_on s (remove x) _ c.from_residual.result c.from_residual.ensures.1 (let number = c.in_err-judge_remove.ensures s.volatile x y seen (state_of s) level in number ∙ refused_by_volatile (state_of s) x (λ z. eqb-false _ 0 (not_zero _) (number ∙ z)))

pub returns : goal.returns
returns c =
    λ s x y level seen.
    let a = c.args in
    let m = memory_of s.volatile in
    let number = c.in_ok-judge_remove.ensures s.volatile x y seen (state_of s) level in
    let z = sym number in
    let place = place_is m x _ seen.first in
    let at = user_place m x (remove_user (state_of s) x z) in
    let name : (system_of a.k.source).name ≡ x = ap (λ (y : System). y.name) (seen.source ∙ ap (system_at (systems_of s.volatile)) place) ∙ place_name (systems_of s.volatile) x at in
    decides_removal s x z a.k.first.place a.k.source place name seen.named
