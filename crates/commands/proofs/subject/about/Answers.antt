use Prim.Native.Nat.{ℕ}
use mathlib.Core.Path.{sym, ap, ◌∙◌}
use mathlib.Core.Bool.{not}
use mathlib.Core.Option.{Option}
use Rattle.model.specs.Lists.{there?}
use Rattle.model.specs.Memory.{Ref, ref_or, system_at}
use Rattle.model.proofs.Told.{told_value}
use Rattle.commands.proofs.Asked.{found_there}
use Rattle.commands.proofs.subject.about.Goals as goal

pub returns : goal.returns
returns c =
    λ m place kind.
    let l = m.systems in
    let at = c.found_at-found.ensures in
    let told = at.told l m.enabled place in
    let found = sym (told_value 7 _ _ told) in
    let there = kind ∙ ap (λ (q : ℕ). (system_at l q).kind) (sym at.place_value) in
    let group = c.group_found-group.ensures l there ∙ ap (λ (o : Option Ref). (ref_or o).group) found in
    record {
      found_is = told;
      absent_is = ap not (found_there l c.found_at-found.result ∙ ap there? found);
      reserved_is = c.reserved_name.ensures;
      meant_is = λ i. record { place = place i; group = group i; kind = (kind ∙ ap (λ (q : ℕ). (system_at l q).kind) place) i };
    }
