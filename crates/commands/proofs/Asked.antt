-- What was seen of a name, against the definitions.
use Rattle.std.specs.Prelude.{Option, Some, is_some}
use Prim.Native.Nat.{ℕ}
use mathlib.Core.Path.{◌≡◌, refl, sym, ap, ◌∙◌}
use mathlib.Core.Bool.{Bool, true, false, not}
use mathlib.Core.List.{List}
use mathlib.Core.Option.{Option as ModelOption}
use Rattle.model.specs.Memory.{System, Memory, Ref, Meant, ref_or, find, system_at, place_named}
use Rattle.model.specs.Lists.{there?}
use Rattle.model.specs.Refusals.{absent}
use Rattle.model.proofs.Memories.Named.{named_place}
use Rattle.model.proofs.Told.{told_value}
use Rattle.memory.specs.declared.find.Found.{Found}
use Rattle.memory.specs.declared.find.Found.TheVariants.{User}
use Rattle.memory.specs.Found.{found_told, found_ref, found_place}
use Rattle.commands.specs.declared.subject.Subject.{Subject}
use Rattle.commands.specs.Subject.{Tells}

-- the place of what was found, and of the system that it is
found_place_lem : (l : List System) (f : Option Found) → found_place f ≡ (ref_or (found_ref l f)).place
unfolding found_place found_told ref_or
found_place_lem l (Some (User k)) = refl
found_place_lem l f = refl

-- something was found where there is a system
pub found_there : (l : List System) (f : Option Found) → is_some f ≡ there? (found_ref l f)
unfolding found_told there?
found_there l (Some (User k)) = refl
found_there l f = refl

module _ (m : Memory) (n : List ℕ) (x : Subject) (t : Tells m n x) where
  pub place_is : x.place ≡ place_named m.systems n
  place_is = ap (λ (y : Meant). y.place) t.meant_is

  -- the system that was found
  pub found_is : found_ref m.systems x.found ≡ find m n
  found_is = sym (told_value 7 (find m n) (found_told m.systems x.found) t.found_is)

  -- the test that nothing was found says that no system has the name
  pub absent_is : {none : Bool} → is_some x.found ≡ not none → none ≡ absent m n
  absent_is {none} e = twice none ∙ ap not (sym e) ∙ t.absent_is
    where
      twice : (b : Bool) → b ≡ not (not b)
      twice true = refl
      twice false = refl

  -- the type of what was found
  pub found_kind : x.kind ≡ (system_at m.systems (found_place x.found)).kind
  found_kind =
      let place = found_place_lem m.systems x.found ∙ ap (λ (o : ModelOption Ref). (ref_or o).place) found_is ∙ named_place m n in
      ap (λ (y : Meant). y.kind) t.meant_is ∙ ap (λ (q : ℕ). (system_at m.systems q).kind) (sym place)
