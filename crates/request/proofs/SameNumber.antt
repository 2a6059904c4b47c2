-- The number of a refused line is the ladder's.
use mathlib.Core.Path.{◌≡◌, refl, sym, ap, ◌∙◌}
use Rattle.std.proofs.Math.Option.{none}
use Rattle.model.specs.Memory.{State}
use Rattle.model.specs.Refusals.{first, reading_ladder}
use Rattle.model.specs.Request.{Request, Reading, unknown, malformed, beyond, asks}
use Rattle.model.specs.Told.{Told}
use Rattle.model.proofs.Basics.{none_some}
use Rattle.request.specs.Asked.{reading_told, SameNumber}

-- of a reading by itself
pub reading_number : (st : State) (reading : Reading) → (reading_told reading).value ≡ none → first (reading_ladder st reading) ≡ (reading_told reading).number
unfolding first reading_ladder
reading_number st unknown e = refl
reading_number st malformed e = refl
reading_number st beyond e = refl
reading_number st (asks q) e = none_some (sym e)

pub same_number : SameNumber
same_number st r reading s e =
    reading_number st reading (ap (λ (t : Told Request). t.value) (sym s.says) ∙ e) ∙ ap (λ (t : Told Request). t.number) (sym s.says)
