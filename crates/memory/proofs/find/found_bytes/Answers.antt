use mathlib.Core.Path.{◌≡◌, refl, sym, ◌∙◌}
use native.Mathlib.Omega.{arith}
use borrow.Author.Tests.{lt-ltb, le-ltb}
use Rattle.model.specs.Memory.{is_user, find}
use Rattle.model.specs.Told.{or_number}
use Rattle.memory.specs.Found.{found_told, found_place}
use Rattle.memory.proofs.find.found_bytes.Goals as goal

pub returns-then-place-gt0 : goal.returns-then-place-gt0
unfolding find is_user or_number found_told found_place
returns-then-place-gt0 c = record {
  told = λ l e q. rw (← q, lt-ltb 0 _ c.if-place-gt0.true);
  place_value = refl;
  real = c.if-place-gt0.true;
}

pub returns : goal.returns
unfolding find is_user
returns c =
    let z : c.args.place ≡ 0 = omega arith in
    let fixed = c.fixed_named.ensures in record {
      told = λ l e q. rw (← q, le-ltb 0 _ c.if-place-gt0.false) (fixed.told l);
      place_value = fixed.place_value ∙ sym z;
      real = fixed.real;
    }
