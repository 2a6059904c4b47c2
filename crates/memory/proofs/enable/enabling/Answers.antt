use Prim.Native.Nat.{ℕ, zero, suc}
use mathlib.Core.Path.{◌≡◌, refl, ap, ◌∙◌}
use Rattle.std.specs.Prelude.{Some}
use lib.Dec.{eqb-suc-zero}
use Rattle.model.specs.declared.Group.TheVariants.{Operating}
use Rattle.model.specs.Memory.{Memory, ref_or, user_ref, system_at}
use Rattle.model.specs.Effects.{enabling}
use Rattle.model.specs.Use.{in_group}
use Rattle.memory.specs.declared.find.Found.TheVariants.{User, Fixed}
use Rattle.memory.specs.Found.{found_told, found_place}
use Rattle.memory.proofs.enable.enabling.Goals as goal

-- a user system's own group plays no part
by_place : (level : ℕ) (m : Memory) (k : ℕ) → enabling level m (in_group Operating k) ≡ enabling level m (user_ref m.systems k)
unfolding enabling system_at
by_place level m zero = refl
by_place level m (suc k) = rw (eqb-suc-zero k)

pub returns-in_default : goal.returns-in_default
unfolding found_told found_place ref_or
returns-in_default c = rw c.in_default.is (λ l q. c.enabling_at.ensures l q)

pub returns-in-User : goal.returns-in-User
unfolding found_told found_place ref_or
returns-in-User c =
    let e : c.args.f ≡ Some (User c.in-User.place) = c.in-Some.is ∙ ap Some c.in-User.is in
    rw e (λ l q. c.enabling_at-in-User.ensures l q ∙ by_place _ _ _)

pub returns-in-Fixed : goal.returns-in-Fixed
unfolding found_told found_place ref_or
returns-in-Fixed c =
    let e : c.args.f ≡ Some (Fixed c.in-Fixed.group) = c.in-Some.is ∙ ap Some c.in-Fixed.is in
    rw e (λ l q. c.enabling_at-in-Fixed.ensures l q)
