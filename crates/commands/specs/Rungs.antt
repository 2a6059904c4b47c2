-- One ladder for every change of the systems.
use Rattle.model.specs.Base.{ℕ, List, map, Bool, false, cond, eqb}
use Rattle.model.specs.Refusals.{Rung, precedence}
use Rattle.commands.specs.declared.numbers.Rungs.{Rungs}

-- [Errors 6 to 13; 02 §1] the condition of a number; it is false for a number that is not among these
abbrev pub condition : Rungs → ℕ → Bool
condition r n =
    cond (eqb n 6) r.beyond
    (cond (eqb n 7) r.absent
    (cond (eqb n 8) r.reserved
    (cond (eqb n 9) r.locked
    (cond (eqb n 10) r.other
    (cond (eqb n 11) r.used
    (cond (eqb n 12) r.ring
    (cond (eqb n 15) r.aslant
    (cond (eqb n 13) r.full false))))))))

-- [Errors, end] the numbers in their precedence, with these conditions
abbrev pub rungs_of : Rungs → List Rung
rungs_of r = map (λ n. (n, condition r n)) precedence
