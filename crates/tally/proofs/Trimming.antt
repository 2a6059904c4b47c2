-- Laws of `trimmed`: what is cut off are zeros, so it shows in no count, no sum and no line; and of one outcome that is counted at its place.
use Prim.Native.Nat.{ℕ, zero, suc, ◌+◌, ◌≤◌, ◌<◌}
use mathlib.Core.Path.{◌≡◌, refl, sym, ap, ◌∙◌}
use mathlib.Core.List.{List, [], ◌∷◌, ◌++◌}
use mathlib.Core.Bool.{Bool, true, false, cond, ◌&&◌}
use mathlib.Core.Logic.{⊎_elim}
use native.Mathlib.Numerals.{add-one}
use native.Mathlib.Omega.{arith}
use borrow.Author.Tests.{eqb-true, ne_eqb, lt-ltb, le-ltb}
use lib.Dec.{eqb}
use lib.ListN.{length, get_or, set, drop, replicate}
use Rattle.model.specs.Lists.{none?}
use Rattle.model.specs.Limits.{most_counted}
use Rattle.model.specs.Tally.{one_more, counted, refused_line, refused_lines, sum, Sums}
use Rattle.model.proofs.Basics.{either, true_false, and_split, and_false}
use Rattle.model.proofs.Histories.Tally.{counts_one, counts_none}
use Rattle.tally.specs.Trimmed.{before, trimmed, tally_with}

-- ---- a count before others

-- where it is not cut off
before_kept : (c : ℕ) (cs : List ℕ) → eqb c 0 && none? cs ≡ false → before c cs ≡ c ∷ cs
before_kept c cs e = rw e refl

-- where it is, it is 0, and nothing stands behind it
before_cut : (c : ℕ) (cs : List ℕ) → eqb c 0 && none? cs ≡ true → (c ≡ 0) × (cs ≡ [])
unfolding none?
before_cut c [] e = (eqb-true c 0 (and_split (eqb c 0) true e).0, refl)
before_cut c (d ∷ cs) e = true_false (sym (and_split (eqb c 0) false e).1)

-- so a law of counts that holds of a 0 with nothing behind it holds of it
module _ (c : ℕ) (cs : List ℕ) {A : Type 0} (f : List ℕ → A) (none : f [] ≡ f (0 ∷ [])) where
  before_law : f (before c cs) ≡ f (c ∷ cs)
  before_law =
      ⊎_elim
      (λ e. let z = before_cut c cs e in ap (λ (b : Bool). f (cond b [] (c ∷ cs))) e ∙ none ∙ (λ i. f (sym z.0 i ∷ sym z.1 i)))
      (λ e. ap f (before_kept c cs e))
      (either (eqb c 0 && none? cs))

-- ---- counts, sums, lines

pub trimmed_get : (cs : List ℕ) (n : ℕ) → get_or (trimmed cs) n 0 ≡ get_or cs n 0
unfolding trimmed
trimmed_get [] n = refl
trimmed_get (c ∷ cs) zero = before_law c (trimmed cs) (λ (l : List ℕ). get_or l 0 0) refl
trimmed_get (c ∷ cs) (suc n) = before_law c (trimmed cs) (λ (l : List ℕ). get_or l (suc n) 0) refl ∙ trimmed_get cs n

pub trimmed_sum : (cs : List ℕ) → sum (trimmed cs) ≡ sum cs
unfolding trimmed sum
trimmed_sum [] = refl
trimmed_sum (c ∷ cs) = before_law c (trimmed cs) sum refl ∙ ap (λ (s : ℕ). c + s) (trimmed_sum cs)

pub trimmed_rest : (cs : List ℕ) → drop 1 (trimmed cs) ≡ trimmed (drop 1 cs)
unfolding trimmed
trimmed_rest [] = refl
trimmed_rest (c ∷ cs) = before_law c (trimmed cs) (drop 1) refl

pub trimmed_lines : (cs : List ℕ) (n : ℕ) → refused_lines n (trimmed cs) ≡ refused_lines n cs
unfolding trimmed refused_lines refused_line
trimmed_lines [] n = refl
trimmed_lines (c ∷ cs) n = before_law c (trimmed cs) (refused_lines n) refl ∙ ap (λ (t : List ℕ). refused_line n c ++ t) (trimmed_lines cs (suc n))

pub trimmed_zeros : (n : ℕ) → trimmed (replicate n 0) ≡ []
unfolding trimmed none?
trimmed_zeros zero = refl
trimmed_zeros (suc n) = ap (before 0) (trimmed_zeros n)

-- no count is beyond the sum
pub count_within : (cs : List ℕ) (n : ℕ) → get_or cs n 0 ≤ sum cs
unfolding sum
count_within [] n = omega arith
count_within (c ∷ cs) zero = omega arith
count_within (c ∷ cs) (suc n) = omega (arith, count_within cs n)

-- ---- one more

-- behind one more nothing is cut off
more_there : (cs : List ℕ) (n : ℕ) → none? (one_more cs n) ≡ false
unfolding none? one_more
more_there [] zero = refl
more_there [] (suc n) = refl
more_there (c ∷ cs) zero = refl
more_there (c ∷ cs) (suc n) = refl

pub trimmed_more : (cs : List ℕ) (n : ℕ) → n < length cs → trimmed (set cs n (get_or cs n 0 + 1)) ≡ one_more (trimmed cs) n
unfolding trimmed one_more
trimmed_more [] n h = absurd (omega arith)
trimmed_more (c ∷ cs) zero h =
    rw (add-one c) (before_kept (suc c) (trimmed cs) (ap (λ (b : Bool). b && none? (trimmed cs)) (ne_eqb (suc c) 0 (λ e. absurd (omega arith)))))
    ∙ sym (before_law c (trimmed cs) (λ (l : List ℕ). one_more l 0) refl)
trimmed_more (c ∷ cs) (suc n) h =
    ap (before c) (trimmed_more cs n (omega arith))
    ∙ before_kept c (one_more (trimmed cs) n) (ap (λ (b : Bool). eqb c 0 && b) (more_there (trimmed cs) n) ∙ and_false (eqb c 0))
    ∙ sym (before_law c (trimmed cs) (λ (l : List ℕ). one_more l (suc n)) refl)

-- ---- one outcome, over the places

module _ (cs : List ℕ) (total n : ℕ) where
  -- below the last total the count has room too
  pub count_fits : Sums (tally_with cs total) → get_or cs n 0 ≤ total
  count_fits e = omega (arith, count_within cs n, trimmed_sum cs, e)

  pub count_one : n < length cs → total < most_counted → tally_with (set cs n (get_or cs n 0 + 1)) (total + 1) ≡ counted (tally_with cs total) n
  count_one h below =
      (λ i. record { counts = trimmed_more cs n h i; total = add-one total i }) ∙ sym (counts_one (tally_with cs total) n (lt-ltb total most_counted below))

  pub count_none : total ≡ most_counted → tally_with cs total ≡ counted (tally_with cs total) n
  count_none e = sym (counts_none (tally_with cs total) n (le-ltb total most_counted (omega arith)))
