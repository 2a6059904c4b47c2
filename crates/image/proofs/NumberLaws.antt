-- What the number at the front of bytes is, by the first of them.
use Prim.Native.Nat.{ℕ, ◌+◌, ◌*◌, ◌-◌, ◌/◌, ◌≤◌, ◌<◌}
use mathlib.Core.Path.{◌≡◌, refl, ◌∙◌}
use mathlib.Core.List.{List, [], ◌∷◌}
use mathlib.Core.Bool.{Bool, true, false, cond}
use mathlib.Core.Option.{none, some}
use native.Mathlib.Omega.{arith}
use lib.Dec.{leb}
use lib.ListN.{length}
use borrow.Author.Tests.{lt-ltb}
use Rattle.std.specs.Bool.{then_some}
use Rattle.model.specs.Told.{or_number}
use Rattle.model.specs.Image.{above, shortest, within, up_to}
use Rattle.model.proofs.Image.Numbers.{shortest_last, shortest_more, within_above, within_one, above_zero}
use Rattle.image.specs.Views.{read_told}

-- a number is taken where the test lets it pass
number_within : (n most : ℕ) (rest : List ℕ) → read_told (λ k. k) (then_some (leb n most) n) rest ≡ or_number 14 (within most (some (n, rest)))
unfolding within or_number
number_within n most rest = cases (leb n most)
  where
    cases : (t : Bool) → read_told (λ k. k) (then_some t n) rest ≡ or_number 14 (cond t (some (n, rest)) none)
    cases true = refl
    cases false = refl

pub at_end : (most : ℕ) (bs : List ℕ) → length bs ≡ 0 → up_to most bs ≡ none
unfolding within shortest
at_end most [] e = refl
at_end most (b ∷ bs) e = absurd (omega arith)

module _ (b most : ℕ) (rest : List ℕ) where
  pub at_last : b < 128 → read_told (λ k. k) (then_some (leb b most) b) rest ≡ or_number 14 (up_to most (b ∷ rest))
  at_last h = rw (shortest_last b rest h) (number_within b most rest)

  module _ (g : 128 ≤ b) where
    at_more : up_to most (b ∷ rest) ≡ within most (above b (up_to (most / 128) rest))
    at_more = rw (shortest_more b rest g) (within_above most b (shortest rest))

    -- no group is left for the rest
    pub at_most : most < 128 → up_to most (b ∷ rest) ≡ none
    at_most m = at_more ∙ within_one most b (up_to (most / 128) rest) m

    pub rest_refused : up_to (most / 128) rest ≡ none → up_to most (b ∷ rest) ≡ none
    unfolding above within
    rest_refused e = at_more ∙ rw e

    module _ (high : ℕ) (left : List ℕ) (e : up_to (most / 128) rest ≡ some (high, left)) where
      pub rest_zero : high ≡ 0 → up_to most (b ∷ rest) ≡ none
      unfolding within
      rest_zero z = at_more ∙ rw (e, z, above_zero b left)

      pub rest_read : b < 256 → 0 < high
          → read_told (λ k. k) (then_some (leb (b - 128 + 128 * high) most) (b - 128 + 128 * high)) left ≡ or_number 14 (up_to most (b ∷ rest))
      unfolding above
      rest_read l p = number_within (b - 128 + 128 * high) most left ∙ rw (at_more, e, lt-ltb b 256 l, lt-ltb 0 high p)
