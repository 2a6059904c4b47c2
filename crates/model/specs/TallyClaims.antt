-- Document 02 §10: what is claimed of a tally, and of what ksrun counts. The statements only; they are proved in proofs/Histories/Tally.
use Rattle.std.specs.Prelude.{◌≡◌, ◌+◌, ◌∷◌, ◌++◌}
use Rattle.model.specs.Base.{ℕ, suc, List, [], map, Bool, true, cond, eqb, leb, ltb, length, take}
use Rattle.model.specs.Ascii.{ascii}
use Rattle.model.specs.Lists.{all, kept, table, joined}
use Rattle.model.specs.Limits.{most_counted}
use Rattle.model.specs.Memory.{State}
use Rattle.model.specs.Tally.{Tally, count_of, counted_all, tallied, tally_line, tally_text, Sums}
use Rattle.model.specs.Trace.{outcomes}

-- [02 §10] how many of the outcomes have this number, and whether any has
unfoldable pub occurrences : ℕ → List ℕ → ℕ
occurrences n [] = 0
occurrences n (o ∷ os) = cond (eqb o n) 1 0 + occurrences n os

abbrev pub occurs : ℕ → List ℕ → Bool
occurs n os = ltb 0 (occurrences n os)

-- [02 §10] the outcomes that are counted
abbrev pub counting : List ℕ → List ℕ
counting os = take most_counted os

-- [02 §10] what a tally says of any list of outcomes
pub record Tells (os : List ℕ) : Type 0 where
  -- each count is how many of the first outcomes had that number
  pub counts : (n : ℕ) → count_of (tallied os) n ≡ occurrences n (counting os)
  -- the total is the sum of the counts, and how many were counted
  pub sums : Sums (tallied os)
  pub total : (tallied os).total ≡ length (counting os)
  -- what is printed: the accepted and all that were counted; then, of the numbers from 1 to one that no outcome is above, those that occurred, and how often
  pub text : (high : ℕ) → all (λ n. leb n high) os ≡ true →
      tally_text (tallied os)
      ≡ tally_line (ascii "T ") (occurrences 0 (counting os)) (length (counting os))
      ++ joined (map (λ n. tally_line (ascii "R ") n (occurrences n (counting os))) (kept (λ n. occurs n (counting os)) (table high suc)))

-- [02 §10] all of it
pub record TallyClaims : Type 0 where
  pub tells : (os : List ℕ) → Tells os
  -- a tally that has counted as many as it can stays, whatever comes
  pub stays : (t : Tally) (os : List ℕ) → t.total ≡ most_counted → counted_all t os ≡ t
  -- ksrun counts one outcome for each line
  pub lines : (st : State) (b : List ℕ) (ls : List (List ℕ)) → length (outcomes st b ls) ≡ length ls
