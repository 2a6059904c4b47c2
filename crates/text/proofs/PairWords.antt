-- One axis pair where its two words stand in a line.
use Prim.Native.Nat.{ℕ, zero, suc, ◌+◌, ◌<◌}
use mathlib.Core.Path.{◌≡◌, refl, sym, ap, ◌∙◌}
use mathlib.Core.List.{List, ◌∷◌}
use mathlib.Core.Bool.{true, false}
use mathlib.Core.Option.{none, some}
use native.Mathlib.Omega.{arith}
use lib.IntN.{ℤ}
use lib.ListN.{drop, set}
use Rattle.model.specs.declared.Kind.{Kind}
use Rattle.model.specs.Request.{Values, axis, may_come, pairs}
use Rattle.model.proofs.Basics.{none_some}
use Rattle.text.specs.declared.numbers.Num.TheVariants.{Start}
use Rattle.text.specs.declared.words.Word.{Word}
use Rattle.text.specs.Cursor.{run, next_word, word_of, words_from}
use Rattle.text.specs.Numbers.{folded, valued}
use Rattle.text.proofs.NumberBytes.{rest, fold_end}
use Rattle.text.proofs.NumberLaws.{number_read}
use Rattle.text.proofs.PairLaws.{pairs_none, pairs_short, pairs_number, pairs_on, pairs_axis}
use Rattle.text.proofs.WordLaws.{start_from, none_left, one_left, word_by_word}

module _ (k : Kind) (line : List ℕ) (at : ℕ) (a : Word) (e : a ≡ next_word line at) (vs : Values) where
  -- no word is left
  pub line_end : a.start ≡ a.end → pairs k (words_from line at) vs ≡ some vs
  line_end h = rw ((word_by_word line at a e).none h) (pairs_none k vs)

  module _ (h : a.start ≡ a.end → ⊥) where
    -- the axis may not come
    pub line_axis : may_come k (axis (word_of line a)) vs ≡ false → pairs k (words_from line at) vs ≡ none
    line_axis m = rw ((word_by_word line at a e).more h) (pairs_axis k (word_of line a) vs (words_from line a.end) m)

    abbrev s : ℕ
    s = start_from line a.end

    -- the value is missing or malformed
    number_case : (r : ℕ) → run (drop s line) ≡ r → valued (folded Start (rest line s)) ≡ none → pairs k (word_of line a ∷ words_from line a.end) vs ≡ none
    number_case zero q v = rw (none_left line a.end q) (pairs_short k (word_of line a) vs)
    number_case (suc r) q v =
        rw (one_left line a.end (omega arith))
        (pairs_number k (word_of line a) vs (rest line s) (words_from line (s + run (drop s line))) (number_read (rest line s) ∙ v))

    pub line_number : valued (folded Start (rest line s)) ≡ none → pairs k (words_from line at) vs ≡ none
    line_number v = rw ((word_by_word line at a e).more h) (number_case (run (drop s line)) refl v)

    -- a pair is read
    module _ (z : ℤ) (v : valued (folded Start (rest line s)) ≡ some z) where
      full : (r : ℕ) → run (drop s line) ≡ r → 0 < run (drop s line)
      full zero q = none_some (ap valued (sym (fold_end line s Start q)) ∙ v)
      full (suc r) q = omega arith

      pub line_on : may_come k (axis (word_of line a)) vs ≡ true →
          pairs k (words_from line at) vs ≡ pairs k (words_from line (s + run (drop s line))) (set vs (axis (word_of line a)) (some z))
      line_on m =
          rw ((word_by_word line at a e).more h, one_left line a.end (full (run (drop s line)) refl))
          (pairs_on k (word_of line a) vs (rest line s) (words_from line (s + run (drop s line))) z m (number_read (rest line s) ∙ v))
