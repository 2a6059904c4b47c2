-- The text of a tally, part by part, in the order in which they are written.
use Prim.Native.Nat.{ℕ, suc, ◌+◌, ◌*◌, ◌^◌, ◌≤◌, ◌<◌}
use mathlib.Core.Path.{◌≡◌, refl, sym, ap, ◌∙◌}
use mathlib.Core.List.{List, [], ◌∷◌, ◌++◌}
use mathlib.Core.Logic.{⊎_elim}
use native.Mathlib.Numerals.{add-one}
use native.Mathlib.Omega.{arith}
use borrow.Author.Tests.{eqb-true, eqb-false, eq-eqb, ne_eqb}
use lib.Dec.{eqb}
use lib.ListN.{length, get_or, drop, length-append, length-drop, drop_of_length-le}
use lib.Seq.{drop-cons}
use Rattle.model.specs.Ascii.{ascii}
use Rattle.model.specs.Lists.{joined}
use Rattle.model.specs.Reply.{decimal}
use Rattle.model.specs.Tally.{tally_line, refused_line, refused_lines, tally_text, sum, Sums}
use Rattle.model.proofs.Basics.{either}
use Rattle.model.proofs.Digits.{decimal_short}
use Rattle.tally.specs.declared.Tally.{Tally as StoredTally}
use Rattle.tally.specs.Counts.{numbers, tally_of, longest_tally}
use Rattle.tally.proofs.Trimming.{trimmed_get, trimmed_sum, trimmed_rest, trimmed_lines, count_fits}

-- ---- a line

module _ (label : List ℕ) (a b : ℕ) where
  pub line_parts : tally_line label a b ≡ label ++ (decimal a ++ (32 ∷ (decimal b ++ (10 ∷ []))))
  unfolding tally_line joined
  line_parts = refl

  pub length_line : length (tally_line label a b) ≡ length label + length (decimal a) + length (decimal b) + 2
  length_line = ap length line_parts ∙ simp length-append (omega arith)

-- a line whose numbers have twenty digits at most
twenty : (n : ℕ) → n < 2 ^ 64 → length (decimal n) ≤ 20
twenty n h = decimal_short 20 n (omega arith) (omega arith)

line_short : (label : List ℕ) (a b : ℕ) → a < 2 ^ 64 → b < 2 ^ 64 → length (tally_line label a b) ≤ length label + 42
line_short label a b h k = omega (arith, length_line label a b, twenty a h, twenty b k)

-- ---- the line of a number

module _ (n count : ℕ) where
  pub line_none : count ≡ 0 → refused_line n count ≡ []
  unfolding refused_line
  line_none e = rw (eq-eqb count 0 e) refl

  pub line_there : (count ≡ 0 → ⊥) → refused_line n count ≡ tally_line (ascii "R ") n count
  unfolding refused_line
  line_there e = rw (ne_eqb count 0 e) refl

-- ---- of counts of the numbers from 1 on, the lines that are left from a place on

abbrev pub lines_from : List ℕ → ℕ → List ℕ
lines_from counts n = refused_lines (n + 1) (drop n counts)

pub lines_turn : (counts : List ℕ) (n : ℕ) → n < length counts → lines_from counts n ≡ refused_line (n + 1) (get_or counts n 0) ++ lines_from counts (n + 1)
unfolding refused_lines
lines_turn counts n h = rw (drop-cons counts n 0 h, add-one, add-one) refl

pub lines_end : (counts : List ℕ) (n : ℕ) → length counts ≤ n → lines_from counts n ≡ []
unfolding refused_lines
lines_end counts n h = rw (drop_of_length-le counts h) refl

-- ---- how long they are

sum_rest : (cs : List ℕ) → sum (drop 1 cs) ≤ sum cs
unfolding sum
sum_rest [] = omega arith
sum_rest (c ∷ cs) = omega arith

-- of counts whose sum has twenty digits, at numbers of three
refused_short : (n c : ℕ) → n < 1000 → c < 2 ^ 64 → length (refused_line n c) ≤ 27
refused_short n c h k =
    ⊎_elim
    (λ e. rw (line_none n c (eqb-true c 0 e)) (omega arith))
    (λ e. rw (line_there n c (eqb-false c 0 e)) (omega (arith, length_line (ascii "R ") n c, decimal_short 3 n (omega arith) (omega arith), twenty c k)))
    (either (eqb c 0))

lines_short : (cs : List ℕ) (n : ℕ) → sum cs < 2 ^ 64 → n + length cs ≤ 1000 → length (refused_lines n cs) ≤ 27 * length cs
unfolding refused_lines sum
lines_short [] n h k = omega arith
lines_short (c ∷ cs) n h k =
    omega (arith, length-append (refused_line n c) (refused_lines (suc n) cs), refused_short n c (omega arith) (omega arith), lines_short cs (suc n) (omega arith) (omega arith))

-- ---- the whole

module _ (t : StoredTally) where
  abbrev first_line : List ℕ
  first_line = tally_line (ascii "T ") (get_or t.counts 0 0) t.total

  pub text_parts : tally_text (tally_of t) ≡ first_line ++ refused_lines 1 (drop 1 t.counts)
  unfolding tally_text
  text_parts =
      λ i. tally_line (ascii "T ") (trimmed_get t.counts 0 i) t.total
      ++ (ap (refused_lines 1) (trimmed_rest t.counts) ∙ trimmed_lines (drop 1 t.counts) 1) i

  pub length_text : length (tally_text (tally_of t)) ≡ length first_line + length (refused_lines 1 (drop 1 t.counts))
  length_text = ap length text_parts ∙ length-append first_line (refused_lines 1 (drop 1 t.counts))

  -- twenty digits for a count and three for a number
  pub text_short : Sums (tally_of t) → t.total < 2 ^ 64 → length t.counts ≡ numbers → length (tally_text (tally_of t)) ≤ longest_tally
  text_short sums small long =
      let cs = t.counts in
      let all : sum cs ≡ t.total = sym (trimmed_sum cs) ∙ sums in
      let first = line_short (ascii "T ") (get_or cs 0 0) t.total (omega (arith, count_fits cs t.total 0 sums)) (omega arith) in
      omega (arith, length_text, first, lines_short (drop 1 cs) 1 (omega (arith, all, sum_rest cs)) (omega (arith, length-drop 1 cs)), length-drop 1 cs)
