-- Document 02 §10, a day's tally: how outcomes are counted, and what is printed of them. ksrun prints one (Trace.antt). An outcome is a line's number, 0 where
-- the line was accepted. What is claimed of it is in TallyClaims.antt.
use Rattle.std.specs.Prelude.{◌≡◌, ◌+◌, ◌∷◌, ◌++◌}
use Rattle.model.specs.Base.{ℕ, zero, suc, List, [], cond, eqb, ltb, get_or, drop}
use Rattle.model.specs.Ascii.{ascii}
use Rattle.model.specs.Lists.{joined}
use Rattle.model.specs.Limits.{most_counted}
use Rattle.model.specs.Reply.{decimal}

-- ---- counting

-- [02 §10] how many outcomes there were of each number, place by place from 0 on (numbers behind the last place had none), and how many in all
pub record Tally : Type 0 where
  pub counts : List ℕ
  pub total : ℕ

-- [02 §10] a tally's count of a number, and of the accepted lines
abbrev pub count_of : Tally → ℕ → ℕ
count_of t n = get_or t.counts n 0

abbrev pub accepted_of : Tally → ℕ
accepted_of t = count_of t 0

-- [02 §10] the empty tally
abbrev pub empty_tally : Tally
empty_tally = record { counts = []; total = 0 }

-- one more at a place
unfoldable pub one_more : List ℕ → ℕ → List ℕ
one_more [] zero = 1 ∷ []
one_more [] (suc n) = 0 ∷ one_more [] n
one_more (c ∷ cs) zero = suc c ∷ cs
one_more (c ∷ cs) (suc n) = c ∷ one_more cs n

-- [02 §10] the counts of a tally make up its total
unfoldable pub sum : List ℕ → ℕ
sum [] = 0
sum (c ∷ cs) = c + sum cs

abbrev pub Sums : Tally → Type 0
Sums t = sum t.counts ≡ t.total

-- [02 §10] one outcome is counted; a tally that has counted as many as it can stays
unfoldable pub counted : Tally → ℕ → Tally
counted t n = cond (ltb t.total most_counted) (record { counts = one_more t.counts n; total = suc t.total }) t

-- [02 §10] outcomes, one after the other; and from the empty tally on
unfoldable pub counted_all : Tally → List ℕ → Tally
counted_all t [] = t
counted_all t (n ∷ ns) = counted_all (counted t n) ns

abbrev pub tallied : List ℕ → Tally
tallied outcomes = counted_all empty_tally outcomes

-- ---- what is printed

-- a label, two numbers with one space between, and LF
unfoldable pub tally_line : List ℕ → ℕ → ℕ → List ℕ
tally_line label a b = joined (label ∷ decimal a ∷ ascii " " ∷ decimal b ∷ ascii "\n" ∷ [])

-- [02 §10] R, a number and its count, if the number occurred
unfoldable pub refused_line : ℕ → ℕ → List ℕ
refused_line n count = cond (eqb count 0) [] (tally_line (ascii "R ") n count)

-- [02 §10] these lines for counts whose first is that of number n, ascending
unfoldable pub refused_lines : ℕ → List ℕ → List ℕ
refused_lines n [] = []
refused_lines n (c ∷ cs) = refused_line n c ++ refused_lines (suc n) cs

-- [02 §10] T, the accepted and the total; then the refused
unfoldable pub tally_text : Tally → List ℕ
tally_text t = tally_line (ascii "T ") (accepted_of t) t.total ++ refused_lines 1 (drop 1 t.counts)
