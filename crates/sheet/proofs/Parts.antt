-- A line of the sheet and its angles, part by part, in the order in which they are written.
use Prim.Native.Nat.{ℕ, ◌+◌, ◌≤◌, ◌<◌}
use mathlib.Core.Path.{◌≡◌, refl, ap, ◌∙◌}
use mathlib.Core.List.{List, [], ◌∷◌, ◌++◌, map, append_assoc, append-nil}
use native.Mathlib.Omega.{arith}
use lib.Dec.{leb→le}
use lib.ListN.{length, drop, get_or, length-append}
use Rattle.model.specs.declared.Turns.{Turns}
use Rattle.model.specs.Lists.{joined}
use Rattle.model.specs.Limits.{buffer_limit}
use Rattle.model.specs.Pose.{rot_of, triple, shown}
use Rattle.model.specs.Sheet.{spaced, whole_degrees, sheet_line, triple_count, triples, sheet, angles}
use Rattle.model.proofs.Basics.{length_table, table_at}
use Rattle.model.proofs.Open.{definitions_open}
use Rattle.print.proofs.Left.{texts_turn, texts_end}

spaced_three : (a b c : List ℕ) → spaced (a ∷ b ∷ c ∷ []) ≡ a ++ (32 ∷ (b ++ (32 ∷ c)))
unfolding spaced joined
spaced_three a b c = simp append-nil

spaced_six : (a b c d e f : List ℕ) → spaced (a ∷ b ∷ c ∷ d ∷ e ∷ f ∷ []) ≡ spaced (a ∷ b ∷ c ∷ []) ++ (32 ∷ spaced (d ∷ e ∷ f ∷ []))
unfolding spaced joined
spaced_six a b c d e f = simp (append_assoc, append-nil)

module _ (t : Turns) where
  pub angles_parts : angles t ≡ whole_degrees t.u ++ (32 ∷ (whole_degrees t.v ++ (32 ∷ whole_degrees t.w)))
  unfolding angles
  angles_parts = spaced_three (whole_degrees t.u) (whole_degrees t.v) (whole_degrees t.w)

  pub length_angles : length (angles t) ≡ length (whole_degrees t.u) + length (whole_degrees t.v) + length (whole_degrees t.w) + 2
  length_angles = ap length angles_parts ∙ simp length-append (omega arith)

  module _ (s : Turns) (e : s ≡ shown (rot_of t)) where
    pub line_parts : sheet_line t ≡ angles t ++ (32 ∷ (angles s ++ (10 ∷ [])))
    unfolding sheet_line angles
    line_parts =
        rw (← e, spaced_six (whole_degrees t.u) (whole_degrees t.v) (whole_degrees t.w) (whole_degrees s.u) (whole_degrees s.v) (whole_degrees s.w))
        (append_assoc (angles t) (32 ∷ angles s) (10 ∷ []))

    pub length_line : length (sheet_line t) ≡ length (angles t) + length (angles s) + 2
    length_line = ap length line_parts ∙ simp length-append (omega arith)

-- ---- the triples

pub triples_count : length triples ≡ triple_count
unfolding triples
triples_count = length_table triple_count triple

pub triples_at : (k : ℕ) → k < triple_count → get_or triples k (triple 0) ≡ triple k
unfolding triples
triples_at k h = table_at triple_count triple (triple 0) k h

-- ---- the lines that are left from the k-th on

abbrev pub lines_from : ℕ → List ℕ
lines_from k = joined (map sheet_line (drop k triples))

pub lines_all : sheet ≡ lines_from 0
unfolding sheet
lines_all = refl

pub lines_turn : (k : ℕ) → k < triple_count → lines_from k ≡ sheet_line (triple k) ++ lines_from (k + 1)
lines_turn k h = rw (← triples_at k h) (texts_turn sheet_line triples k (triple 0) (omega (arith, triples_count)))

pub lines_end : (k : ℕ) → triple_count ≤ k → lines_from k ≡ []
lines_end k h = texts_end sheet_line triples k (omega (arith, triples_count))

-- ---- the whole

pub sheet_short : length sheet ≤ buffer_limit
unfolding definitions_open
sheet_short = leb→le (length sheet) buffer_limit tt
