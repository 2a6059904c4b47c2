-- Document 02 §14: a sheet of all sixty-four triples of quarter turns, as they are typed and as they are shown. The text first, and then what is claimed of
-- it; `all_on_the_sheet` in proofs/Poses/Sheet proves that.
use Rattle.std.specs.Prelude.{◌≤◌, ◌≡◌, ◌*◌, ◌/◌, ◌^◌, ◌∷◌, ◌++◌, ◌&&◌, ◌||◌}
use Rattle.model.specs.Base.{ℕ, List, [], map, Bool, true, eqb, ltb, length, get_or, take, drop}
use Rattle.model.specs.Types.{Turns}
use Rattle.model.specs.Ascii.{ascii}
use Rattle.model.specs.Lists.{kept, different, table, same, pieces, joined}
use Rattle.model.specs.Limits.{million, quarter_turn, whole_turn}
use Rattle.model.specs.Pose.{rot_of, triple, place, shown}
use Rattle.model.specs.WellFormed.{turns_fine}
use Rattle.model.specs.Reply.{decimal}
use Rattle.model.specs.Trace.{input_lines}

-- ---- the text

-- [02 §14] words, with one space between
unfoldable pub spaced : List (List ℕ) → List ℕ
spaced [] = []
spaced (w ∷ []) = w
spaced (w ∷ v ∷ ws) = joined (w ∷ ascii " " ∷ spaced (v ∷ ws) ∷ [])

-- [02 §14] so many quarter turns in whole degrees
abbrev pub whole_degrees : ℕ → List ℕ
whole_degrees n = decimal (n * quarter_turn / million)

-- [02 §14] the line of a triple: the typed angles about X, Y and Z, then those that it is shown with, and LF
unfoldable pub sheet_line : Turns → List ℕ
sheet_line t =
    let s = shown (rot_of t) in
    spaced (whole_degrees t.u ∷ whole_degrees t.v ∷ whole_degrees t.w ∷ whole_degrees s.u ∷ whole_degrees s.v ∷ whole_degrees s.w ∷ []) ++ ascii "\n"

-- [02 §14] how many triples of 0 to 3 quarter turns there are
abbrev pub triple_count : ℕ
triple_count = whole_turn ^ 3

-- [02 §14] they in dictionary order, and a line for each
unfoldable pub triples : List Turns
triples = table triple_count triple

unfoldable pub sheet : List ℕ
sheet = joined (map sheet_line triples)

-- ---- what is claimed of it, as it stands there in bytes

-- [02 §14] the lines that the LFs end
unfoldable pub sheet_lines : List (List ℕ)
sheet_lines = input_lines (pieces 10 sheet)

-- [02 §14] a triple as it stands there: U, V and W
unfoldable pub angles : Turns → List ℕ
angles t = spaced (whole_degrees t.u ∷ whole_degrees t.v ∷ whole_degrees t.w ∷ [])

-- [02 §14] the first three words of a line, and the rest of it
abbrev pub typed_in : List ℕ → List ℕ
typed_in line = spaced (take 3 (pieces 32 line))

abbrev pub shown_in : List ℕ → List ℕ
shown_in line = spaced (drop 3 (pieces 32 line))

-- [02 §14] the places, from 0 on, of the lines in which a triple is the typed one
unfoldable pub places_of : Turns → List ℕ
places_of t = kept (λ k. same (typed_in (get_or sheet_lines k [])) (angles t)) (table (length sheet_lines) (λ k. k))

-- [02 §14; Poses] dictionary order: the first angle that differs is less
abbrev pub earlier : Turns → Turns → Bool
earlier s t = ltb s.u t.u || (eqb s.u t.u && (ltb s.v t.v || (eqb s.v t.v && ltb s.w t.w)))

-- [02 §14] what the sheet says of a triple: it has exactly one line, at its place in dictionary order; there its shown triple follows, which is one of 0 to 3
-- quarter turns, names the same rotation, and is the first that does
pub record OnSheet (t : Turns) : Type 0 where
  pub one_line : places_of t ≡ place t ∷ []
  pub order : (s : Turns) → turns_fine s ≡ true → earlier s t ≡ ltb (place s) (place t)
  pub shows : shown_in (get_or sheet_lines (place t) []) ≡ angles (shown (rot_of t))
  pub quarters : turns_fine (shown (rot_of t)) ≡ true
  pub names : rot_of (shown (rot_of t)) ≡ rot_of t
  pub first : (s : Turns) → rot_of s ≡ rot_of t → place (shown (rot_of t)) ≤ place s

-- [02 §14] each triple with less than a whole turn about every axis is on the sheet, nothing but lines is, and they are 64, with 24 different shown triples;
-- and this is how angles are written
pub record Sheet : Type 0 where
  pub each : (t : Turns) → turns_fine t ≡ true → OnSheet t
  pub ended : sheet ≡ joined (map (◌++ ascii "\n") sheet_lines)
  pub lines : length sheet_lines ≡ 64
  pub shown_triples : length (different (map shown_in sheet_lines)) ≡ 24
  pub degrees : map whole_degrees (0 ∷ 1 ∷ 2 ∷ 3 ∷ []) ≡ ascii "0" ∷ ascii "90" ∷ ascii "180" ∷ ascii "270" ∷ []
