-- What is claimed of the definitions here beside what the functions promise: read by a cursor and byte by byte, a line says what document 01 says.
use Rattle.std.specs.Prelude.{ℕ, ◌<◌, ◌≡◌, true, List, [], ◌∷◌, ℤ, nat_abs}
use Rattle.std.proofs.Math.Option.{some}
use Rattle.model.specs.Reply.{value}
use Rattle.model.specs.Words.{number, offset?}
use Rattle.text.specs.declared.numbers.Num.TheVariants.{Start}
use Rattle.text.specs.declared.words.Word.{Word}
use Rattle.text.specs.Cursor.{next_word, word_of, words_from}
use Rattle.text.specs.Numbers.{folded, valued, bound}

-- [A line] the words from a place on: none where the cursor's word w is empty, else this word and those behind it
pub record FirstWord (line : List ℕ) (at : ℕ) (w : Word) : Type 0 where
  pub none : w.start ≡ w.end → words_from line at ≡ []
  pub more : (w.start ≡ w.end → ⊥) → words_from line at ≡ word_of line w ∷ words_from line w.end

-- [A line] so a caller that goes from word to word from place 0 on reads the words of the line
abbrev pub WordByWord : Type 0
WordByWord = (line : List ℕ) (at : ℕ) (w : Word) → w ≡ next_word line at → FirstWord line at w

-- [A line] a word read byte by byte is the number that it spells, or none
abbrev pub ByteByByte : Type 0
ByteByByte = (w : List ℕ) → number w ≡ valued (folded Start w)

-- [A line; Commands, values] a value that is printed is read back as itself, with up to four digits before the point
abbrev pub PrintedThenRead : Type 0
PrintedThenRead = (z : ℤ) → nat_abs z < bound → number (value z) ≡ some z

-- [02 §4] every offset within the limit can be typed, as it is printed: the wider limit too has four digits before the point
abbrev pub WholeRangeTyped : Type 0
WholeRangeTyped = (z : ℤ) → offset? z ≡ true → number (value z) ≡ some z
