-- Words of a line by a cursor. That they are those of document 01 is claimed in Claims.antt.
use Rattle.std.specs.Prelude.{ℕ, suc, ◌+◌, ◌-◌, ◌≤◌, List, [], ◌∷◌, map, Bool, true, false, cond, eqb, length, take, drop}
use Rattle.std.specs.Bool.{beq}
use Rattle.model.specs.Words.{words, upper}
use Rattle.text.specs.declared.words.Word.{Word}

-- how many bytes stand first that are spaces (true), or that are none (false)
unfoldable pub lead : Bool → List ℕ → ℕ
lead spaces [] = 0
lead spaces (b ∷ bs) = cond (beq (eqb b 32) spaces) (suc (lead spaces bs)) 0

abbrev pub blanks : List ℕ → ℕ
blanks l = lead true l

abbrev pub run : List ℕ → ℕ
run l = lead false l

-- the next word from a place on; it is empty where none is left
abbrev pub next_word : List ℕ → ℕ → Word
next_word line at =
    let start = at + blanks (drop at line) in
    record { start = start; end = start + run (drop start line) }

-- n bytes of a line from a place on, lower case letters as upper case
abbrev pub word_at : List ℕ → ℕ → ℕ → List ℕ
word_at line start n = map upper (take n (drop start line))

-- a word's bytes
abbrev pub word_of : List ℕ → Word → List ℕ
word_of line w = word_at line w.start (w.end - w.start)

-- the words from a place on
abbrev pub words_from : List ℕ → ℕ → List (List ℕ)
words_from line at = words (drop at line)

-- a word lies within its line
pub record Within (line : List ℕ) (w : Word) : Type 0 where
  pub ordered : w.start ≤ w.end
  pub inside : w.end ≤ length line
