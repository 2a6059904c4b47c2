-- Input that comes in blocks. Lines are cut out of it, and a machine answers them one after the other: what is held between two blocks, and what a block
-- puts out, whatever an answer is made of: bytes for ksrun and ksscript, acts for ksbench. The machine is document 01's in crate session, and that of the
-- directives in crate script.
use Rattle.std.specs.Prelude.{ℕ, suc, List, [], ◌∷◌, ◌++◌, true, false, eqb, take}
use Rattle.model.specs.Lists.{none?}

-- a line answered: the next state, and what is put out
pub record Answer (S X : Type 0) : Type 0 where
  pub state : S
  pub text : List X

-- how lines are answered, and how many bytes the longest line has that is not too long
pub record Machine (S X : Type 0) : Type 0 where
  pub answer : S → List ℕ → Answer S X
  pub limit : ℕ

-- of a line that is too long, one byte too many is enough to hold
abbrev pub kept : {S X : Type 0} → Machine S X → List ℕ → List ℕ
kept m l = take (suc m.limit) l

-- between two blocks: the state, and what is kept of the unfinished line
pub record Held (S : Type 0) : Type 0 where
  pub state : S
  pub line : List ℕ

pub record Fed (S X : Type 0) : Type 0 where
  pub held : Held S
  pub output : List X

abbrev pub holding : {S : Type 0} → S → List ℕ → Held S
holding s l = record { state = s; line = l }

abbrev pub printing : {S X : Type 0} → List X → Fed S X → Fed S X
printing t f = record { held = f.held; output = t ++ f.output }

abbrev pub grown : {S X : Type 0} → Machine S X → List ℕ → ℕ → List ℕ
grown m l b = kept m (l ++ (b ∷ []))

-- the bytes of a block, from the first to the last: an LF ends the line, any other byte is held
unfoldable pub fed : {S X : Type 0} → Machine S X → S → List ℕ → List ℕ → Fed S X
fed m s l [] = record { held = holding s l; output = [] }
fed m s l (b ∷ bs) =
    elim (eqb b 10) [
      | true ↦ printing (m.answer s l).text (fed m (m.answer s l).state [] bs)
      | false ↦ fed m s (grown m l b) bs
    ]

-- at the end of the input what is held is a line, unless it is nothing
abbrev pub ended : {S X : Type 0} → Machine S X → Held S → List X
ended m h = elim (none? h.line) [ true ↦ [] | false ↦ (m.answer h.state h.line).text ]
