-- The whole input at once.
use Rattle.std.specs.Prelude.{ℕ, ◌≡◌, List, [], ◌∷◌, ◌++◌}
use Rattle.model.specs.Lists.{pieces}
use Rattle.model.specs.Trace.{input_lines}
use Rattle.lines.specs.Feed.{Answer, Machine, kept, fed, ended}

-- each line is answered in the state that the one before it left
unfoldable pub answers : {S X : Type 0} → (S → List ℕ → Answer S X) → S → List (List ℕ) → List X
answers a s [] = []
answers a s (l ∷ ls) = (a s l).text ++ answers a (a s l).state ls

-- what is kept of a line tells its answer
abbrev pub Clips : {S X : Type 0} → Machine S X → Type 0
Clips m = (s : _) (l : List ℕ) → m.answer s (kept m l) ≡ m.answer s l

-- block by block or whole, the same is put out: what is fed, and then the end, is what all lines of the input are answered
abbrev pub WholeInput : {S X : Type 0} → Machine S X → Type 0
WholeInput m = (s : _) (input : List ℕ) → answers m.answer s (input_lines (pieces 10 input)) ≡ (fed m s [] input).output ++ ended m (fed m s [] input).held
