-- Document 02 §2: the test for use stops when the name is found. It says what the old test says, looks no farther than the name's first place and never at
-- more than 20 systems, and its answer holds still with the enabled frames. The statements only; they are proved in proofs/Histories/Looking.
use Rattle.std.specs.Prelude.{◌≤◌, ◌≡◌, ◌+◌, ◌∷◌, ◌++◌}
use Rattle.model.specs.Base.{ℕ, suc, List, true, false, none, length}
use Rattle.model.specs.Types.{Group, StoredState}
use Rattle.model.specs.Ascii.{ascii}
use Rattle.model.specs.Lists.{one_of}
use Rattle.model.specs.Limits.{max_systems}
use Rattle.model.specs.Kinds.{of_group}
use Rattle.model.specs.Memory.{Memory, factory, find}
use Rattle.model.specs.Use.{name_in_use, names_looked_at, use_test}
use Rattle.model.specs.Words.{reserved}
use Rattle.model.specs.WellFormed.{memory_fine}
use Rattle.model.specs.Machine.{Usage}
use Rattle.model.specs.Trace.{Call, Input}
use Rattle.model.specs.Demand.{Start, HeldPart, alone, pair, Frames, frames}
use Rattle.model.specs.Checklist.{names_down, under_enabled}
use Rattle.model.specs.Histories.{UsePromise, Begins, Calls, Inputs, steady_by}

-- ---- whether the name is in use

-- [02 §2] in a well-formed memory
pub record SaysTheSame (m : Memory) : Type 0 where
  -- of every name that is not reserved, what the old test says, by which the commands are judged
  pub old : (n : List ℕ) → reserved n ≡ false → (use_test m n).found ≡ name_in_use m n
  -- a fixed system ends the chains of its group, and something is enabled in each
  pub fixed : (g : Group) → (use_test m (of_group g).name).found ≡ true
  -- a name that no system has; HEXAPOD is one
  pub absent : (n : List ℕ) → find m n ≡ none → (use_test m n).found ≡ false
  pub hexapod : (use_test m (ascii "HEXAPOD")).found ≡ false

-- ---- what is looked at, and in what order

-- [02 §2] an enabled frame's name, and those on its chain (`names_down`), work before tool; the frames are the ones that demand 3 compares
abbrev pub part_names : HeldPart → List (List ℕ)
part_names (alone h) = names_down h
part_names (pair work tool) = names_down work ++ names_down tool

-- [02 §2; KEN?] operating, orientational, levelling
abbrev pub frame_names : Frames → List (List ℕ)
frame_names f = part_names f.operating ++ (names_down f.orientational ++ names_down f.levelling)

-- ---- how many are looked at

-- [02 §2] the name stands in the list, and so many are up to and with its first place
pub record FirstPlace (names : List (List ℕ)) (n : List ℕ) (count : ℕ) : Type 0 where
  pub front : List (List ℕ)
  pub rest : List (List ℕ)
  pub parts : names ≡ front ++ (n ∷ rest)
  pub none_before : one_of front n ≡ false
  pub counted : count ≡ suc (length front)

-- [02 §2] in any memory
pub record StopsThere (m : Memory) (n : List ℕ) : Type 0 where
  pub found : (use_test m n).found ≡ true → FirstPlace (names_looked_at m) n (use_test m n).looked
  pub missed : (use_test m n).found ≡ false → (use_test m n).looked ≡ length (names_looked_at m)

-- [02 §2] every user system once, since the enabled chains are of different types, and a fixed one at the end of each: with a pair these are four
abbrev pub most_looked : ℕ
most_looked = max_systems + 4

-- [02 §2] a well-formed memory and a name for which so many are looked at
pub record Costs (count : ℕ) : Type 0 where
  pub memory : Memory
  pub name : List ℕ
  pub fine : memory_fine memory ≡ true
  pub looked : (use_test memory name).looked ≡ count

-- ---- all of it

pub record StopsWhenFound : Type 0 where
  pub says : (m : Memory) → memory_fine m ≡ true → SaysTheSame m
  pub stops : (m : Memory) (n : List ℕ) → StopsThere m n
  pub most : (m : Memory) → memory_fine m ≡ true → (n : List ℕ) → (use_test m n).looked ≤ most_looked
  pub reached : Costs most_looked
  pub factory_costs : (n : List ℕ) → (use_test factory n).found ≡ false → (use_test factory n).looked ≡ 3
  -- the enabled frames in the order of KEN?, each with its chain
  pub order : (m : Memory) → names_looked_at m ≡ frame_names (frames m)
  -- so what is in use is what the checklist holds fast, and demand 3 holds still
  pub under : (m : Memory) (n : List ℕ) → (use_test m n).found ≡ under_enabled m n
  pub still : (m m' : Memory) → frames m ≡ frames m' → (n : List ℕ) → use_test m n ≡ use_test m' n

-- [02 §2; demand 3] the question asked when the second list began and after it: the same answer, whatever name it is
abbrev pub AskedAgain : Type 0
AskedAgain =
    (start : Start) (first : List Call) (second : List Input) (numbers : List ℕ) (s₀ s s' : StoredState) →
    Begins start s₀ → Calls s₀ first s → Inputs s second numbers s' → steady_by second numbers ≡ true →
    (n : List ℕ) (r r' : Usage) → UsePromise s n r → UsePromise s' n r' → r' ≡ r
