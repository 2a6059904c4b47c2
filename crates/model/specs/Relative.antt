-- Document 02 §3: one frame seen from another. The laws of these poses, which lines ask for one, what KLT? A B prints and when it is refused, and that
-- between frames in use it prints the same while demand 3 holds them still. The statements only; they are proved in proofs/Histories, Relative and Between.
use Rattle.std.specs.Prelude.{◌≤◌, ◌≡◌, ◌+◌, ◌∷◌, ◌++◌, ◌&&◌, ◌||◌}
use Rattle.model.specs.Base.{ℕ, List, [], true, false, leb, length, take}
use Rattle.model.specs.Types.{Group, Operating, StoredState}
use Rattle.model.specs.Ascii.{ascii}
use Rattle.model.specs.Lists.{all}
use Rattle.model.specs.Limits.{buffer_limit}
use Rattle.model.specs.Kinds.{same_group, of_group}
use Rattle.model.specs.Pose.{Pose, neutral, followed}
use Rattle.model.specs.Memory.{Memory, State, named}
use Rattle.model.specs.Chain.{steps, resultant, pose_in}
use Rattle.model.specs.WellFormed.{memory_fine, well_formed}
use Rattle.model.specs.Words.{words, legal_name}
use Rattle.model.specs.Request.{reading, malformed, asks, list, resultants, resultant_of, resultant_in}
use Rattle.model.specs.Refusals.{unreadable, absent}
use Rattle.model.specs.Reply.{pose_line, listed}
use Rattle.model.specs.Machine.{stepped}
use Rattle.model.specs.Trace.{Call, Input}
use Rattle.model.specs.Arithmetic.{Alike, Named, Undoes}
use Rattle.model.specs.Demand.{Start, Replies}
use Rattle.model.specs.Checklist.{under_enabled}
use Rattle.model.specs.Stored.{state_of}
use Rattle.model.specs.Histories.{Returned, LinePromise, Begins, Calls, Inputs, steady_by}

-- ---- systems by their names

-- [Memory 1] a system of the group has the name
pub record Member (m : Memory) (g : Group) (n : List ℕ) : Type 0 where
  pub there : absent m n ≡ false
  pub group : (named m n).group ≡ g

-- [02 §3] the pose of A in B
abbrev pub seen : Memory → List ℕ → List ℕ → Pose
seen m a b = pose_in m.systems (named m a).place (named m b).place

-- [Poses] the resultant and the steps of A
abbrev pub resultant_named : Memory → List ℕ → Pose
resultant_named m a = resultant m.systems (named m a).place

abbrev pub steps_named : Memory → List ℕ → ℕ
steps_named m a = steps m.systems (named m a).place

-- ---- the laws

-- [02 §3] for the systems of one group
pub record SeenFromAnother (m : Memory) (g : Group) : Type 0 where
  -- by way of B: where B stands in C, and from there where A stands in B, is where A stands in C
  pub through : (a b c : List ℕ) → Member m g a → Member m g b → Member m g c → Alike (followed (seen m b c) (seen m a b)) (seen m a c)
  pub itself : (a : List ℕ) → Member m g a → Alike (seen m a a) neutral
  -- the group's fixed system is one of them, and sees resultants
  pub member : Member m g (of_group g).name
  pub fixed : (a : List ℕ) → Member m g a → Alike (seen m a (of_group g).name) (resultant_named m a)
  -- A in B and B in A undo one another
  pub back : (a b : List ℕ) → Member m g a → Member m g b → Undoes (seen m b a) (seen m a b)
  -- the printed triple tells the rotation
  pub turned : (a b : List ℕ) → Member m g a → Member m g b → Named (seen m a b).rot

-- ---- which lines ask for it

-- [A line; Commands, queries; 02 §3] a line whose first word is KLT?, by the words behind it
pub record AsksResultants (line : List ℕ) : Type 0 where
  pub every : words line ≡ ascii "KLT?" ∷ [] → reading line ≡ asks (list resultants)
  pub one : (a : List ℕ) → words line ≡ ascii "KLT?" ∷ a ∷ [] → legal_name a ≡ true → reading line ≡ asks (list (resultant_of a))
  pub two : (a b : List ℕ) → words line ≡ ascii "KLT?" ∷ a ∷ b ∷ [] → legal_name a ≡ true → legal_name b ≡ true → reading line ≡ asks (list (resultant_in a b))
  -- a word that is no name, or more than two words: number 5
  pub other : (args : List (List ℕ)) → words line ≡ ascii "KLT?" ∷ args → all legal_name args && leb (length args) 2 ≡ false → reading line ≡ malformed

-- ---- what KLT? A B prints

-- [02 §3] A's name, B's name as the end, the pose of A in B, the steps of both: one line, ended by LF alone
abbrev pub seen_line : Memory → List ℕ → List ℕ → List ℕ
seen_line m a b = pose_line a b (seen m a b) (steps_named m a + steps_named m b) ++ ascii "\n"

-- [02 §3; Errors 7, 10] a readable line that asks for A in B, whatever bytes it has
pub record AnswersSeen (st : State) (line a b : List ℕ) : Type 0 where
  -- 7 where either is no system, before the groups are compared
  pub seven : absent st.volatile a || absent st.volatile b ≡ true → (buffer : List ℕ) → buffer_limit ≤ length buffer → (stepped st line buffer).number ≡ 7
  -- 10 where both are, and their groups differ
  pub ten : (g h : Group) → Member st.volatile g a → Member st.volatile h b → same_group g h ≡ false →
      (buffer : List ℕ) → buffer_limit ≤ length buffer → (stepped st line buffer).number ≡ 10
  -- otherwise the line; only 2 can refuse it
  pub text : (g : Group) → Member st.volatile g a → Member st.volatile g b → Replies st line (seen_line st.volatile a b)

-- [02 §3] the values that are printed are the poses of the laws
pub record PrintsSeen (m : Memory) : Type 0 where
  -- alike poses have the same bytes
  pub alike : (p q : Pose) → Alike p q → (name end : List ℕ) (count : ℕ) → pose_line name end p count ≡ pose_line name end q count
  pub itself : (g : Group) (a : List ℕ) → Member m g a → seen_line m a a ≡ pose_line a a neutral (steps_named m a + steps_named m a) ++ ascii "\n"
  pub fixed : (g : Group) (a : List ℕ) → Member m g a →
      seen_line m a (of_group g).name ≡ pose_line a (of_group g).name (resultant_named m a) (steps_named m a) ++ ascii "\n"
  -- the chains of the operating group end at ZERO: KLT? A ZERO is KLT? A
  pub zero : (a : List ℕ) → Member m Operating a → seen_line m a (ascii "ZERO") ≡ listed m (resultant_of a)

-- ---- all of it

pub record OneFrameFromAnother : Type 0 where
  pub laws : (m : Memory) → memory_fine m ≡ true → (g : Group) → SeenFromAnother m g
  pub asked : (line : List ℕ) → AsksResultants line
  pub prints : (m : Memory) → memory_fine m ≡ true → PrintsSeen m
  pub answers : (st : State) → well_formed st ≡ true → (line a b : List ℕ) →
      unreadable line ≡ false → reading line ≡ asks (list (resultant_in a b)) → AnswersSeen st line a b

-- ---- over stored states

-- [02 §3] after any history of the public calls, the call with such a line returns 0 and the line's bytes
abbrev pub StoredSeen : Type 0
StoredSeen =
    (start : Start) (calls : List Call) (s₀ s : StoredState) → Begins start s₀ → Calls s₀ calls s →
    (line a b : List ℕ) → unreadable line ≡ false → reading line ≡ asks (list (resultant_in a b)) →
    (g : Group) → Member (state_of s).volatile g a → Member (state_of s).volatile g b →
    (buffer : List ℕ) (r : Returned) → LinePromise s line buffer r → buffer_limit ≤ length buffer →
    (r.number ≡ 0) × (take r.count r.buffer ≡ seen_line (state_of s).volatile a b)

-- [02 §3; demand 3] between systems in use, the line sent when the second list began and after it: the same number, the same bytes
abbrev pub SeenAgain : Type 0
SeenAgain =
    (start : Start) (first : List Call) (second : List Input) (numbers : List ℕ) (s₀ s s' : StoredState) →
    Begins start s₀ → Calls s₀ first s → Inputs s second numbers s' → steady_by second numbers ≡ true →
    (line a b : List ℕ) → reading line ≡ asks (list (resultant_in a b)) →
    under_enabled (state_of s).volatile a ≡ true → under_enabled (state_of s).volatile b ≡ true →
    (buffer : List ℕ) (r r' : Returned) → LinePromise s line buffer r → LinePromise s' line buffer r' →
    (r'.number ≡ r.number) × (r'.count ≡ r.count) × (r'.buffer ≡ r.buffer)
