-- Document 02 §1: a frame where the stage is. What becomes of the position, which lines ask for KSF, when 15 refuses one, and what a frame is that KSF has
-- made: its resultant is that of the enabled system, followed by the position. The statements only; they are proved in proofs/Histories, Positions and Located.
use Rattle.std.specs.Prelude.{◌≤◌, ◌≡◌, ◌↔◌, ◌∷◌}
use Rattle.model.specs.Base.{ℕ, List, [], true, false, cond, length}
use Rattle.model.specs.Types.{Vec3, Ksf, Single, Position, StoredState}
use Rattle.model.specs.Ascii.{ascii}
use Rattle.model.specs.Limits.{buffer_limit}
use Rattle.model.specs.Pose.{Pose, origin, plus, placed, followed, shown}
use Rattle.model.specs.Memory.{Memory, State, zero_position, is_user, named, user_named}
use Rattle.model.specs.Words.{words, legal_name}
use Rattle.model.specs.Stage.{position_fine, aslant, operating_pose, step_to}
use Rattle.model.specs.WellFormed.{well_formed}
use Rattle.model.specs.Request.{reading, malformed, asks, change, names?, locate, enable}
use Rattle.model.specs.Refusals.{unreadable}
use Rattle.model.specs.Machine.{stepped, write_image, start_image, positioned}
use Rattle.model.specs.Trace.{Call, line, moved, entering, restarting, after_calls}
use Rattle.model.specs.Claims.{tried_before}
use Rattle.model.specs.Demand.{Start, start_state, HeldPart, alone, pair, frames}
use Rattle.model.specs.Checklist.{HeldFast}
use Rattle.model.specs.Relative.{resultant_named, steps_named}
use Rattle.model.specs.Stored.{state_of}
use Rattle.model.specs.Histories.{Returned, LinePromise, Begins, Calls}

-- ---- the position

-- [02 §1] where the platform stands after the calls: the last position that was in range, since the last restart; p if there was none
unfoldable pub stands_after : Position → List Call → Position
stands_after p [] = p
stands_after p (entering (line l b) ∷ cs) = stands_after p cs
stands_after p (entering (moved q) ∷ cs) = stands_after (cond (position_fine q) q p) cs
stands_after p (restarting ∷ cs) = stands_after zero_position cs

-- [Image] the same answer to a call that writes the image
abbrev pub WritesAlike : List ℕ → State → State → Type 0
WritesAlike b st st' =
    ((write_image st b).number ≡ (write_image st' b).number) × ((write_image st b).count ≡ (write_image st' b).count)
    × ((write_image st b).buffer ≡ (write_image st' b).buffer)

pub record PositionKept : Type 0 where
  -- no line moves it, whether accepted or refused; WPA, RPA and DPA are lines
  pub lines : (st : State) (line b : List ℕ) → (stepped st line b).state.position ≡ st.position
  -- it is zero after every start, a refused one among them
  pub starts : (start : Start) → (start_state start).position ≡ zero_position
  pub images : (bytes : List ℕ) → (start_image bytes).state.position ≡ zero_position
  -- after a start and any calls it is what the walk finds; the walk looks at no state
  pub calls : (start : Start) (cs : List Call) → (after_calls (start_state start) cs).position ≡ stands_after zero_position cs
  -- it is not saved: the image that is written has the same number, length and bytes, wherever the platform stands
  pub unsaved : (st : State) (p : Position) (b : List ℕ) → WritesAlike b (positioned st p).state st

-- ---- which lines ask for KSF

-- [02 §1; Error 5] a line whose first word is KSF, by the words behind it: one name, or it is malformed
pub record AsksLocation (line : List ℕ) : Type 0 where
  pub one : (a : List ℕ) → words line ≡ ascii "KSF" ∷ a ∷ [] → legal_name a ≡ true → reading line ≡ asks (change (locate a))
  pub other : (args : List (List ℕ)) → words line ≡ ascii "KSF" ∷ args → names? 1 args ≡ false → reading line ≡ malformed

-- ---- the enabled system, and the angles

-- [02 §1] the resultant by which demand 3 holds an enabled frame still; of a pair, the work half's
abbrev pub work_pose : HeldPart → Pose
work_pose (alone h) = h.resultant
work_pose (pair work tool) = work.resultant

-- [02 §1] what KSF goes by: the resultant of the enabled operating system, and whether U, V and W are all zero
pub record GoesBy : Type 0 where
  pub enabled : (m : Memory) → operating_pose m ≡ work_pose (frames m).operating
  pub level : (p : Position) → (aslant p ≡ false) ↔ (p.angles ≡ zero_position.angles)

-- ---- number 15

-- [02 §1] what a line asks that is refused with 15
pub record AsksWhileTurned (st : State) (line : List ℕ) : Type 0 where
  pub name : List ℕ
  pub asked : reading line ≡ asks (change (locate name))
  pub turned : aslant st.position ≡ true

-- ---- the frame that is made

-- [02 §1] n is what an accepted KSF made, st' of st
pub record MadeHere (n : List ℕ) (st st' : State) : Type 0 where
  -- a user system of type KSF, whose predecessor is ZERO
  pub there : is_user st'.volatile n ≡ true
  pub kind : (user_named st'.volatile n).kind ≡ Ksf
  pub pred : (user_named st'.volatile n).pred ≡ 0
  pub steps : steps_named st'.volatile n ≡ 1
  -- its turns are the triple that the enabled system is shown with
  pub turns : (user_named st'.volatile n).turns ≡ shown (operating_pose st.volatile).rot
  -- its resultant is that of the enabled operating system, followed by the position
  pub resultant : resultant_named st'.volatile n ≡ followed (operating_pose st.volatile) (step_to st.position)
  -- so its origin is where the stage is, and what stands at q from there in the new frame stands at the position and q in the enabled one
  pub origin : placed (resultant_named st'.volatile n) origin ≡ placed (operating_pose st.volatile) st.position.offset
  pub points : (q : Vec3) → placed (resultant_named st'.volatile n) q ≡ placed (operating_pose st.volatile) (plus st.position.offset q)
  -- nothing that is enabled has moved
  pub still : frames st'.volatile ≡ frames st.volatile

-- [02 §1] st' is what KSF of n made of st, and then KEN of n: now n is the enabled operating system. Its zero is the spot that the stage is over, and in the
-- group's fixed system every point has the coordinates that it had
pub record EnabledHere (n : List ℕ) (st st' : State) : Type 0 where
  pub alone : st'.volatile.enabled.operating ≡ Single (named st'.volatile n).place
  pub pose : operating_pose st'.volatile ≡ followed (operating_pose st.volatile) (step_to st.position)
  pub zero : placed (operating_pose st'.volatile) origin ≡ placed (operating_pose st.volatile) st.position.offset
  pub points : (q : Vec3) → placed (operating_pose st'.volatile) q ≡ placed (operating_pose st.volatile) (plus st.position.offset q)
  -- what the platform was told stays, until it is told anew
  pub stands : st'.position ≡ st.position

-- [02 §1] KSF, accepted, by whatever line; and then KEN of the same name, which only 2 and 3 can refuse
pub record LocatesHere (st : State) : Type 0 where
  pub made : (line b n : List ℕ) → reading line ≡ asks (change (locate n)) → (stepped st line b).number ≡ 0 → MadeHere n st (stepped st line b).state
  pub accepted : (line b n : List ℕ) → reading line ≡ asks (change (locate n)) → (stepped st line b).number ≡ 0 →
      (next c : List ℕ) → reading next ≡ asks (change (enable n)) → unreadable next ≡ false → buffer_limit ≤ length c →
      (stepped (stepped st line b).state next c).number ≡ 0
  pub enabled : (line b n : List ℕ) → reading line ≡ asks (change (locate n)) → (stepped st line b).number ≡ 0 →
      (next c : List ℕ) → reading next ≡ asks (change (enable n)) → (stepped (stepped st line b).state next c).number ≡ 0 →
      EnabledHere n st (stepped (stepped st line b).state next c).state

-- ---- all of it

pub record StageClaims : Type 0 where
  pub position : PositionKept
  pub asked : (line : List ℕ) → AsksLocation line
  pub goes_by : GoesBy
  -- 15 is tried after 12 and before 13
  pub order : (tried_before 15 12 ≡ true) × (tried_before 13 15 ≡ true)
  -- KSF is refused while U, V or W is not zero, with 15 where no number before it applies; and no other line meets 15
  pub turned : (st : State) → well_formed st ≡ true → aslant st.position ≡ true →
      (line b n : List ℕ) → reading line ≡ asks (change (locate n)) → HeldFast 15 st line b
  pub only : (st : State) → well_formed st ≡ true → (line b : List ℕ) → (stepped st line b).number ≡ 15 → AsksWhileTurned st line
  pub locates : (st : State) → well_formed st ≡ true → LocatesHere st

-- ---- the same of the stored states that the public calls return

-- [02 §1] s, to which the calls led from a start: where the platform stands; a line that asks for KSF and returned 0; and then one that asks for KEN of that name
pub record StoredLocatesHere (calls : List Call) (s : StoredState) : Type 0 where
  pub stands : s.position ≡ stands_after zero_position calls
  pub made : (line b n : List ℕ) (r : Returned) → LinePromise s line b r → reading line ≡ asks (change (locate n)) → r.number ≡ 0 →
      MadeHere n (state_of s) (state_of r.state)
  pub enabled : (line b n : List ℕ) (r : Returned) → LinePromise s line b r → reading line ≡ asks (change (locate n)) → r.number ≡ 0 →
      (next c : List ℕ) (r' : Returned) → LinePromise r.state next c r' → reading next ≡ asks (change (enable n)) → r'.number ≡ 0 →
      EnabledHere n (state_of s) (state_of r'.state)

-- [02 §1] after any history of the public calls
abbrev pub StoredLocates : Type 0
StoredLocates = (start : Start) (calls : List Call) (s₀ s : StoredState) → Begins start s₀ → Calls s₀ calls s → StoredLocatesHere calls s
