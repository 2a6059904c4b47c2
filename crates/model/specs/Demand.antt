-- Demand 3, with document 01, "The two lists of demand 3": the claim, as one statement about both whole lists. The statement only; it is proved in proofs/.
use Rattle.std.specs.Prelude.{◌≤◌, ◌<◌, ◌≡◌, ◌⊎◌, ◌∷◌, ◌++◌, ◌&&◌}
use Rattle.model.specs.Base.{ℕ, List, [], map, Bool, true, false, not, some, eqb, length}
use Rattle.model.specs.Types.{Kind, Ksd, Kst, Ksw, Ksb, Kld, Ksf, Operating, Orientational, Levelling, OperatingPart, Single, Pair}
use Rattle.model.specs.Ascii.{ascii}
use Rattle.model.specs.Limits.{max_systems, buffer_limit}
use Rattle.model.specs.Memory.{System, Memory, State, Ref, system_at, name_of}
use Rattle.model.specs.Pose.{Pose}
use Rattle.model.specs.Chain.{hop, chain, resultant}
use Rattle.model.specs.Use.{in_group}
use Rattle.model.specs.Request.{Change, Reading, reading, unknown, malformed, beyond, asks, change, list, last_error, define, locate, link, copy, remove, enable, set_level, save, restore, reset}
use Rattle.model.specs.Reply.{decimal, listing, every_system, resultant_line}
use Rattle.model.specs.Image.{accepted}
use Rattle.model.specs.Machine.{answered, stepped, start_factory, start_image}
use Rattle.model.specs.Trace.{Call, Input, line, moved, entered, after_calls, after_inputs}

-- [Two lists 1] a start: from the factory, or from bytes that are accepted as an image
pub data Start : Type 0 where
  factory_start : Start
  image_start : (bytes : List ℕ) (m : Memory) → accepted bytes ≡ some m → Start

unfoldable pub start_state : Start → State
start_state factory_start = start_factory
start_state (image_start bytes m e) = (start_image bytes).state

-- [demand 3] KEN, RPA and DPA; KEN? is another command
unfoldable pub changes_enabled : Change → Bool
changes_enabled (define k n t u) = false
changes_enabled (locate n) = false
changes_enabled (link a b) = false
changes_enabled (copy s d) = false
changes_enabled (remove a) = false
changes_enabled (enable a) = true
changes_enabled (set_level n) = false
changes_enabled save = false
changes_enabled restore = true
changes_enabled reset = true

unfoldable pub asks_to_enable : Reading → Bool
asks_to_enable unknown = false
asks_to_enable malformed = false
asks_to_enable beyond = false
asks_to_enable (asks (change c)) = changes_enabled c
asks_to_enable (asks (list q)) = false
asks_to_enable (asks last_error) = false

-- [Two lists 1; 02 §1] a line asks for such a thing, and is accepted at its turn; a position asks for nothing
abbrev pub taken : (Reading → Bool) → State → Input → Bool
taken p st (line l b) = eqb (stepped st l b).number 0 && p (reading l)
taken p st (moved q) = false

-- [Two lists 1] so it is with none of them
unfoldable pub none_taken : (Reading → Bool) → State → List Input → Bool
none_taken p st [] = true
none_taken p st (c ∷ cs) = not (taken p st c) && none_taken p (entered st c) cs

-- [demand 3] no accepted KEN, RPA or DPA among the lines
abbrev pub steady : State → List Input → Bool
steady = none_taken asks_to_enable

-- [Two lists 2] what is compared of an enabled system: its name, its chain by name, its resultant and steps
pub record Held : Type 0 where
  pub name : List ℕ
  pub chain : List (List ℕ)
  pub resultant : Pose
  pub steps : ℕ

unfoldable pub held : Memory → Ref → Held
held m r =
    let l = m.systems in
    let places = chain l r.place in
    let pose = resultant l r.place in
    record { name = name_of l r; chain = map (λ q. name_of l (in_group r.group q)) places; resultant = pose; steps = length places }

-- one system, or work and tool
pub data HeldPart : Type 0 where
  alone : Held → HeldPart
  pair : Held → Held → HeldPart

unfoldable pub held_part : Memory → OperatingPart → HeldPart
held_part m (Single p) = alone (held m (in_group Operating p))
held_part m (Pair w t) = pair (held m (in_group Operating w)) (held m (in_group Operating t))

-- the enabled frames of a memory
pub record Frames : Type 0 where
  pub operating : HeldPart
  pub orientational : Held
  pub levelling : Held

unfoldable pub frames : Memory → Frames
frames m =
    record {
      operating = held_part m m.enabled.operating;
      orientational = held m (in_group Orientational m.enabled.orientational);
      levelling = held m (in_group Levelling m.enabled.levelling);
    }

-- ---- what is so of one memory

-- [Two lists 2] place p is defined in the memory, and of the type: the group's fixed system, or a user system of that type
abbrev pub Defined : List System → Kind → ℕ → Type 0
Defined l k p = (p ≡ 0) ⊎ ((p ≤ length l) × ((system_at l p).kind ≡ k))

-- [Memory 3; 02 §1] one of ZERO, KSD or KSF, or a KSW and a KST of which one, never both, may be the substitute ZERO
abbrev pub OperatingDefined : List System → OperatingPart → Type 0
OperatingDefined l (Single p) = Defined l Ksd p ⊎ Defined l Ksf p
OperatingDefined l (Pair w t) = Defined l Ksw w × Defined l Kst t × ((w ≡ 0) × (t ≡ 0) → ⊥)

-- [Memory 3; demand 3] the chain of the system at place q ends, within 16 steps, where its group's chains end
pub record Reaches (l : List System) (q : ℕ) : Type 0 where
  -- as many links as there are systems on the chain lead to the fixed system, and fewer do not
  pub ends : hop l (length (chain l q)) q ≡ 0
  pub before : (i : ℕ) → i < length (chain l q) → hop l i q ≡ 0 → ⊥
  -- every system on the way has the type of the first, so the fixed system is that of its group
  pub kind : (i : ℕ) → i < length (chain l q) → (system_at l (hop l i q)).kind ≡ (system_at l q).kind
  pub short : length (chain l q) ≤ max_systems

-- [demand 3] in each group one system or pair is enabled (the type `Enabled` has exactly that), all defined and of the allowed types; and every chain,
-- enabled or not, reaches its end, a fixed system's being empty
pub record Sound (m : Memory) : Type 0 where
  pub operating : OperatingDefined m.systems m.enabled.operating
  pub orientational : Defined m.systems Ksb m.enabled.orientational
  pub levelling : Defined m.systems Kld m.enabled.levelling
  pub fixed : chain m.systems 0 ≡ []
  pub reaches : (q : ℕ) → q ≤ length m.systems → Reaches m.systems q

-- ---- KLT? sent next

-- a line with these bytes can be refused only with 2; otherwise it gives this reply and changes nothing
pub record Replies (st : State) (line text : List ℕ) : Type 0 where
  pub short : (b : List ℕ) → length b < buffer_limit → (stepped st line b).number ≡ 2
  pub taken : (b : List ℕ) → buffer_limit ≤ length b → stepped st line b ≡ answered st text b

-- [Two lists 2] a line for each system, which begins with its name and ends in the steps of its chain
pub record Listed (st : State) : Type 0 where
  pub shown : Replies st (ascii "KLT?") (listing (map (resultant_line st.volatile.systems) (every_system st.volatile.systems)))
  pub steps : (r : Ref) → (rest : List ℕ) ×
      (resultant_line st.volatile.systems r
      ≡ ascii "Name=" ++ (name_of st.volatile.systems r ++ (ascii " EndCoordinateSystem=" ++ (rest
      ++ (ascii " Steps=" ++ decimal (length (chain st.volatile.systems r.place)))))))

-- ---- demand 3

-- what is so after both lists: st when the second list began, st' after it
pub record AfterBoth (st st' : State) : Type 0 where
  pub volatile : Sound st'.volatile
  pub permanent : Sound st'.permanent
  pub listed : Listed st'
  pub still : frames st'.volatile ≡ frames st.volatile

-- demand 3
abbrev pub Demand3 : Type 0
Demand3 =
    (start : Start) (first : List Call) (second : List Input) →
    steady (after_calls (start_state start) first) second ≡ true →
    AfterBoth (after_calls (start_state start) first) (after_inputs (after_calls (start_state start) first) second)
