-- The bench's own program, ksbench: the permanent memory lives in a file. What it does for its lines, act by act, and what the file then holds. It is not in
-- the owners' documents; docs/USING.md tells it to whoever stands at the bench, and [ksbench] marks what renders that page. ksrun is the same session in
-- another manner. The statements only; they are proved in proofs/Histories/Bench.
use Rattle.std.specs.Prelude.{◌≡◌, ◌∷◌, ◌++◌, ◌&&◌}
use Rattle.model.specs.Base.{ℕ, List, [], map, Bool, true, false, cond, not, Option, none, some, eqb, replicate}
use Rattle.model.specs.Lists.{kept, pieces}
use Rattle.model.specs.Limits.{buffer_limit}
use Rattle.model.specs.Memory.{State}
use Rattle.model.specs.Image.{image}
use Rattle.model.specs.Machine.{Begun, began, stepped, restart, start_factory, start_image}
use Rattle.model.specs.Trace.{Call, line, entering, after_calls, printed, session, outcomes, input_lines, answers_to}
use Rattle.model.specs.Demand.{Start, factory_start, image_start, start_state}
use Rattle.model.specs.PowerSwitch.{saves, none_saves, last_saved}

-- ---- what is done for a line

-- [ksbench] an act: a byte goes to standard output; an image takes the place of what the file holds; the reason of a refusal goes to standard error
pub data Act : Type 0 where
  prints : ℕ → Act
  stores : List ℕ → Act
  explains : ℕ → Act

-- how a session is run: whether an accepted WPA is stored in a file, and whether refusals are explained
pub record Manner : Type 0 where
  pub storing : Bool
  pub explaining : Bool

abbrev pub manner : Bool → Bool → Manner
manner storing explaining = record { storing = storing; explaining = explaining }

-- [ksrun] no file, and nothing beside the answers
abbrev pub plainly : Manner
plainly = manner false false

-- [ksbench] in a pipe, and at a terminal
abbrev pub in_pipe : Manner
in_pipe = manner true false

abbrev pub at_terminal : Manner
at_terminal = manner true true

-- [ksbench, save] where it is due, the image of the permanent memory
unfoldable pub stored_acts : Bool → State → List Act
stored_acts true st = stores (image st.permanent) ∷ []
stored_acts false st = []

-- [ksbench, at a terminal] the reason of a number, where there is one; 0 has none
abbrev pub reason_acts : ℕ → List Act
reason_acts n = cond (eqb n 0) [] (explains n ∷ [])

-- [ksbench] what is due behind the answer, in the state after the line
abbrev pub due_acts : Bool → ℕ → State → List Act
due_acts stored n st = stored_acts stored st ++ reason_acts n

-- [ksbench, save] an accepted WPA is stored
abbrev pub due_store : Manner → State → List ℕ → List ℕ → Bool
due_store k st l b = k.storing && saves st (entering (line l b))

-- [ksbench, at a terminal] a refusal's number; 0 in a pipe, and for an accepted line
abbrev pub due_reason : Manner → State → List ℕ → List ℕ → ℕ
due_reason k st l b = cond k.explaining (stepped st l b).number 0

abbrev pub line_due : Manner → State → List ℕ → List ℕ → List Act
line_due k st l b = due_acts (due_store k st l b) (due_reason k st l b) (stepped st l b).state

-- [ksbench] a line: its answer, and what is due behind it
abbrev pub line_acts : Manner → State → List ℕ → List ℕ → List Act
line_acts k st l b = map prints (printed (stepped st l b)) ++ line_due k st l b

-- [ksbench] the lines, one after the other; the buffer is lent again
unfoldable pub acted : Manner → State → List ℕ → List (List ℕ) → List Act
acted k st b [] = []
acted k st b (l ∷ ls) = line_acts k st l b ++ acted k (stepped st l b).state (stepped st l b).buffer ls

-- [ksbench] the whole input, from a state on
unfoldable pub ksbench : Manner → State → List ℕ → List Act
ksbench k st input = acted k st (replicate buffer_limit 0) (input_lines (pieces 10 input))

-- ---- what of it goes where

-- what is found in each act, in order
unfoldable pub gathered : {X : Type 0} → (Act → List X) → List Act → List X
gathered f [] = []
gathered f (a ∷ acts) = f a ++ gathered f acts

unfoldable pub byte_of : Act → List ℕ
byte_of (prints b) = b ∷ []
byte_of (stores i) = []
byte_of (explains n) = []

unfoldable pub image_of : Act → List (List ℕ)
image_of (prints b) = []
image_of (stores i) = i ∷ []
image_of (explains n) = []

unfoldable pub number_of : Act → List ℕ
number_of (prints b) = []
number_of (stores i) = []
number_of (explains n) = n ∷ []

-- to standard output
abbrev pub printed_bytes : List Act → List ℕ
printed_bytes acts = gathered byte_of acts

-- into the file, one image after the other
abbrev pub stored_images : List Act → List (List ℕ)
stored_images acts = gathered image_of acts

-- to standard error: the numbers whose reasons are told
abbrev pub explained : List Act → List ℕ
explained acts = gathered number_of acts

-- ---- the file

-- [ksbench, start] switched on with this in the file: without a file at the factory, otherwise from the image (or 14, and it ends)
unfoldable pub powered_on : Option (List ℕ) → Begun
powered_on none = began start_factory 0
powered_on (some bytes) = start_image bytes

-- [ksbench, save] what it holds after the acts: the image that was stored last, or what it held
unfoldable pub file_after : Option (List ℕ) → List Act → Option (List ℕ)
file_after f [] = f
file_after f (prints b ∷ acts) = file_after f acts
file_after f (stores i ∷ acts) = file_after (some i) acts
file_after f (explains n ∷ acts) = file_after f acts

-- the file with which ksbench makes a start
unfoldable pub file_of : Start → Option (List ℕ)
file_of factory_start = none
file_of (image_start bytes m e) = some bytes

-- ---- what is claimed

-- the lines as calls of the machine
unfoldable pub sent : State → List ℕ → List (List ℕ) → List Call
sent st b [] = []
sent st b (l ∷ ls) = entering (line l b) ∷ sent (stepped st l b).state (stepped st l b).buffer ls

-- the image of the volatile memory at each accepted WPA, in order. (The permanent memory is not looked at)
unfoldable pub saved_images : State → List Call → List (List ℕ)
saved_images st [] = []
saved_images st (c ∷ cs) = cond (saves st c) (image st.volatile ∷ []) [] ++ saved_images (after_calls st (c ∷ [])) cs

-- the numbers of the refused lines, in order
abbrev pub refused_numbers : State → List ℕ → List (List ℕ) → List ℕ
refused_numbers st b ls = kept (λ n. not (eqb n 0)) (outcomes st b ls)

-- [ksbench] what goes where. The answers are those of ksrun's session, in every manner; what is stored, if anything is, are the images at the accepted
-- WPAs, none left out; what is explained, if anything is, are the refusals
pub record GoesWhere (k : Manner) (st : State) (b : List ℕ) (ls : List (List ℕ)) : Type 0 where
  pub answers : printed_bytes (acted k st b ls) ≡ session st b ls
  pub stored : stored_images (acted k st b ls) ≡ cond k.storing (saved_images st (sent st b ls)) []
  pub reasons : explained (acted k st b ls) ≡ cond k.explaining (refused_numbers st b ls) []

-- [ksbench, save] a start, and lines of a session that stores. The file holds the image of what was last saved (document 02 §7), or is as it was where
-- nothing was; and a start with that file is what a restart would bring
pub record FileKeeps (explaining : Bool) (start : Start) (b : List ℕ) (ls : List (List ℕ)) : Type 0 where
  pub file : file_after (file_of start) (acted (manner true explaining) (start_state start) b ls)
      ≡ cond (none_saves (start_state start) (sent (start_state start) b ls)) (file_of start) (some (image (last_saved start (sent (start_state start) b ls))))
  pub starts : powered_on (file_after (file_of start) (acted (manner true explaining) (start_state start) b ls))
      ≡ restart (after_calls (start_state start) (sent (start_state start) b ls))

-- [ksbench] all of it
pub record BenchClaims : Type 0 where
  -- the file of a start is one with which that start is made
  pub begins : (start : Start) → powered_on (file_of start) ≡ began (start_state start) 0
  -- in every manner, from any state, with any buffer lent, for any lines
  pub goes : (k : Manner) (st : State) (b : List ℕ) (ls : List (List ℕ)) → GoesWhere k st b ls
  -- from the factory on, standard output is that of ksrun without its tally, byte for byte
  pub as_ksrun : (k : Manner) (input : List ℕ) → printed_bytes (ksbench k start_factory input) ≡ answers_to input
  -- the file, in a pipe and at a terminal, from every start, after any lines
  pub keeps : (explaining : Bool) (start : Start) (b : List ℕ) (ls : List (List ℕ)) → FileKeeps explaining start b ls
