-- ksscript for input that comes in blocks: lines are cut as in lines/specs/Feed.antt, and answered as Obey.antt says.
use Rattle.std.specs.Prelude.{◌≡◌, ℕ, ◌+◌, ◌%◌, ◌^◌, ◌<◌, ◌≤◌, List, length, take}
use Rattle.model.specs.Machine.{start_factory}
use Rattle.model.specs.Stored.{View, holds, view_of}
use Rattle.lines.specs.Feed.{Machine, Held, Fed, fed, ended, holding}
use Rattle.lines.specs.Whole.{WholeInput}
use Rattle.print.specs.Over.{Wrote}
use Rattle.script.specs.declared.feed.Script.{Script}
use Rattle.script.specs.declared.feed.Fed.{Fed as StoredFed}
use Rattle.script.specs.Directive.{longest_line, order}
use Rattle.script.specs.Obey.{done, next_state, answer}

-- between two lines: the state, and the number of the next line
pub record Place : Type 0 where
  pub view : View
  pub number : ℕ

abbrev pub place : View → ℕ → Place
place v k = record { view = v; number = k }

-- the next line's number; it is kept in 64 bits
abbrev pub following : ℕ → ℕ
following k = (k + 1) % 2 ^ 64

-- the machine: a line, what it orders, and what that is answered
abbrev pub answering : Machine Place ℕ
answering =
    record {
      answer = λ p l. record { state = place (next_state p.view (done p.view (order l))) (following p.number); text = answer p.number (done p.view (order l)) };
      limit = longest_line;
    }

-- block by block or whole, the same is answered
abbrev pub Whole : Type 0
Whole = WholeInput answering

-- ---- what is stored

abbrev pub place_of : Script → Place
place_of s = place (view_of s.state) s.line

-- what a script holds, the bytes of the unfinished line standing first in a buffer
abbrev pub held_of : Script → List ℕ → Held Place
held_of s line = holding (place_of s) (take s.held line)

-- what a script gives for the next bytes of its input: what it prints, and what it holds then
abbrev pub given : Script → List ℕ → List ℕ → Fed Place ℕ
given s held part = fed answering (place_of s) (take s.held held) part

-- so much of a line as fits stands first in the buffer
pub record Keeps (l line : List ℕ) (n : ℕ) : Type 0 where
  pub bytes : take n line ≡ take (length line) l
  pub inside : n ≤ length line

-- a script that begins
pub record Begins (s : Script) : Type 0 where
  pub place : place_of s ≡ place (holds start_factory) 1
  pub none : s.held ≡ 0

-- a block was fed, as far as it was used; what is held then stands first in the buffer line
pub record Feeds (p : Place) (l block before after line : List ℕ) (r : StoredFed) : Type 0 where
  pub within : r.used ≤ length block
  pub moves : 0 < length block → 0 < r.used
  pub puts : Wrote (fed answering p l (take r.used block)).output before 0 after r.written
  pub room : r.written ≤ length before
  pub held : held_of r.script line ≡ (fed answering p l (take r.used block)).held
  pub few : r.script.held ≤ length line

-- the end of the input was answered
pub record Ends (s : Script) (held before after : List ℕ) (n : ℕ) : Type 0 where
  pub puts : Wrote (ended answering (held_of s held)) before 0 after n
  pub room : n ≤ length before

-- a block was served, and all could be written: the script t holds what s gives for the whole block
pub record Serves (s : Script) (before block after : List ℕ) (t : Script) : Type 0 where
  pub held : held_of t after ≡ (given s before block).held
  pub few : t.held ≤ length after
