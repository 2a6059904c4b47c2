-- What a block of input does to a session that is stored: the definitions of Feed.antt, with the lent buffer.
use Rattle.std.specs.Prelude.{ℕ, ◌+◌, ◌-◌, ◌≤◌, ◌<◌, ◌≡◌, ◌⊎◌, ◌&&◌, false, not, cond, eqb, List, [], ◌++◌, map, length, take, drop, Option, Some, None, IfSome, Result, Ok, Err}
use Rattle.model.specs.declared.State.{State as StoredState}
use Rattle.model.specs.Limits.{buffer_limit}
use Rattle.model.specs.Memory.{State}
use Rattle.model.specs.Machine.{start_factory}
use Rattle.model.specs.Trace.{refusal_text}
use Rattle.model.specs.Tally.{Tally, empty_tally, counted, counted_all}
use Rattle.model.specs.Bench.{Act, Manner, manner, prints, due_acts, due_store, due_reason}
use Rattle.model.specs.Stored.{FineState, state_of}
use Rattle.facts.specs.declared.refusals.Refusal.{Refusal}
use Rattle.facts.specs.Refusals.{number_of}
use Rattle.reply.specs.Lines.{Replied}
use Rattle.commands.specs.declared.changed.Deed.{Deed}
use Rattle.commands.specs.declared.changed.Deed.TheVariants.{SetError}
use Rattle.commands.specs.Done.{saving}
use Rattle.engine.specs.declared.answer.Step.{Step}
use Rattle.tally.specs.Counts.{tally_of}
use Rattle.lines.specs.Before.{before}
use Rattle.lines.specs.Feed.{holding}
use Rattle.session.specs.Feed.{lent, fed, ended, fed_acts, ended_acts, fed_outcomes, closing, said, outcome, Held}
use Rattle.session.specs.declared.due.Manner.{Manner as StoredManner}
use Rattle.session.specs.declared.due.Due.{Due}
use Rattle.session.specs.declared.feed.Session.{Session}
use Rattle.session.specs.declared.feed.Fed.{Fed as StoredFed}

-- what a session holds
abbrev pub held_of : Session → Held
held_of s = holding (state_of s.state) (take s.held.count s.held.bytes)

-- the manner in which it is run
abbrev pub manner_of : StoredManner → Manner
manner_of k = manner k.storing k.explaining

-- the number of what is to be explained, 0 of nothing
abbrev pub reason_number : Option ℕ → ℕ
reason_number None = 0
reason_number (Some n) = n

-- the bytes of answers, and what is due behind them in the state that they left
abbrev pub with_due : List ℕ → Due → StoredState → List Act
with_due answers d s = map prints answers ++ due_acts d.store (reason_number d.reason) (state_of s)

-- nothing is due
abbrev pub nothing : Due
nothing = record { store = false; reason = None }

-- what is due behind a line with this number, of which this deed was decided
abbrev pub due_with : StoredManner → ℕ → Deed → Due
due_with k n d = record { store = k.storing && saving d; reason = cond (k.explaining && not (eqb n 0)) (Some n) None }

-- what is due behind a line that was settled
abbrev pub due_by : StoredManner → Result Step Refusal → Due
due_by k (Ok r) = due_with k 0 r.deed
due_by k (Err why) = due_with k (number_of why) (SetError (number_of why))

-- the number is a refusal's
pub record OfRefusal (n : ℕ) : Type 0 where
  pub why : Refusal
  pub number : n ≡ number_of why

-- what is to be told, if anything, is why a line was refused
abbrev pub Reasoned : Due → Type 0
Reasoned d = IfSome d.reason OfRefusal

-- a session that begins
pub record Begins (s : Session) : Type 0 where
  pub held : held_of s ≡ holding start_factory []
  pub tally : tally_of s.tally ≡ empty_tally
  pub fine : FineState s.state

-- so many bytes of answer stand in the buffer: those of a reply as they were, or those of a refusal
pub record Says (number count : ℕ) (before after : List ℕ) (n : ℕ) : Type 0 where
  pub taken : number ≡ 0 → (n ≡ count) × (after ≡ before)
  pub refused : (number ≡ 0 → ⊥) → Replied (refusal_text number) before after n

-- one line was answered: the next state s', its outcome counted, so many bytes, and what is due
pub record Answered (k : StoredManner) (s : StoredState) (t : Tally) (line before after : List ℕ) (s' : StoredState) (t' : Tally) (n : ℕ) (d : Due) : Type 0 where
  pub puts : Replied (said (state_of s) line) before after n
  pub room : n ≤ length before
  pub state : state_of s' ≡ (outcome (state_of s) line).state
  pub fine : FineState s'
  pub tally : t' ≡ counted t (outcome (state_of s) line).number
  pub store : d.store ≡ due_store (manner_of k) (state_of s) line lent
  pub reason : reason_number d.reason ≡ due_reason (manner_of k) (state_of s) line lent

-- and nothing is held then
pub record Answers (k : StoredManner) (s : Session) (line before after : List ℕ) (r : StoredFed) : Type 0 where
  pub answered : Answered k s.state (tally_of s.tally) line before after r.session.state (tally_of r.session.tally) r.written r.due
  pub held : r.session.held.count ≡ 0

-- the lines of a block up to a place were answered: the state there, their outcomes counted, so many bytes, and what is due
pub record Run (k : StoredManner) (st₀ : State) (t₀ : Tally) (block out₀ out : List ℕ) (s : StoredState) (t : Tally) (at w : ℕ) (d : Due) : Type 0 where
  pub within : at ≤ length block
  pub fine : FineState s
  pub held : (fed st₀ [] (take at block)).held ≡ holding (state_of s) []
  pub puts : Replied (fed st₀ [] (take at block)).output out₀ out w
  pub room : w ≤ length out₀
  pub long : length out ≡ length out₀
  pub acts : fed_acts (manner_of k) st₀ [] (take at block) ≡ record { held = holding (state_of s) []; output = with_due (fed st₀ [] (take at block)).output d s }
  pub tally : t ≡ counted_all t₀ (fed_outcomes st₀ [] (take at block)).output
  pub begun : at ≡ 0 → d ≡ nothing

-- a run over a block: where another line ends, it stopped for want of room or for what is due
pub record Runs (k : StoredManner) (s : Session) (block out₀ out : List ℕ) (r : StoredFed) : Type 0 where
  pub run : Run k (state_of s.state) (tally_of s.tally) block out₀ out r.session.state (tally_of r.session.tally) r.used r.written r.due
  pub held : r.session.held ≡ s.held
  pub stops : r.used + before (drop r.used block) < length block → (length out - r.written < buffer_limit) ⊎ (r.due ≡ nothing → ⊥)

-- a block was fed, as far as it was used: its answers, its outcomes counted, and with what is due behind the answers its acts
pub record Feeds (k : StoredManner) (s : Session) (block before after : List ℕ) (r : StoredFed) : Type 0 where
  pub within : r.used ≤ length block
  pub moves : 0 < length block → 0 < r.used
  pub puts : Replied (fed (held_of s).state (held_of s).line (take r.used block)).output before after r.written
  pub room : r.written ≤ length before
  pub held : held_of r.session ≡ (fed (held_of s).state (held_of s).line (take r.used block)).held
  pub fine : FineState r.session.state
  pub acts : fed_acts (manner_of k) (held_of s).state (held_of s).line (take r.used block)
      ≡ record { held = held_of r.session; output = with_due (fed (held_of s).state (held_of s).line (take r.used block)).output r.due r.session.state }
  pub tally : tally_of r.session.tally ≡ counted_all (tally_of s.tally) (fed_outcomes (held_of s).state (held_of s).line (take r.used block)).output

-- the end of the input was answered
pub record Ends (k : StoredManner) (s : Session) (before after : List ℕ) (r : StoredFed) : Type 0 where
  pub puts : Replied (ended (held_of s)) before after r.written
  pub room : r.written ≤ length before
  pub fine : FineState r.session.state
  pub acts : ended_acts (manner_of k) (held_of s) ≡ with_due (ended (held_of s)) r.due r.session.state
  pub tally : tally_of r.session.tally ≡ closing (tally_of s.tally) (held_of s)
