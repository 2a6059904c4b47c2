-- Document 01, "ksrun", for input that comes in blocks: lines are cut as in lines/specs/Feed.antt, and answered by the machine of document 01. The same for
-- the acts of ksbench, and for the outcomes that document 02 §10 counts. Whole.antt ties all three to the whole input.
use Rattle.std.specs.Prelude.{ℕ, suc, List, [], ◌∷◌, replicate}
use Rattle.model.specs.Limits.{buffer_limit, line_limit}
use Rattle.model.specs.Memory.{State}
use Rattle.model.specs.Machine.{Outcome, stepped}
use Rattle.model.specs.Tally.{Tally, counted_all}
use Rattle.model.specs.Trace.{printed}
use Rattle.model.specs.Bench.{Act, Manner, line_acts}
use Rattle.lines.specs.Feed as Lines

-- a line is carried out with a lent buffer of the least length that serves every reply
unfoldable pub lent : List ℕ
lent = replicate buffer_limit 0

abbrev pub outcome : State → List ℕ → Outcome
outcome st l = stepped st l lent

abbrev pub said : State → List ℕ → List ℕ
said st l = printed (outcome st l)

-- the machine: a line, its next state, and what is printed
abbrev pub answering : Lines.Machine State ℕ
answering = record { answer = λ st l. record { state = (outcome st l).state; text = said st l }; limit = line_limit }

-- between two blocks: the state, and what is kept of the unfinished line
abbrev pub Held : Type 0
Held = Lines.Held State

abbrev pub Fed : Type 0
Fed = Lines.Fed State ℕ

-- of a line that is too long, one byte too many is enough
abbrev pub enough : ℕ
enough = suc line_limit

-- [ksrun] what a block prints, and what is held after it
abbrev pub fed : State → List ℕ → List ℕ → Fed
fed st l block = Lines.fed answering st l block

-- [ksrun] at the end of the input what is held is a line, unless it is nothing
unfoldable pub ended : Held → List ℕ
ended h = Lines.ended answering h

-- ---- the same in a manner: acts

-- the machine: a line, its next state, and its acts
abbrev pub acting : Manner → Lines.Machine State Act
acting k = record { answer = λ st l. record { state = (outcome st l).state; text = line_acts k st l lent }; limit = line_limit }

-- [ksbench] what is done for a block, and what is held after it
abbrev pub fed_acts : Manner → State → List ℕ → List ℕ → Lines.Fed State Act
fed_acts k st l block = Lines.fed (acting k) st l block

-- [ksbench] and at the end of the input
unfoldable pub ended_acts : Manner → Held → List Act
ended_acts k h = Lines.ended (acting k) h

-- ---- the same of the outcomes

-- the machine: a line, its next state, and its number
abbrev pub numbering : Lines.Machine State ℕ
numbering = record { answer = λ st l. record { state = (outcome st l).state; text = (outcome st l).number ∷ [] }; limit = line_limit }

-- [02 §10] the outcomes of a block
abbrev pub fed_outcomes : State → List ℕ → List ℕ → Fed
fed_outcomes st l block = Lines.fed numbering st l block

-- [02 §10] and of the end of the input
unfoldable pub ended_outcomes : Held → List ℕ
ended_outcomes h = Lines.ended numbering h

-- [02 §10] a tally at the end of the input: what is held is counted too, unless it is nothing
abbrev pub closing : Tally → Held → Tally
closing t h = counted_all t (ended_outcomes h)
