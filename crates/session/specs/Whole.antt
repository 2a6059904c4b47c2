-- Document 01, "ksrun", with the tally of document 02 §10, and the bench's program: the whole output and all acts, from blocks of any size.
use Rattle.std.specs.Prelude.{ℕ, ◌≡◌, List, [], ◌++◌}
use Rattle.model.specs.Machine.{start_factory}
use Rattle.model.specs.Memory.{State}
use Rattle.model.specs.Tally.{tallied, tally_text}
use Rattle.model.specs.Trace.{ksrun}
use Rattle.model.specs.Bench.{Manner, ksbench}
use Rattle.session.specs.Feed.{fed, ended, fed_acts, ended_acts, fed_outcomes, closing}

-- [ksrun; 02 §10] what the blocks print from the factory on, then the end, and then the tally that the blocks and the end have counted: that is the whole
-- output for the whole input. (Blocks may be cut anywhere: lines/proofs/Feeding.antt, fed-append)
abbrev pub Whole : Type 0
Whole = (input : List ℕ) →
    ksrun input
    ≡ (fed start_factory [] input).output
    ++ (ended (fed start_factory [] input).held ++ tally_text (closing (tallied (fed_outcomes start_factory [] input).output) (fed start_factory [] input).held))

-- [ksbench] the same of its acts, from any state on
abbrev pub WholeActs : Type 0
WholeActs = (k : Manner) (st : State) (input : List ℕ) → ksbench k st input ≡ (fed_acts k st [] input).output ++ ended_acts k (fed_acts k st [] input).held
