-- Block by block or whole, the same is printed and counted, and the same is done: `whole`, `whole_acts`.
use Prim.Native.Nat.{ℕ, suc, ◌≤◌, ◌<◌}
use mathlib.Core.Path.{◌≡◌, refl, sym, ap, ◌∙◌}
use mathlib.Core.List.{List, [], ◌∷◌, ◌++◌, map, append_assoc}
use mathlib.Core.Bool.{Bool, false, cond, ◌&&◌}
use lib.Dec.{eqb}
use mathlib.Core.Logic.{⊎_elim}
use native.Mathlib.Omega.{arith}
use native.Mathlib.Decide.{dec_lt}
use lib.ListN.{length, take, length-replicate}
use lib.Seq.{take_all}
use Rattle.model.specs.Lists.{pieces}
use Rattle.model.specs.Limits.{buffer_limit, line_limit}
use Rattle.model.specs.Memory.{State}
use Rattle.model.specs.Machine.{stepped, start_factory}
use Rattle.model.specs.Request.{reading}
use Rattle.model.specs.Checklist.{asks_to_save}
use Rattle.model.specs.PowerSwitch.{saves}
use Rattle.model.specs.Tally.{empty_tally, tallied, tally_text}
use Rattle.model.specs.Trace.{printed, session, outcomes, input_lines, answers_to, outcomes_of, ksrun}
use Rattle.model.specs.Bench.{Act, Manner, prints, due_acts, line_acts, acted, ksbench}
use Rattle.lines.specs.Feed.{Answer}
use Rattle.lines.specs.Whole.{answers, Clips}
use Rattle.lines.proofs.Feeding.{held_alike}
use Rattle.lines.proofs.Whole.{whole_input}
use Rattle.session.specs.Feed.{Held, lent, answering, acting, numbering, fed, ended, ended_acts, fed_outcomes, ended_outcomes, closing, said, outcome}
use Rattle.session.specs.Whole.{Whole, WholeActs}
use Rattle.model.specs.WellFormed.{well_formed}
use Rattle.model.proofs.Basics.{either}
use Rattle.model.proofs.Histories.Tally.{counted_append}
use Rattle.model.proofs.Ladder.Refusing.{step_ill, step_number}
use Rattle.session.proofs.Buffer.{Seen, seen, any_buffer, too_long, clipped, stays_long}

pub lent_long : buffer_limit ≤ length lent
unfolding lent
lent_long = rw (length-replicate {A = ℕ} buffer_limit 0) (omega arith)

-- ---- of a line that is too long, one byte too many tells all

pub clips : Clips answering
clips st p = ap {B = Answer State ℕ} (λ (s : Seen). record { state = s.state; text = s.text }) (clipped st p lent lent_long)

-- ---- the buffer that is lent again does not show

session_answers : (ls : List (List ℕ)) (st : State) (b : List ℕ) → buffer_limit ≤ length b → session st b ls ≡ answers answering.answer st ls
unfolding session answers
session_answers [] st b h = refl
session_answers (l ∷ ls) st b h =
    let e = any_buffer st l b lent h lent_long in
    let text : printed (stepped st l b) ≡ said st l = ap (λ (s : Seen). s.text) e in
    let state : (stepped st l b).state ≡ (outcome st l).state = ap (λ (s : Seen). s.state) e in
    rw (text, state) (ap (λ (t : List ℕ). said st l ++ t) (session_answers ls (outcome st l).state (stepped st l b).buffer (omega (arith, stays_long st l b))))

answers_whole : (input : List ℕ) → answers_to input ≡ (fed start_factory [] input).output ++ ended (fed start_factory [] input).held
unfolding answers_to lent ended
answers_whole input = session_answers (input_lines (pieces 10 input)) start_factory lent lent_long ∙ whole_input answering clips start_factory input

-- ---- outcomes

pub clips_outcomes : Clips numbering
clips_outcomes st p = ap {B = Answer State ℕ} (λ (s : Seen). record { state = s.state; text = s.number ∷ [] }) (clipped st p lent lent_long)

-- lines that are numbered are held as lines that are answered
pub outcomes_held : (st : State) (l block : List ℕ) → (fed_outcomes st l block).held ≡ (fed st l block).held
outcomes_held st l block = held_alike numbering answering refl (λ s k. refl) block st l

outcomes_answers : (ls : List (List ℕ)) (st : State) (b : List ℕ) → buffer_limit ≤ length b → outcomes st b ls ≡ answers numbering.answer st ls
unfolding outcomes answers
outcomes_answers [] st b h = refl
outcomes_answers (l ∷ ls) st b h =
    let e = any_buffer st l b lent h lent_long in
    let number : (stepped st l b).number ≡ (outcome st l).number = ap (λ (s : Seen). s.number) e in
    let state : (stepped st l b).state ≡ (outcome st l).state = ap (λ (s : Seen). s.state) e in
    rw (number, state) (ap (λ (t : List ℕ). (outcome st l).number ∷ t) (outcomes_answers ls (outcome st l).state (stepped st l b).buffer (omega (arith, stays_long st l b))))

outcomes_whole : (input : List ℕ) → outcomes_of input ≡ (fed_outcomes start_factory [] input).output ++ ended_outcomes (fed start_factory [] input).held
unfolding outcomes_of lent ended_outcomes
outcomes_whole input =
    outcomes_answers (input_lines (pieces 10 input)) start_factory lent lent_long ∙ whole_input numbering clips_outcomes start_factory input
    ∙ ap (λ (h : Held). (fed_outcomes start_factory [] input).output ++ ended_outcomes h) (outcomes_held start_factory [] input)

pub whole : Whole
unfolding ksrun
whole input =
    let h = (fed start_factory [] input).held in
    let counts : tallied (outcomes_of input) ≡ closing (tallied (fed_outcomes start_factory [] input).output) h =
    ap tallied (outcomes_whole input) ∙ counted_append (fed_outcomes start_factory [] input).output (ended_outcomes h) empty_tally in
    (λ i. answers_whole input i ++ tally_text (counts i)) ∙ append_assoc (fed start_factory [] input).output (ended h) _

-- ---- acts

-- the acts of a line, by what is seen of its outcome, and by whether it asks to save
abbrev acts_seen : Manner → Bool → Seen → List Act
acts_seen k asked s = map prints s.text ++ due_acts (k.storing && (eqb s.number 0 && asked)) (cond k.explaining s.number 0) s.state

abbrev answer_seen : Manner → Bool → Seen → Answer State Act
answer_seen k asked s = record { state = s.state; text = acts_seen k asked s }

acts_seen_lem : (k : Manner) (st : State) (l b : List ℕ) → line_acts k st l b ≡ acts_seen k (asks_to_save (reading l)) (seen (stepped st l b))
unfolding saves
acts_seen_lem k st l b = refl

-- what a refused line asks does not show
refused_alike : (k : Manner) (asked asked' : Bool) (s : Seen) → eqb s.number 0 ≡ false → answer_seen k asked s ≡ answer_seen k asked' s
refused_alike k asked asked' s e = rw e refl

-- a line that is too long is refused
long_refused : (st : State) (l : List ℕ) → line_limit < length l → eqb (outcome st l).number 0 ≡ false
long_refused st l h =
    ⊎_elim
    (λ w. rw (step_number st l lent w, too_long st l lent lent_long h) refl)
    (λ w. rw (step_ill st l lent w) refl)
    (either (well_formed st))

pub clips_acts : (k : Manner) → Clips (acting k)
unfolding saves
clips_acts k st l =
    let short = take (suc line_limit) l in
    elim (dec_lt line_limit (length l)) [
      | yes h ↦ ap (answer_seen k (asks_to_save (reading short))) (clipped st l lent lent_long)
          ∙ refused_alike k (asks_to_save (reading short)) (asks_to_save (reading l)) (seen (outcome st l)) (long_refused st l h)
      | no h ↦ ap ((acting k).answer st) (take_all (suc line_limit) l (omega arith))
    ]

-- the buffer that is lent again does not show
acted_answers : (k : Manner) (ls : List (List ℕ)) (st : State) (b : List ℕ) → buffer_limit ≤ length b → acted k st b ls ≡ answers (acting k).answer st ls
unfolding acted answers
acted_answers k [] st b h = refl
acted_answers k (l ∷ ls) st b h =
    let e = any_buffer st l b lent h lent_long in
    let state : (stepped st l b).state ≡ (outcome st l).state = ap (λ (s : Seen). s.state) e in
    let acts : line_acts k st l b ≡ line_acts k st l lent = acts_seen_lem k st l b ∙ ap (acts_seen k (asks_to_save (reading l))) e ∙ sym (acts_seen_lem k st l lent) in
    rw (acts, state) (ap (λ (t : List Act). line_acts k st l lent ++ t) (acted_answers k ls (outcome st l).state (stepped st l b).buffer (omega (arith, stays_long st l b))))

pub whole_acts : WholeActs
unfolding ksbench lent ended_acts
whole_acts k st input = acted_answers k (input_lines (pieces 10 input)) st lent lent_long ∙ whole_input (acting k) (clips_acts k) st input
