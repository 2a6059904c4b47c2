-- A block on the way: what was answered and done up to a place, one line more, and where it stops.
use Prim.Native.Nat.{ℕ, ◌+◌, ◌-◌, ◌≤◌, ◌<◌}
use mathlib.Core.Path.{◌≡◌, refl, sym, ap, ◌∙◌}
use mathlib.Core.List.{List, [], ◌∷◌, ◌++◌, map, append_assoc, append-nil, map-append}
use mathlib.Core.Logic.{◌⊎◌, ⊎_elim}
use native.Mathlib.Omega.{arith}
use native.Mathlib.Decide.{dec_lt}
use mathlib.Core.Bool.{true, false, ◌||◌}
use Rattle.std.specs.Prelude.{Option, Some, None, is_some}
use lib.ListN.{length, take, drop, length-take}
use lib.Seq.{take_all}
use Rattle.model.specs.declared.State.{State as StoredState}
use Rattle.model.specs.Limits.{buffer_limit}
use Rattle.model.specs.Memory.{State}
use Rattle.model.specs.Stored.{FineState, state_of}
use Rattle.lines.specs.Before.{before}
use Rattle.session.specs.declared.cut.Kept.{Kept}
use Rattle.model.specs.Bench.{Act, prints, stored_acts, due_acts, line_acts}
use Rattle.lines.specs.Feed.{Held, holding}
use Rattle.lines.specs.Feed as Lines
use Rattle.lines.proofs.Feeding.{fed_nothing}
use Rattle.session.specs.Feed.{lent, Fed, answering, acting, numbering, fed, ended, fed_acts, ended_acts, fed_outcomes, ended_outcomes, said, outcome, enough}
use Rattle.session.specs.Blocks.{Answered, Answers, Run, Runs, Feeds, Ends, held_of, manner_of, with_due, nothing}
use Rattle.session.specs.declared.feed.Session.{Session}
use Rattle.session.specs.declared.feed.Fed.{Fed as StoredFed}
use Rattle.session.specs.declared.due.Manner.{Manner as StoredManner}
use Rattle.session.specs.declared.due.Due.{Due}
use Rattle.model.specs.Lists.{none?}
use Rattle.model.specs.Tally.{Tally, counted, counted_all}
use Rattle.model.proofs.Histories.Tally.{counted_append}
use Rattle.tally.specs.Counts.{tally_of}
use Rattle.model.proofs.Basics.{true_false, or_false}
use Rattle.session.proofs.Rest.{with_rest, written_long, replied_more}
use Rattle.lines.proofs.Places.{line_at, fed_turn, fed_rest, fed_first, fed_on, rest, rest_long}
use Rattle.session.proofs.Whole.{clips, clips_acts, clips_outcomes, outcomes_held}

-- ---- the run over a block

-- the acts, where nothing is due
undue : (answers : List ℕ) (s : StoredState) → with_due answers nothing s ≡ map prints answers
unfolding stored_acts
undue answers s = append-nil (map prints answers)

-- answers behind answers, of which nothing is due behind the first
due_behind : (a b : List ℕ) (d : Due) (s t : StoredState) → with_due a nothing s ++ with_due b d t ≡ with_due (a ++ b) d t
due_behind a b d s t = rw (undue a s, map-append prints a b, append_assoc) refl

-- the acts of a line that was answered
line_acts_lem : (k : StoredManner) (s : StoredState) (t : Tally) (line b c : List ℕ) (s' : StoredState) (t' : Tally) (n : ℕ) (d : Due) → Answered k s t line b c s' t' n d →
    line_acts (manner_of k) (state_of s) line lent ≡ with_due (said (state_of s) line) d s'
line_acts_lem k s t line b c s' t' n d a = sym (λ i. map prints (said (state_of s) line) ++ due_acts (a.store i) (a.reason i) (a.state i))

-- what was fed, in other words
fed_as : {h h' : Held State} {o o' : List Act} → h ≡ h' → o ≡ o' → ◌≡◌ {A = Lines.Fed State Act} (record { held = h; output = o }) (record { held = h'; output = o' })
fed_as p q = λ i. record { held = p i; output = q i }

-- whether something is due
pub not_due : (d : Due) → d.store || is_some d.reason ≡ false → d ≡ nothing
not_due d e = let p = or_false d.store (is_some d.reason) e in λ i. record { store = p.0 i; reason = no_reason d.reason p.1 i }
  where
    no_reason : (r : Option ℕ) → is_some r ≡ false → r ≡ None
    no_reason None h = refl
    no_reason (Some n) h = true_false h

pub some_due : (d : Due) → d.store || is_some d.reason ≡ true → d ≡ nothing → ⊥
some_due d e z = true_false (sym e ∙ ap (λ (x : Due). x.store || is_some x.reason) z)

pub run_start : (k : StoredManner) (s : StoredState) (t : Tally) (block out : List ℕ) → FineState s → Run k (state_of s) t block out out s t 0 0 nothing
unfolding stored_acts counted_all
run_start k s t block out f =
    let e = fed_nothing answering (state_of s) [] in
    record {
      within = omega arith;
      fine = f;
      held = ap (λ (x : Fed). x.held) e;
      puts = record { count_is = ap (λ (x : Fed). length x.output) (sym e); bytes = rw e refl };
      room = omega arith;
      long = refl;
      acts = fed_nothing (acting (manner_of k)) (state_of s) [] ∙ rw e refl;
      tally = rw (fed_nothing numbering (state_of s) []) refl;
      begun = λ z. refl;
    }

module _ (k : StoredManner) (st₀ : State) (t₀ : Tally) (block out₀ out : List ℕ) (s : StoredState) (t : Tally) (at w : ℕ) (run : Run k st₀ t₀ block out₀ out s t at w nothing) where
  -- a line ends at end: what is fed then
  turned : (end : ℕ) → end ≡ at + before (drop at block) → end < length block →
      fed st₀ [] (take (end + 1) block)
      ≡ record { held = holding (outcome (state_of s) (line_at block at)).state []; output = (fed st₀ [] (take at block)).output ++ said (state_of s) (line_at block at) }
  turned end e h = fed_turn answering st₀ [] block at (state_of s) run.held end e clips h

  -- and what is done
  acted : (end : ℕ) → end ≡ at + before (drop at block) → end < length block →
      fed_acts (manner_of k) st₀ [] (take (end + 1) block)
      ≡ record {
        held = holding (outcome (state_of s) (line_at block at)).state [];
        output = with_due (fed st₀ [] (take at block)).output nothing s ++ line_acts (manner_of k) (state_of s) (line_at block at) lent;
      }
  acted end e h =
      let held = ap (λ (x : Lines.Fed State Act). x.held) run.acts in
      fed_turn (acting (manner_of k)) st₀ [] block at (state_of s) held end e (clips_acts (manner_of k)) h
      ∙ ap (λ (t : List Act). record {
        held = holding (outcome (state_of s) (line_at block at)).state [];
        output = t ++ line_acts (manner_of k) (state_of s) (line_at block at) lent;
      }) (ap (λ (x : Lines.Fed State Act). x.output) run.acts)

  -- and what is counted
  numbered : (end : ℕ) → end ≡ at + before (drop at block) → end < length block →
      (fed_outcomes st₀ [] (take (end + 1) block)).output ≡ (fed_outcomes st₀ [] (take at block)).output ++ ((outcome (state_of s) (line_at block at)).number ∷ [])
  numbered end e h =
      ap (λ (x : Fed). x.output) (fed_turn numbering st₀ [] block at (state_of s) (outcomes_held st₀ [] (take at block) ∙ run.held) end e clips_outcomes h)

  -- a line is answered
  pub run_turn : (end : ℕ) → end ≡ at + before (drop at block) → end < length block → (line y : List ℕ) → line ≡ line_at block at →
      {s' : StoredState} {t' : Tally} {n : ℕ} {d : Due} → Answered k s t line (rest out w) y s' t' n d →
      Run k st₀ t₀ block out₀ (with_rest out w y) s' t' (end + 1) (w + n) d
  unfolding counted_all
  run_turn end e h line y l {s'} {t'} {n} {d} a =
      let f = turned end e h in
      let said-line : said (state_of s) line ≡ said (state_of s) (line_at block at) = ap (said (state_of s)) l in
      let p = replied_more (fed st₀ [] (take at block)).output (said (state_of s) line) out₀ out y w n run.puts run.room run.long a.puts in
      let sofar = (fed st₀ [] (take at block)).output in
      let state : state_of s' ≡ (outcome (state_of s) (line_at block at)).state = a.state ∙ ap (λ (t : List ℕ). (outcome (state_of s) t).state) l in
      let own = ap (λ (t : List ℕ). line_acts (manner_of k) (state_of s) t lent) (sym l) ∙ line_acts_lem k s t line _ _ s' t' n d a in
      let roomy : w + n ≤ length out₀ = omega (arith, a.room, rest_long out w, run.room, run.long) in
      record {
        within = omega arith;
        fine = a.fine;
        held = ap (λ (x : Fed). x.held) f ∙ ap (λ (q : State). holding q []) (sym state);
        puts = rw (f, sym said-line) p;
        room = roomy;
        long = ap length p.bytes ∙ written_long ((fed st₀ [] (take at block)).output ++ said (state_of s) line) out₀ (omega (arith, p.count_is, roomy));
        acts = acted end e h ∙ fed_as (ap (λ (q : State). holding q []) (sym state))
            (ap (λ (t : List Act). with_due sofar nothing s ++ t) own ∙ due_behind sofar (said (state_of s) line) d s s'
            ∙ ap (λ (t : List ℕ). with_due (sofar ++ t) d s') said-line ∙ ap (λ (x : Fed). with_due x.output d s') (sym f));
        tally = a.tally ∙ (λ i. counted (run.tally i) (outcome (state_of s) (l i)).number)
            ∙ sym (counted_append (fed_outcomes st₀ [] (take at block)).output ((outcome (state_of s) (line_at block at)).number ∷ []) t₀) ∙ ap (counted_all t₀) (sym (numbered end e h));
        begun = λ z. absurd (omega arith);
      }

module _ (k : StoredManner) (st₀ : State) (t₀ : Tally) (block out₀ out : List ℕ) (s : StoredState) (t : Tally) (at w : ℕ) (d : Due) (run : Run k st₀ t₀ block out₀ out s t at w d) where
  -- where nothing was used, nothing was answered
  run_none : at ≡ 0 → w ≡ 0
  run_none z = run.puts.count_is ∙ ap (λ (x : Fed). length x.output) (ap (λ (j : ℕ). fed st₀ [] (take j block)) z ∙ fed_nothing answering st₀ [])

-- nothing is due, by what is stored of it
pub run_idle : {k : StoredManner} {st₀ : State} {t₀ : Tally} {block out₀ out : List ℕ} {s : StoredState} {t : Tally} {at w : ℕ} {d : Due} → d ≡ nothing →
    Run k st₀ t₀ block out₀ out s t at w d → Run k st₀ t₀ block out₀ out s t at w nothing
run_idle e run = rw e at run

-- ---- what a run leaves

-- what is kept of the rest of a block, where nothing was held before
pub keeps_rest : (k₀ k : Kept) (l : List ℕ) (n : ℕ) → k₀.count ≡ 0 → length l ≤ n → take k.count k.bytes ≡ take enough (take k₀.count k₀.bytes ++ take n l) →
    take k.count k.bytes ≡ take enough l
keeps_rest k₀ k l n z h p = p ∙ rw (z, take_all n l h) refl

-- an answer was written, or something is due, so something was used
moved : (at w n : ℕ) (d : Due) → buffer_limit ≤ n → (at ≡ 0 → w ≡ 0) → (at ≡ 0 → d ≡ nothing) → (n - w < buffer_limit) ⊎ (d ≡ nothing → ⊥) → 0 < at
moved at w n d h f g stops =
    elim (dec_lt 0 at) [
      | yes p ↦ p
      | no q ↦ let z : at ≡ 0 = omega arith in ⊎_elim (λ full. absurd (omega (arith, f z))) (λ some. absurd (some (g z))) stops
    ]

module _ (k : StoredManner) (s : Session) (block out₀ out : List ℕ) (r : StoredFed) (runs : Runs k s block out₀ out r) (none : s.held.count ≡ 0) (end : ℕ) (e : end ≡ r.used + before (drop r.used block)) where
  no_line : (held_of s).line ≡ []
  no_line = ap (λ (n : ℕ). take n s.held.bytes) none

  -- the rest of the block has no LF: it is held
  pub run_whole : end ≡ length block → (kept : Kept) → take kept.count kept.bytes ≡ take enough (drop r.used block) →
      Feeds k s block out₀ out (record { session = record { state = r.session.state; tally = r.session.tally; held = kept }; used = end; written = r.written; due = r.due })
  run_whole h kept keeps =
      let st₀ = state_of s.state in
      let st = state_of r.session.state in
      let at = r.used in
      let run = runs.run in
      let f = fed_rest answering st₀ [] block at st run.held end e run.within h in
      record {
        within = omega arith;
        moves = λ m. omega arith;
        puts = rw (no_line, f) run.puts;
        room = run.room;
        held = rw (no_line, f, keeps) refl;
        fine = run.fine;
        acts = rw no_line (fed_rest (acting (manner_of k)) st₀ [] block at st (ap (λ (x : Lines.Fed State Act). x.held) run.acts) end e run.within h
            ∙ fed_as (ap (holding st) (sym keeps))
            (ap (λ (x : Lines.Fed State Act). x.output) run.acts ∙ ap (λ (x : Fed). with_due x.output r.due r.session.state) (sym f)));
        tally = rw no_line (run.tally ∙ ap (λ (x : Fed). counted_all (tally_of s.tally) x.output)
            (sym (fed_rest numbering st₀ [] block at st (outcomes_held st₀ [] (take at block) ∙ run.held) end e run.within h)));
      }

  -- no room for another answer, or something is due: nothing is held
  pub run_stop : end < length block → buffer_limit ≤ length out₀ → Feeds k s block out₀ out r
  run_stop h room =
      let run = runs.run in
      let full = runs.stops (omega arith) in
      record {
        within = run.within;
        moves = λ m. moved r.used r.written (length out) r.due (omega (arith, run.long))
            (run_none k (state_of s.state) (tally_of s.tally) block out₀ out r.session.state (tally_of r.session.tally) r.used r.written r.due run) run.begun full;
        puts = rw no_line run.puts;
        room = run.room;
        held = rw (runs.held, no_line, run.held) refl;
        fine = run.fine;
        acts = rw (runs.held, no_line) run.acts;
        tally = rw no_line run.tally;
      }

-- ---- the end of the input

module _ {X : Type 0} (m : Lines.Machine State X) (st : State) where
  ended_none : (l : List ℕ) → length l ≡ 0 → Lines.ended m (holding st l) ≡ []
  unfolding none?
  ended_none [] e = refl
  ended_none (x ∷ l) e = absurd (omega arith)

  ended_some : (l : List ℕ) → 0 < length l → Lines.ended m (holding st l) ≡ (m.answer st l).text
  unfolding none?
  ended_some [] h = absurd (omega arith)
  ended_some (x ∷ l) h = refl

pub ends_none : (k : StoredManner) (s : Session) (b : List ℕ) → FineState s.state → s.held.count ≡ 0 →
    Ends k s b b (record { session = s; used = 0; written = 0; due = nothing })
unfolding ended ended_acts ended_outcomes stored_acts counted_all
ends_none k s b fine none =
    let z : length (held_of s).line ≡ 0 = ap (λ (n : ℕ). length (take n s.held.bytes)) none in
    let e = ended_none answering (state_of s.state) (held_of s).line z in
    record {
      puts = record { count_is = ap length (sym e); bytes = rw e refl };
      room = omega arith;
      fine = fine;
      acts = rw (ended_none (acting (manner_of k)) (state_of s.state) (held_of s).line z, e) refl;
      tally = rw (ended_none numbering (state_of s.state) (held_of s).line z) refl;
    }

pub ends_answered : (k : StoredManner) (s : Session) (b d : List ℕ) (r : StoredFed) → 0 < length (held_of s).line → Answers k s (held_of s).line b d r → Ends k s b d r
unfolding ended ended_acts ended_outcomes counted_all
ends_answered k s b d r h answers =
    let a = answers.answered in
    let e = ended_some answering (state_of s.state) (held_of s).line h in
    record {
      puts = rw e a.puts;
      room = a.room;
      fine = a.fine;
      acts = ended_some (acting (manner_of k)) (state_of s.state) (held_of s).line h ∙ line_acts_lem k s.state _ (held_of s).line b d _ _ _ _ a
          ∙ ap (λ (t : List ℕ). with_due t r.due r.session.state) (sym e);
      tally = a.tally ∙ rw (ended_some numbering (state_of s.state) (held_of s).line h) refl;
    }

-- ---- the line that was held

-- as much is held as is enough
held_few : (s : Session) → length (held_of s).line ≤ enough
held_few s = rw (length-take s.held.count s.held.bytes) (omega (arith, s.held.few))

-- the held line ends in the block
pub held_ends : (m : StoredManner) (s : Session) (block b d line : List ℕ) (end : ℕ) (r : StoredFed) → end ≡ 0 + before (drop 0 block) → end < length block →
    line ≡ take enough ((held_of s).line ++ take end block) → Answers m s line b d r →
    Feeds m s block b d (record { session = r.session; used = end + 1; written = r.written; due = r.due })
unfolding counted_all
held_ends m s block b d line end r e h keeps answers =
    let a = answers.answered in
    let st = state_of s.state in
    let l = (held_of s).line in
    let short = held_few s in
    let f = fed_first answering st l block short end e h in
    record {
      within = omega arith;
      moves = λ z. omega arith;
      puts = rw (f, ← keeps) a.puts;
      room = a.room;
      held = rw (f, ← keeps, answers.held) (ap (λ (q : State). holding q []) a.state);
      fine = a.fine;
      acts = fed_first (acting (manner_of m)) st l block short end e h
          ∙ ap (λ (t : List ℕ). record { held = holding (outcome st t).state []; output = line_acts (manner_of m) st t lent }) (sym keeps)
          ∙ fed_as (rw answers.held (ap (λ (q : State). holding q []) (sym a.state)))
          (line_acts_lem m s.state _ line b d _ _ _ _ a ∙ ap (λ (t : List ℕ). with_due (said st t) r.due r.session.state) keeps
          ∙ ap (λ (x : Fed). with_due x.output r.due r.session.state) (sym f));
      tally = a.tally ∙ ap (λ (t : List ℕ). counted (tally_of s.tally) (outcome st t).number) keeps
          ∙ ap (λ (x : Fed). counted_all (tally_of s.tally) x.output) (sym (fed_first numbering st l block short end e h));
    }

-- the held line goes on
pub held_on : (m : StoredManner) (s : Session) (block b : List ℕ) (end : ℕ) (kept : Kept) → FineState s.state → end ≡ 0 + before (drop 0 block) → end ≡ length block →
    take kept.count kept.bytes ≡ take enough ((held_of s).line ++ take end block) →
    Feeds m s block b b (record { session = record { state = s.state; tally = s.tally; held = kept }; used = end; written = 0; due = nothing })
unfolding stored_acts counted_all
held_on m s block b end kept fine e h keeps =
    let st = state_of s.state in
    let l = (held_of s).line in
    let short = held_few s in
    let f = fed_on answering st l block short end e h in
    record {
      within = omega arith;
      moves = λ z. omega arith;
      puts = rw f (record { count_is = refl; bytes = refl });
      room = omega arith;
      held = rw (f, keeps) refl;
      fine = fine;
      acts = fed_on (acting (manner_of m)) st l block short end e h
          ∙ fed_as (ap (holding st) (sym keeps)) (ap (λ (x : Fed). with_due x.output nothing s.state) (sym f));
      tally = ap (λ (x : Fed). counted_all (tally_of s.tally) x.output) (sym (fed_on numbering st l block short end e h));
    }
