-- A block on the way: the lines up to a place were obeyed, one line more, and where it stops.
use Rattle.std.proofs.Common.{◌≡◌, ℕ, suc, ◌+◌, ◌-◌, ◌<◌, ◌≤◌, List, [], ◌∷◌, ◌++◌, length, take, drop, sym, refl, ap, ◌∙◌, arith}
use native.Mathlib.Decide.{dec_lt}
use Rattle.model.specs.Lists.{none?}
use Rattle.model.specs.declared.State.{State as StoredState}
use Rattle.model.specs.Stored.{View, view_of}
use Rattle.lines.specs.Before.{before}
use Rattle.lines.specs.Feed.{Answer, Fed, kept, fed, ended, holding}
use Rattle.lines.proofs.Feeding.{fed_nothing}
use Rattle.lines.proofs.Places.{line_at, fed_turn, fed_rest, fed_first, fed_on}
use Rattle.print.specs.Over.{Wrote}
use Rattle.print.proofs.Laws.{wrote_then, wrote_none}
use Rattle.script.specs.declared.obey.Obeyed.{Obeyed}
use Rattle.script.specs.declared.feed.Script.{Script}
use Rattle.script.specs.Directive.{longest_line}
use Rattle.script.specs.Answer.{longest_answer}
use Rattle.script.specs.Obey.{Obeys}
use Rattle.script.specs.Run.{Place, place, following, answering, place_of, Keeps, Feeds, Ends}
use Rattle.script.proofs.Cutting.{clips}

-- ---- whole lines

-- the lines up to a place were obeyed: the state there, the next line's number, and so many bytes of answers
pub record Run (p₀ : Place) (block out₀ out : List ℕ) (s : StoredState) (k at w : ℕ) : Type 0 where
  pub within : at ≤ length block
  pub held : (fed answering p₀ [] (take at block)).held ≡ holding (place (view_of s) k) []
  pub puts : Wrote (fed answering p₀ [] (take at block)).output out₀ 0 out w
  pub room : w ≤ length out₀

-- a text that is the same one
wrote_by : {t u before after : List ℕ} {at n : ℕ} → t ≡ u → Wrote t before at after n → Wrote u before at after n
wrote_by e w = rw e at w

pub run_start : (s : StoredState) (k : ℕ) (block out : List ℕ) → Run (place (view_of s) k) block out out s k 0 0
run_start s k block out =
    let e = fed_nothing answering (place (view_of s) k) [] in
    record {
      within = omega arith;
      held = ap (λ (x : Fed Place ℕ). x.held) e;
      puts = wrote_by (ap (λ (x : Fed Place ℕ). x.output) (sym e)) (wrote_none out 0);
      room = omega arith;
    }

module _ (p₀ : Place) (block out₀ out : List ℕ) (s : StoredState) (k at w : ℕ) (run : Run p₀ block out₀ out s k at w) (end : ℕ)
    (e : end ≡ at + before (drop at block)) where
  -- a line is obeyed
  pub run_turn : end < length block → (line : List ℕ) → line ≡ line_at block at → (after : List ℕ) (o : Obeyed) → Obeys (view_of s) k line out w after o →
      length out ≡ length out₀ → Run p₀ block out₀ after o.state (following k) (end + 1) o.end
  run_turn h line l after o obeys long =
      let f = fed_turn answering p₀ [] block at (place (view_of s) k) run.held end e clips h in
      let a = ap (λ (x : List ℕ). answering.answer (place (view_of s) k) x) (sym l) in
      let g = f ∙ ap (λ (x : Answer Place ℕ). record { held = holding x.state []; output = (fed answering p₀ [] (take at block)).output ++ x.text }) a in
      record {
        within = omega arith;
        held = ap (λ (x : Fed Place ℕ). x.held) g ∙ ap (λ (v : View). holding (place v (following k)) []) (sym obeys.state);
        puts = wrote_by (ap (λ (x : Fed Place ℕ). x.output) (sym g)) (wrote_then run.puts obeys.text);
        room = omega (arith, obeys.inside);
      }

  -- the rest of the block has no LF: it is held
  pub run_whole : end ≡ length block → (line : List ℕ) (n : ℕ) → length line ≡ suc longest_line → Keeps (drop at block) line n →
      Feeds p₀ [] block out₀ out line (record { script = record { state = s; line = k; held = n }; used = end; written = w })
  run_whole h line n long keeps =
      let f = fed_rest answering p₀ [] block at (place (view_of s) k) run.held end e run.within h in
      record {
        within = omega arith;
        moves = λ m. omega arith;
        puts = wrote_by (ap (λ (x : Fed Place ℕ). x.output) (sym f)) run.puts;
        room = run.room;
        held = ap (holding (place (view_of s) k)) (keeps.bytes ∙ ap (λ (j : ℕ). take j (drop at block)) long) ∙ sym (ap (λ (x : Fed Place ℕ). x.held) f);
        few = keeps.inside;
      }

module _ (p₀ : Place) (block out₀ out : List ℕ) (s : StoredState) (k at w : ℕ) (run : Run p₀ block out₀ out s k at w) where
  -- where nothing was used, nothing was answered
  run_none : at ≡ 0 → w ≡ 0
  run_none z =
      let e = ap (λ (j : ℕ). fed answering p₀ [] (take j block)) z ∙ fed_nothing answering p₀ [] in
      omega (arith, run.puts.place, ap (λ (x : Fed Place ℕ). length x.output) e)

  -- no room for another answer: nothing is held
  pub run_stop : (line : List ℕ) → longest_answer ≤ length out₀ → length out ≡ length out₀ → length out - w < longest_answer →
      Feeds p₀ [] block out₀ out line (record { script = record { state = s; line = k; held = 0 }; used = at; written = w })
  run_stop line room long full =
      record {
        within = run.within;
        moves = λ m. elim (dec_lt 0 at) [ yes p ↦ p | no q ↦ absurd (omega (arith, run_none (omega arith))) ];
        puts = run.puts;
        room = run.room;
        held = sym run.held;
        few = omega arith;
      }

-- ---- the line that was held

module _ (p : Place) (l block : List ℕ) (few : length l ≤ suc longest_line) (end : ℕ) (e : end ≡ 0 + before (drop 0 block)) (line : List ℕ) (n : ℕ)
    (long : length line ≡ suc longest_line) (keeps : Keeps (l ++ take end block) line n) where
  line_is : take n line ≡ kept answering (l ++ take end block)
  line_is = keeps.bytes ∙ ap (λ (j : ℕ). take j (l ++ take end block)) long

  -- it goes on
  pub held_on : (s : StoredState) (k : ℕ) → p ≡ place (view_of s) k → (out : List ℕ) → end ≡ length block →
      Feeds p l block out out line (record { script = record { state = s; line = k; held = n }; used = end; written = 0 })
  held_on s k q out h =
      let f = fed_on answering p l block few end e h in
      record {
        within = omega arith;
        moves = λ m. omega arith;
        puts = wrote_by (ap (λ (x : Fed Place ℕ). x.output) (sym f)) (wrote_none out 0);
        room = omega arith;
        held = ap (λ (x : Place). holding x (take n line)) (sym q) ∙ ap (holding p) line_is ∙ sym (ap (λ (x : Fed Place ℕ). x.held) f);
        few = keeps.inside;
      }

  -- it ends in the block
  pub held_ends : (out after : List ℕ) (o : Obeyed) (m : ℕ) → m ≡ following p.number → Obeys p.view p.number (take n line) out 0 after o → end < length block →
      Feeds p l block out after line (record { script = record { state = o.state; line = m; held = 0 }; used = end + 1; written = o.end })
  held_ends out after o m q obeys h =
      let a = ap (answering.answer p) line_is in
      let next = (answering.answer p (take n line)).state.view in
      let f = fed_first answering p l block few end e h ∙ ap (λ (x : Answer Place ℕ). record { held = holding x.state []; output = x.text }) (sym a) in
      record {
        within = omega arith;
        moves = λ z. omega arith;
        puts = wrote_by (ap (λ (x : Fed Place ℕ). x.output) (sym f)) obeys.text;
        room = obeys.inside;
        held = ap (λ (v : View). holding (place v m) []) obeys.state ∙ ap (λ (j : ℕ). holding (place next j) []) q ∙ sym (ap (λ (x : Fed Place ℕ). x.held) f);
        few = omega arith;
      }

-- ---- the end of the input

pub ends_none : (s : Script) (held out : List ℕ) → s.held ≡ 0 → Ends s held out out 0
unfolding none?
ends_none s held out z = record { puts = rw z (wrote_none out 0); room = omega arith }

ended_some : (p : Place) (l : List ℕ) → 0 < length l → ended answering (holding p l) ≡ (answering.answer p l).text
unfolding none?
ended_some p [] h = absurd (omega arith)
ended_some p (x ∷ l) h = refl

pub ends_obeyed : (s : Script) (held out after : List ℕ) (o : Obeyed) → 0 < length (take s.held held) →
    Obeys (view_of s.state) s.line (take s.held held) out 0 after o → Ends s held out after o.end
ends_obeyed s held out after o h obeys =
    record { puts = wrote_by (sym (ended_some (place_of s) (take s.held held) h)) obeys.text; room = obeys.inside }
