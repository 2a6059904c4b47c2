-- From what the engine gives for a line to what is said.
use Prim.Native.Nat.{ℕ, ◌≤◌, ◌<◌}
use mathlib.Core.Path.{◌≡◌, refl, sym, ap, ◌∙◌}
use mathlib.Core.List.{List}
use mathlib.Core.Bool.{Bool, true, false, cond, not, ◌&&◌}
use mathlib.Core.Logic.{⊎_elim}
use native.Mathlib.Omega.{arith}
use borrow.Author.Tests.{eqb-true, eqb-false}
use lib.Dec.{eqb}
use lib.ListN.{length, drop, length-append}
use Rattle.model.specs.Ascii.{ascii}
use Rattle.model.specs.Reply.{decimal}
use Rattle.print.specs.Over.{Wrote}
use Rattle.model.proofs.Digits.{decimal_short}
use Rattle.reply.proofs.ListLaws.{replied}
use Rattle.model.specs.declared.State.{State as StoredState}
use Rattle.model.specs.Limits.{buffer_limit}
use Rattle.model.specs.Request.{reading}
use Rattle.model.specs.Machine.{Outcome, stepped, written}
use Rattle.model.specs.Checklist.{asks_to_save}
use Rattle.model.specs.PowerSwitch.{saves}
use Rattle.model.specs.Trace.{refusal_text, printed}
use Rattle.model.specs.Stored.{FineState, shaped, memory_of, state_of}
use Rattle.std.specs.Prelude.{Some, None, IfSome, Result, Ok, Err}
use Rattle.model.proofs.Basics.{either}
use Rattle.model.proofs.Histories.Kept.{well_formed_kept}
use Rattle.commands.specs.Done.{saving, saving_by, Doable, Applied}
use Rattle.engine.specs.declared.answer.Step.{Step}
use Rattle.engine.specs.Taken.{Takes, deed_of, count_of, settled_by, outcome_by}
use Rattle.engine.proofs.Taking.{can_settled, saves_settled}
use Rattle.facts.specs.declared.refusals.Refusal.{Refusal}
use Rattle.facts.specs.Refusals.{number_of}
use Rattle.facts.specs.Refusals.{outcome as told}
use Rattle.model.specs.Tally.{Tally, counted}
use Rattle.reply.specs.Lines.{Replied}
use Rattle.session.specs.Feed.{lent, said, outcome}
use Rattle.session.specs.Blocks.{Says, Answered, OfRefusal, Reasoned, reason_number, due_by}
use Rattle.session.specs.declared.due.Manner.{Manner as StoredManner}
use Rattle.session.specs.declared.due.Due.{Due}
use Rattle.session.proofs.Buffer.{Seen, seen, any_buffer, Writes, taken_writes, turned_down}
use Rattle.session.proofs.Whole.{lent_long}

-- ---- lengths

-- a text that was written over a buffer without making it longer fits
fits : (t b : List ℕ) → length (written t b) ≡ length b → length t ≤ length b
fits t b e = omega (arith, e, length-append t (drop (length t) b))

-- the number is a byte
refusal_short : (n : ℕ) → n < 256 → length (refusal_text n) ≤ 6
refusal_short n h = omega (arith, length-append (decimal n) (ascii "\n"), decimal_short 3 n (omega arith) (omega arith))

-- E and the number, written from place 0 on
pub refusal_written : (k : ℕ) → k < 256 → (b d : List ℕ) (n : ℕ) → buffer_limit ≤ length b → Wrote (refusal_text k) b 0 d n → Replied (refusal_text k) b d n
refusal_written k small b d n h w = replied (omega (arith, refusal_short k small)) w

-- ---- one line

module _ (s : StoredState) (fine : FineState s) (line b : List ℕ) (long : buffer_limit ≤ length b) (o : Outcome) (e : o ≡ stepped (state_of s) line b) where
  like_lent : seen o ≡ seen (outcome (state_of s) line)
  like_lent = ap seen e ∙ any_buffer (state_of s) line b lent long lent_long

  said_is : printed o ≡ said (state_of s) line
  said_is = ap (λ (x : Seen). x.text) like_lent

  -- an accepted line: its reply stands in the buffer
  taken_puts : o.number ≡ 0 → Replied (said (state_of s) line) b o.buffer o.count
  taken_puts z =
      let w : Writes o b = rw e (taken_writes (state_of s) line b (sym (ap (λ (x : Outcome). x.number) e) ∙ z)) in
      record { count_is = w.count ∙ ap length said_is; bytes = w.buffer ∙ ap (λ (t : List ℕ). written t b) said_is }

  -- a refused one: the buffer is as it was, and E and the number are written
  refused_puts : (o.number ≡ 0 → ⊥) → (d : List ℕ) (n : ℕ) → Replied (refusal_text o.number) o.buffer d n → Replied (said (state_of s) line) b d n
  refused_puts z d n p =
      let w : (printed o ≡ refusal_text o.number) × (o.buffer ≡ b) = rw e (turned_down (state_of s) line b (λ q. z (ap (λ (x : Outcome). x.number) e ∙ q))) in
      let text : refusal_text o.number ≡ said (state_of s) line = sym w.0 ∙ said_is in
      record {
        count_is = p.count_is ∙ ap length text;
        bytes = p.bytes ∙ ap (λ (t : List ℕ). written t o.buffer) text ∙ ap (λ (x : List ℕ). written (said (state_of s) line) x) w.1;
      }

  says_puts : (d : List ℕ) (n : ℕ) → Says o.number o.count o.buffer d n → Replied (said (state_of s) line) b d n
  says_puts d n p =
      ⊎_elim
      (λ h. let z = eqb-true o.number 0 h in rw ((p.taken z).0, (p.taken z).1) (taken_puts z))
      (λ h. let z = eqb-false o.number 0 h in refused_puts z d n (p.refused z))
      (either (eqb o.number 0))

  -- what is said fits
  pub says_room : (d : List ℕ) (n : ℕ) → Says o.number o.count o.buffer d n → length d ≡ length b → n ≤ length b
  says_room d n says kept =
      let p = says_puts d n says in
      rw p.count_is (fits (said (state_of s) line) b (sym (ap length p.bytes) ∙ kept))

  -- so the line is answered, by any stored state that stands for the next one, and what is due is what the number and the asking say
  pub answers : (k : StoredManner) (t : Tally) (d : List ℕ) {s' : StoredState} {t' : Tally} {n : ℕ} {due : Due} →
      Says o.number o.count o.buffer d n → length d ≡ length b → state_of s' ≡ o.state → shaped s' ≡ true → t' ≡ counted t o.number →
      due.store ≡ k.storing && (eqb o.number 0 && asks_to_save (reading line)) → reason_number due.reason ≡ cond k.explaining o.number 0 →
      Answered k s t line b d s' t' n due
  unfolding saves
  answers k t d {s'} {t'} {n} {due} says kept state shape tally store reason =
      record {
        puts = says_puts d n says;
        room = says_room d n says kept;
        state = state ∙ ap (λ (x : Seen). x.state) like_lent;
        fine = record { shape = shape; formed = rw (state, e) (well_formed_kept.line (state_of s) line b fine.formed) };
        tally = tally ∙ ap (λ (x : Seen). counted t x.number) like_lent;
        store = store ∙ ap (λ (x : Seen). k.storing && (eqb x.number 0 && asks_to_save (reading line))) like_lent;
        reason = reason ∙ ap (λ (x : Seen). cond k.explaining x.number 0) like_lent;
      }

-- ---- what a settled line does, and what is due behind it

reason_told : (b : Bool) (n : ℕ) → reason_number (cond (b && not (eqb n 0)) (Some n) None) ≡ cond b n 0
reason_told true n = ⊎_elim (λ e. rw e (sym (eqb-true n 0 e))) (λ e. rw e refl) (either (eqb n 0))
reason_told false n = refl

module _ (k : StoredManner) where
  due_stores : (settled : Result Step Refusal) → (due_by k settled).store ≡ k.storing && saving_by (deed_of settled)
  unfolding saving
  due_stores (Ok r) = refl
  due_stores (Err why) = refl

  due_explains : (settled : Result Step Refusal) → reason_number (due_by k settled).reason ≡ cond k.explaining (told settled) 0
  due_explains (Ok r) = reason_told k.explaining 0
  due_explains (Err why) = reason_told k.explaining (number_of why)

  pub due_reasoned : (settled : Result Step Refusal) → Reasoned (due_by k settled)
  due_reasoned (Ok r) = none_told k.explaining
    where
      none_told : (b : Bool) → IfSome (cond (b && false) (Some 0) None) OfRefusal
      none_told true = tt
      none_told false = tt
  due_reasoned (Err why) = its_number (k.explaining && not (eqb (number_of why) 0))
    where
      its_number : (b : Bool) → IfSome (cond b (Some (number_of why)) None) OfRefusal
      its_number true = record { why = why; number = refl }
      its_number false = tt

-- the same where the step was taken: it is settled and counted, it is said, and done
module _ (k : StoredManner) (s : StoredState) (t : Tally) (fine : FineState s) (line b : List ℕ) (long : buffer_limit ≤ length b) (decided : Result Step Refusal) (c : List ℕ)
    (takes : Takes s (asks_to_save (reading line)) (stepped (state_of s) line b) decided c) (settled : Result Step Refusal)
    (is_settled : settled ≡ settled_by (memory_of s.permanent) decided) where
  abbrev pub settled_outcome : Outcome
  settled_outcome = outcome_by (state_of s) settled c

  pub settled_is : settled_outcome ≡ stepped (state_of s) line b
  settled_is = ap (λ (r : Result Step Refusal). outcome_by (state_of s) r c) is_settled ∙ takes.outcome

  pub doable_done : Doable s.volatile (deed_of settled)
  doable_done = rw is_settled (can_settled (memory_of s.permanent) decided takes.doable)

  saves_done : saving_by (deed_of settled) ≡ eqb (told settled) 0 && asks_to_save (reading line)
  saves_done =
      ap (λ (r : Result Step Refusal). saving_by (deed_of r)) is_settled ∙ saves_settled (memory_of s.permanent) decided
      ∙ takes.saves ∙ ap (λ (x : Outcome). eqb x.number 0 && asks_to_save (reading line)) (sym settled_is)

  pub answers_taken : (d : List ℕ) (n : ℕ) → Says (told settled) (count_of settled) c d n → length d ≡ length b →
      (t' : Tally) → t' ≡ counted t (told settled) → (due : Due) → due ≡ due_by k settled →
      {next : StoredState} → Applied s (deed_of settled) next → Answered k s t line b d next t' n due
  answers_taken d n says kept t' tally due is {next} done =
      answers s fine line b long settled_outcome settled_is k t d says kept done.state (done.shape fine.shape) tally
      (ap (λ (x : Due). x.store) is ∙ due_stores k settled ∙ ap (λ (x : Bool). k.storing && x) saves_done)
      (ap (λ (x : Due). reason_number x.reason) is ∙ due_explains k settled)
