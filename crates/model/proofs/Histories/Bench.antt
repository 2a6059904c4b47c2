-- The bench's program, proved: `bench_claims`.
use Prim.Native.Nat.{ℕ}
use mathlib.Core.Path.{◌≡◌, refl, sym, ap, ◌∙◌}
use mathlib.Core.List.{List, [], ◌∷◌, ◌++◌, map, append_assoc}
use mathlib.Core.Bool.{Bool, true, false, cond, not, ◌&&◌}
use mathlib.Core.Option.{Option, some}
use mathlib.Core.Logic.{⊎_elim}
use lib.Dec.{eqb}
use lib.ListN.{replicate}
use Rattle.model.specs.Lists.{kept, pieces}
use Rattle.model.specs.Limits.{buffer_limit}
use Rattle.model.specs.Memory.{Memory, State, started}
use Rattle.model.specs.WellFormed.{well_formed}
use Rattle.model.specs.Request.{reading}
use Rattle.model.specs.Image.{image}
use Rattle.model.specs.Machine.{Begun, began, stepped, restart, start_factory}
use Rattle.model.specs.Trace.{Call, line, called, after_calls, printed, session, outcomes, input_lines, answers_to, entering}
use Rattle.model.specs.Checklist.{asks_to_save}
use Rattle.model.specs.Demand.{Start, factory_start, image_start, start_state}
use Rattle.model.specs.PowerSwitch.{saves, none_saves}
use Rattle.model.specs.Bench.{Act, prints, stores, explains, Manner, manner, stored_acts, due_acts, due_store, due_reason, line_due, line_acts, acted, ksbench, gathered, byte_of, image_of, number_of, powered_on, file_after, file_of, sent, saved_images, refused_numbers, FileKeeps, BenchClaims}
use Rattle.model.proofs.Basics.{true_false, and_split, either}
use Rattle.model.proofs.Ladder.Refusing.{restart_fine}
use Rattle.model.proofs.Ladder.Exact.{start_some}
use Rattle.model.proofs.Memories.Fine.{state_of_lem}
use Rattle.model.proofs.Image.Exactly.{reads_back}
use Rattle.model.proofs.Edits.Saving.{line_permanent}
use Rattle.model.proofs.Histories.Switched.{call_permanent, power_switch}

-- ---- acts, gathered

gathered_append : {X : Type 0} (f : Act → List X) (xs ys : List Act) → gathered f (xs ++ ys) ≡ gathered f xs ++ gathered f ys
unfolding gathered
gathered_append f [] ys = refl
gathered_append {X} f (a ∷ xs) ys = ap (λ (t : List X). f a ++ t) (gathered_append f xs ys) ∙ sym (append_assoc (f a) (gathered f xs) (gathered f ys))

-- the bytes of an answer
bytes_printed : (t : List ℕ) → gathered byte_of (map prints t) ≡ t
unfolding gathered byte_of
bytes_printed [] = refl
bytes_printed (b ∷ t) = ap (λ (u : List ℕ). b ∷ u) (bytes_printed t)

none_printed : {X : Type 0} (f : Act → List X) → ((b : ℕ) → f (prints b) ≡ []) → (t : List ℕ) → gathered f (map prints t) ≡ []
unfolding gathered
none_printed f e [] = refl
none_printed f e (b ∷ t) = rw (e b) (none_printed f e t)

-- ---- what is due behind an answer

due_bytes : (s : Bool) (n : ℕ) (st : State) → gathered byte_of (due_acts s n st) ≡ []
unfolding gathered byte_of stored_acts
due_bytes true n st = ⊎_elim (λ e. rw e refl) (λ e. rw e refl) (either (eqb n 0))
due_bytes false n st = ⊎_elim (λ e. rw e refl) (λ e. rw e refl) (either (eqb n 0))

due_images : (s : Bool) (n : ℕ) (st : State) → gathered image_of (due_acts s n st) ≡ cond s (image st.permanent ∷ []) []
unfolding gathered image_of stored_acts
due_images true n st = ⊎_elim (λ e. rw e refl) (λ e. rw e refl) (either (eqb n 0))
due_images false n st = ⊎_elim (λ e. rw e refl) (λ e. rw e refl) (either (eqb n 0))

due_numbers : (s : Bool) (n : ℕ) (st : State) → gathered number_of (due_acts s n st) ≡ cond (eqb n 0) [] (n ∷ [])
unfolding gathered number_of stored_acts
due_numbers true n st = ⊎_elim (λ e. rw e refl) (λ e. rw e refl) (either (eqb n 0))
due_numbers false n st = ⊎_elim (λ e. rw e refl) (λ e. rw e refl) (either (eqb n 0))

-- of a line
module _ (k : Manner) (st : State) (l b : List ℕ) where
  line_bytes : gathered byte_of (line_due k st l b) ≡ []
  line_bytes = due_bytes (due_store k st l b) (due_reason k st l b) _

  line_numbers : gathered number_of (line_due k st l b) ≡ cond (eqb (due_reason k st l b) 0) [] (due_reason k st l b ∷ [])
  line_numbers = due_numbers (due_store k st l b) (due_reason k st l b) _

  line_images : gathered image_of (line_due k st l b) ≡ cond (due_store k st l b) (image (stepped st l b).state.permanent ∷ []) []
  line_images = due_images (due_store k st l b) (due_reason k st l b) _

-- ---- what goes where

-- one line more
more : {X : Type 0} (f : Act → List X) (k : Manner) (st : State) (l b : List ℕ) (rest : List Act) →
    gathered f (line_acts k st l b ++ rest)
    ≡ gathered f (map prints (printed (stepped st l b))) ++ (gathered f (line_due k st l b) ++ gathered f rest)
more f k st l b rest =
    let said = map prints (printed (stepped st l b)) in
    let due = line_due k st l b in
    gathered_append f (said ++ due) rest
    ∙ ap (λ t. t ++ gathered f rest) (gathered_append f said due)
    ∙ append_assoc (gathered f said) (gathered f due) (gathered f rest)

answers_alike : (k : Manner) (st : State) (b : List ℕ) (ls : List (List ℕ)) → gathered byte_of (acted k st b ls) ≡ session st b ls
unfolding acted session gathered
answers_alike k st b [] = refl
answers_alike k st b (l ∷ ls) =
    let o = stepped st l b in
    more byte_of k st l b (acted k o.state o.buffer ls)
    ∙ rw (bytes_printed (printed o), line_bytes k st l b) (ap (λ (t : List ℕ). printed o ++ t) (answers_alike k o.state o.buffer ls))

-- the image that a saving line has stored
image_due : (st : State) (l b : List ℕ) →
    cond (saves st (entering (line l b))) (image (stepped st l b).state.permanent ∷ []) [] ≡ cond (saves st (entering (line l b))) (image st.volatile ∷ []) []
unfolding saves
image_due st l b =
    ⊎_elim
    (λ s. rw s (ap (λ (m : Memory). image m ∷ []) (line_permanent st l b ∙ ap (λ (t : Bool). cond t st.volatile st.permanent) s)))
    (λ s. rw s refl)
    (either (eqb (stepped st l b).number 0 && asks_to_save (reading l)))

images_gathered : (s x : Bool) (st : State) (b : List ℕ) (ls : List (List ℕ)) →
    gathered image_of (acted (manner s x) st b ls) ≡ cond s (saved_images st (sent st b ls)) []
unfolding acted gathered sent saved_images image_of after_calls called
images_gathered true x st b [] = refl
images_gathered true x st b (l ∷ ls) =
    let o = stepped st l b in
    let k = manner true x in
    more image_of k st l b (acted k o.state o.buffer ls)
    ∙ rw (none_printed image_of (λ c. refl) (printed o), line_images k st l b, image_due st l b)
    (ap (λ (t : List (List ℕ)). cond (saves st (entering (line l b))) (image st.volatile ∷ []) [] ++ t) (images_gathered true x o.state o.buffer ls))
images_gathered false x st b [] = refl
images_gathered false x st b (l ∷ ls) =
    let o = stepped st l b in
    let k = manner false x in
    more image_of k st l b (acted k o.state o.buffer ls)
    ∙ rw (none_printed image_of (λ c. refl) (printed o), line_images k st l b) (images_gathered false x o.state o.buffer ls)

numbers_gathered : (s x : Bool) (st : State) (b : List ℕ) (ls : List (List ℕ)) →
    gathered number_of (acted (manner s x) st b ls) ≡ cond x (refused_numbers st b ls) []
unfolding acted gathered number_of kept outcomes
numbers_gathered s true st b [] = refl
numbers_gathered s true st b (l ∷ ls) =
    let o = stepped st l b in
    let k = manner s true in
    more number_of k st l b (acted k o.state o.buffer ls)
    ∙ rw (none_printed number_of (λ c. refl) (printed o), line_numbers k st l b)
    (ap (λ (t : List ℕ). cond (eqb o.number 0) [] (o.number ∷ []) ++ t) (numbers_gathered s true o.state o.buffer ls)
    ∙ ⊎_elim (λ e. rw e refl) (λ e. rw e refl) (either (eqb o.number 0)))
numbers_gathered s false st b [] = refl
numbers_gathered s false st b (l ∷ ls) =
    let o = stepped st l b in
    let k = manner s false in
    more number_of k st l b (acted k o.state o.buffer ls)
    ∙ rw (none_printed number_of (λ c. refl) (printed o), line_numbers k st l b) (numbers_gathered s false o.state o.buffer ls)

-- ---- the file

after_append : (f : Option (List ℕ)) (xs ys : List Act) → file_after f (xs ++ ys) ≡ file_after (file_after f xs) ys
unfolding file_after
after_append f [] ys = refl
after_append f (prints b ∷ xs) ys = after_append f xs ys
after_append f (stores i ∷ xs) ys = after_append (some i) xs ys
after_append f (explains n ∷ xs) ys = after_append f xs ys

after_printed : (f : Option (List ℕ)) (t : List ℕ) → file_after f (map prints t) ≡ f
unfolding file_after
after_printed f [] = refl
after_printed f (b ∷ t) = after_printed f t

after_due : (f : Option (List ℕ)) (s : Bool) (n : ℕ) (st : State) → file_after f (due_acts s n st) ≡ cond s (some (image st.permanent)) f
unfolding file_after stored_acts
after_due f true n st = ⊎_elim (λ e. rw e refl) (λ e. rw e refl) (either (eqb n 0))
after_due f false n st = ⊎_elim (λ e. rw e refl) (λ e. rw e refl) (either (eqb n 0))

-- after a line of a session that stores
after_line : (f : Option (List ℕ)) (x : Bool) (st : State) (l b : List ℕ) →
    file_after f (line_acts (manner true x) st l b) ≡ cond (saves st (entering (line l b))) (some (image (stepped st l b).state.permanent)) f
after_line f x st l b =
    let o = stepped st l b in
    let k = manner true x in
    let due = line_due k st l b in
    after_append f (map prints (printed o)) due
    ∙ ap (λ (g : Option (List ℕ)). file_after g due) (after_printed f (printed o))
    ∙ after_due f (due_store k st l b) (due_reason k st l b) o.state

-- what is permanent after calls of which none saves
unsaved : (st : State) (cs : List Call) → none_saves st cs ≡ true → (after_calls st cs).permanent ≡ st.permanent
unfolding none_saves after_calls
unsaved st [] n = refl
unsaved st (c ∷ cs) n =
    let p = and_split (not (saves st c)) (none_saves (called st c) cs) n in
    unsaved (called st c) cs p.1 ∙ call_permanent st c
    ∙ ⊎_elim (λ s. true_false (sym p.0 ∙ ap not s)) (λ s. rw s refl) (either (saves st c))

-- after lines: as it was where none of them saves; otherwise the image of what is permanent then
after_lines : (f : Option (List ℕ)) (x : Bool) (st : State) (b : List ℕ) (ls : List (List ℕ)) →
    file_after f (acted (manner true x) st b ls) ≡ cond (none_saves st (sent st b ls)) f (some (image (after_calls st (sent st b ls)).permanent))
unfolding acted file_after sent none_saves after_calls called
after_lines f x st b [] = refl
after_lines f x st b (l ∷ ls) =
    let o = stepped st l b in
    let cs = sent o.state o.buffer ls in
    let later = acted (manner true x) o.state o.buffer ls in
    after_append f (line_acts (manner true x) st l b) later
    ∙ ap (λ (h : Option (List ℕ)). file_after h later) (after_line f x st l b)
    ∙ after_lines (cond (saves st (entering (line l b))) (some (image o.state.permanent)) f) x o.state o.buffer ls
    ∙ ⊎_elim (λ s. rw s (last_one o.state cs)) (λ s. rw s refl) (either (saves st (entering (line l b))))
  where
    -- this line saved, and what came later did or did not
    last_one : (st' : State) (cs : List Call) →
        cond (none_saves st' cs) (some (image st'.permanent)) (some (image (after_calls st' cs).permanent)) ≡ some (image (after_calls st' cs).permanent)
    last_one st' cs =
        ⊎_elim (λ n. rw n (ap (λ (m : Memory). some (image m)) (sym (unsaved st' cs n)))) (λ n. rw n refl) (either (none_saves st' cs))

-- a start with the image of a well-formed state's permanent memory
image_starts : (st : State) → well_formed st ≡ true → powered_on (some (image st.permanent)) ≡ restart st
unfolding powered_on
image_starts st w = start_some (image st.permanent) st.permanent (reads_back st.permanent (state_of_lem st w).permanent) ∙ sym (restart_fine st w)

begins : (start : Start) → powered_on (file_of start) ≡ began (start_state start) 0
unfolding powered_on file_of start_state
begins factory_start = refl
begins (image_start bytes m e) = ap (λ (o : Begun). began o.state o.number) (start_some bytes m e) ∙ ap (λ (o : Begun). began o.state 0) (sym (start_some bytes m e))

-- a start has its memory in both places, level 0 and no error
start_fresh : (start : Start) → start_state start ≡ started (start_state start).permanent
unfolding start_state
start_fresh factory_start = refl
start_fresh (image_start bytes m e) =
    let s = ap (λ (o : Begun). o.state) (start_some bytes m e) in
    s ∙ ap (λ (st : State). started st.permanent) (sym s)

module _ (x : Bool) (start : Start) (b : List ℕ) (ls : List (List ℕ)) where
  abbrev cs : List Call
  cs = sent (start_state start) b ls

  abbrev end : State
  end = after_calls (start_state start) cs

  -- from the factory or from an image, with nothing saved since
  starts_again : none_saves (start_state start) cs ≡ true → powered_on (file_of start) ≡ restart end
  starts_again n =
      begins start ∙ ap (λ (st : State). began st 0) (start_fresh start)
      ∙ ap (λ (m : Memory). began (started m) 0) (sym (unsaved (start_state start) cs n))
      ∙ sym (restart_fine end (power_switch start cs).fine)

  file_keeps : FileKeeps x start b ls
  file_keeps =
      let back = power_switch start cs in
      let f = after_lines (file_of start) x (start_state start) b ls in
      record {
        file = f ∙ ap (λ (m : Memory). cond (none_saves (start_state start) cs) (file_of start) (some (image m))) back.permanent;
        starts = ap powered_on f ∙ ⊎_elim (λ n. rw n (starts_again n)) (λ n. rw n (image_starts end back.fine)) (either (none_saves (start_state start) cs));
      }

pub bench_claims : BenchClaims
unfolding ksbench answers_to
bench_claims =
    record {
      begins = begins;
      goes = λ k st b ls. record { answers = answers_alike k st b ls; stored = images_gathered k.storing k.explaining st b ls; reasons = numbers_gathered k.storing k.explaining st b ls };
      as_ksrun = λ k input. answers_alike k start_factory (replicate buffer_limit 0) (input_lines (pieces 10 input));
      keeps = file_keeps;
    }
