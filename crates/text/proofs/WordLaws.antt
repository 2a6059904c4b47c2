-- The cursor's words are those of document 01. `word_by_word` is for a caller that reads one after the other.
use Prim.Native.Nat.{ℕ, suc, ◌+◌, ◌-◌, ◌<◌, ◌≤◌}
use mathlib.Core.Path.{◌≡◌, refl, sym, ap, ◌∙◌}
use mathlib.Core.List.{List, [], ◌∷◌, map}
use mathlib.Core.Bool.{Bool, true, false, cond, not, beq}
use native.Mathlib.Omega.{arith}
use native.Mathlib.Numerals.{add-one}
use lib.Dec.{eqb, leb}
use lib.ListN.{length, take, drop, get_or, length-take, length-drop, length-map, drop_of_length-le}
use lib.Seq.{drop-cons, drop-drop}
use borrow.Author.Tests.{eq-eqb, ne_eqb, leb-true}
use Rattle.model.specs.Lists.{kept, none?, between, pieces, ahead}
use Rattle.model.specs.Words.{words, upper}
use Rattle.model.proofs.Basics.{and_split}
use Rattle.text.specs.declared.words.Word.{Word}
use Rattle.text.specs.Cursor.{lead, blanks, run, next_word, word_at, words_from, Within}
use Rattle.text.specs.Claims.{WordByWord}
use Rattle.text.proofs.Lists.{map_take, map_drop}

-- ---- upper case

-- a byte is raised, or it is itself
raised : (b : ℕ) (t : Bool) → between 97 122 b ≡ t → (eqb (cond t (b - 32) b) 32 ≡ eqb b 32)
raised b false e = refl
raised b true e =
    let s = and_split (leb 97 b) (leb b 122) e in
    let lo = leb-true 97 b s.0 in
    ne_eqb (b - 32) 32 (λ h. omega arith) ∙ sym (ne_eqb b 32 (λ h. omega arith))

-- a space is a space in either case
space_upper : (b : ℕ) → eqb (upper b) 32 ≡ eqb b 32
space_upper b = raised b (between 97 122 b) refl

-- ---- how many bytes stand first

run_upper : (l : List ℕ) → run (map upper l) ≡ run l
unfolding lead
run_upper [] = refl
run_upper (b ∷ bs) = rw (space_upper b, run_upper bs)

pick_le : (t : Bool) (a b n : ℕ) → a ≤ n → b ≤ n → cond t a b ≤ n
pick_le true a b n p q = p
pick_le false a b n p q = q

module _ (spaces : Bool) where
  pub lead_le : (l : List ℕ) → lead spaces l ≤ length l
  unfolding lead
  lead_le [] = omega arith
  lead_le (b ∷ bs) = pick_le (beq (eqb b 32) spaces) (suc (lead spaces bs)) 0 (suc (length bs)) (omega (arith, lead_le bs)) (omega arith)

  -- as a search for the first other byte counts
  pub lead_none : lead spaces [] ≡ 0
  unfolding lead
  lead_none = refl

  pub lead_hit : (b : ℕ) (bs : List ℕ) → beq (eqb b 32) spaces ≡ false → lead spaces (b ∷ bs) ≡ 0
  unfolding lead
  lead_hit b bs e = rw e

  pub lead_miss : (b : ℕ) (bs : List ℕ) → beq (eqb b 32) spaces ≡ true → lead spaces (b ∷ bs) ≡ lead spaces bs + 1
  unfolding lead
  lead_miss b bs e = rw e (omega arith)

  -- a loop over the line: one byte on, another byte, and the end
  module _ (l : List ℕ) (i : ℕ) where
    pub lead_next : i < length l → beq (eqb (get_or l i 0) 32) spaces ≡ true → lead spaces (drop i l) ≡ suc (lead spaces (drop (i + 1) l))
    unfolding lead
    lead_next h e = rw (add-one, drop-cons l i 0, e)

    pub lead_stop : i < length l → beq (eqb (get_or l i 0) 32) spaces ≡ false → lead spaces (drop i l) ≡ 0
    unfolding lead
    lead_stop h e = rw (drop-cons l i 0, e)

    pub lead_end : length l ≤ i → lead spaces (drop i l) ≡ 0
    unfolding lead
    lead_end h = rw (drop_of_length-le l h)

-- a word goes on, or a space ends it
module _ (l : List ℕ) (i : ℕ) (h : i < length l) where
  pub run_next : (get_or l i 0 ≡ 32 → ⊥) → run (drop i l) ≡ suc (run (drop (i + 1) l))
  run_next e = lead_next false l i h (rw (ne_eqb (get_or l i 0) 32 e))

  pub run_stop : get_or l i 0 ≡ 32 → run (drop i l) ≡ 0
  run_stop e = lead_stop false l i h (rw (eq-eqb (get_or l i 0) 32 e))

-- ---- words, of a line in capitals

abbrev full : List ℕ → Bool
full w = not (none? w)

-- the pieces behind the first run
after : List ℕ → List (List ℕ)
after [] = []
after (b ∷ bs) = cond (eqb b 32) (pieces 32 bs) (after bs)

pieces_step : (b : ℕ) (bs : List ℕ) (t : Bool) → eqb b 32 ≡ t → pieces 32 bs ≡ take (run bs) bs ∷ after bs →
    pieces 32 (b ∷ bs) ≡ take (run (b ∷ bs)) (b ∷ bs) ∷ after (b ∷ bs)
unfolding pieces ahead lead after
pieces_step b bs true e h = rw e
pieces_step b bs false e h = rw (e, h)

pieces_run : (l : List ℕ) → pieces 32 l ≡ take (run l) l ∷ after l
unfolding pieces lead after
pieces_run [] = refl
pieces_run (b ∷ bs) = pieces_step b bs (eqb b 32) refl (pieces_run bs)

-- the words behind the first run are what is kept of those pieces
after_step : (b : ℕ) (bs : List ℕ) (t : Bool) → eqb b 32 ≡ t → kept full (after bs) ≡ kept full (pieces 32 (drop (run bs) bs)) →
    kept full (after (b ∷ bs)) ≡ kept full (pieces 32 (drop (run (b ∷ bs)) (b ∷ bs)))
unfolding pieces lead after kept none?
after_step b bs true e h = rw (e, e)
after_step b bs false e h = rw e h

after_run : (l : List ℕ) → kept full (after l) ≡ kept full (pieces 32 (drop (run l) l))
unfolding pieces lead after kept none?
after_run [] = refl
after_run (b ∷ bs) = after_step b bs (eqb b 32) refl (after_run bs)

-- where a word stands first
first_step : (b : ℕ) (bs : List ℕ) (t : Bool) → eqb b 32 ≡ t → 0 < run (b ∷ bs) →
    kept full (pieces 32 (b ∷ bs)) ≡ take (run (b ∷ bs)) (b ∷ bs) ∷ kept full (pieces 32 (drop (run (b ∷ bs)) (b ∷ bs)))
unfolding kept none? lead after
first_step b bs true e h = let z : 0 < 0 = rw e at h in absurd (omega arith)
first_step b bs false e h = rw (pieces_run (b ∷ bs), e) (ap (λ (ws : List (List ℕ)). (b ∷ take (run bs) bs) ∷ ws) (after_run bs))

kept_first : (l : List ℕ) → 0 < run l → kept full (pieces 32 l) ≡ take (run l) l ∷ kept full (pieces 32 (drop (run l) l))
unfolding lead
kept_first [] h = absurd (omega arith)
kept_first (b ∷ bs) h = first_step b bs (eqb b 32) refl h

-- ---- words

pub words_run : (l : List ℕ) → 0 < run l → words l ≡ map upper (take (run l) l) ∷ words (drop (run l) l)
unfolding words
words_run l h =
    kept_first (map upper l) (rw (run_upper l) h) ∙
    rw (run_upper l, map_take upper (run l) l, map_drop upper (run l) l)

-- a space first is no part of a word
words_space : (b : ℕ) (bs : List ℕ) → eqb b 32 ≡ true → words (b ∷ bs) ≡ words bs
unfolding words pieces kept none?
words_space b bs e = rw (space_upper b, e)

-- spaces first, and then: no word, or the words from there on
words_blanks : (l : List ℕ) → words l ≡ words (drop (blanks l) l)
unfolding lead
words_blanks [] = refl
words_blanks (b ∷ bs) = pick (eqb b 32) refl (words_blanks bs)
  where
    pick : (t : Bool) → eqb b 32 ≡ t → words bs ≡ words (drop (blanks bs) bs) → words (b ∷ bs) ≡ words (drop (cond (beq t true) (suc (blanks bs)) 0) (b ∷ bs))
    pick true e h = words_space b bs e ∙ h
    pick false e h = refl

words_end : (l : List ℕ) → run (drop (blanks l) l) ≡ 0 → words l ≡ []
unfolding lead words pieces kept none?
words_end [] h = refl
words_end (b ∷ bs) h = pick (eqb b 32) refl (words_end bs) h
  where
    pick : (t : Bool) → eqb b 32 ≡ t → (run (drop (blanks bs) bs) ≡ 0 → words bs ≡ []) → run (drop (cond (beq t true) (suc (blanks bs)) 0) (b ∷ bs)) ≡ 0 → words (b ∷ bs) ≡ []
    pick true e f z = words_space b bs e ∙ f z
    pick false e f z = let y : ◌≡◌ {A = ℕ} (suc (run bs)) 0 = rw e at z in absurd (omega arith)

-- ---- the bytes of a word

module _ (line : List ℕ) (start n : ℕ) (h : start + n ≤ length line) where
  pub length_word : length (word_at line start n) ≡ n
  length_word = simp (length-map, length-take, length-drop) (omega arith)

-- ---- the cursor

-- where the next word starts
abbrev pub start_from : List ℕ → ℕ → ℕ
start_from line at = at + blanks (drop at line)

module _ (line : List ℕ) (at : ℕ) where
  abbrev start : ℕ
  start = start_from line at

  pub none_left : run (drop start line) ≡ 0 → words_from line at ≡ []
  none_left h = words_end (drop at line) (rw (drop-drop (blanks (drop at line)) at line) h)

  pub one_left : 0 < run (drop start line) → words_from line at ≡ word_at line start (run (drop start line)) ∷ words_from line (start + run (drop start line))
  one_left h =
      words_blanks (drop at line) ∙ ap words (drop-drop (blanks (drop at line)) at line) ∙ words_run (drop start line) h ∙
      rw (drop-drop (run (drop start line)) start line)

  next_within : at ≤ length line → Within line (next_word line at)
  next_within h =
      let s : start ≤ length line = omega (arith, lead_le true (drop at line), length-drop at line) in
      record { ordered = omega arith; inside = omega (arith, lead_le false (drop start line), length-drop start line) }

module _ (line : List ℕ) (at : ℕ) (w : Word) (e : w ≡ next_word line at) where
  pub word_within : at ≤ length line → Within line w
  word_within h = rw e (next_within line at h)

  pub word_on : at ≤ w.start
  word_on = rw e (omega arith)

-- no word is left, or the word and those behind it
pub word_by_word : WordByWord
word_by_word line at w e =
    let p = ap (λ (v : Word). v.start) e in
    let q = ap (λ (v : Word). v.end) e in
    let s = start line at in
    let r = run (drop s line) in
    let z : s + r - s ≡ r = omega arith in
    record {
      none = λ h. none_left line at (omega arith);
      more = λ h. rw e (one_left line at (omega arith) ∙ ap (λ (n : ℕ). word_at line s n ∷ words_from line (s + r)) (sym z));
    }
