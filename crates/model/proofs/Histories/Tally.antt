-- A day's tally, proved: `tally_claims`; and that the counts of a tally stay those that make up its total.
use Prim.Native.Nat.{ℕ, zero, suc, ◌+◌, ◌-◌, ◌≤◌}
use mathlib.Core.Path.{◌≡◌, refl, sym, ap, ◌∙◌}
use mathlib.Core.List.{List, [], ◌∷◌, ◌++◌, map}
use mathlib.Core.Bool.{true, false, cond}
use mathlib.Core.Logic.{⊎_elim}
use native.Mathlib.Nat.{zero-add}
use native.Mathlib.Omega.{arith}
use borrow.Author.Tests.{eqb-true, eqb-false, ltb-true, ltb-false, lt-ltb, le-ltb, leb-true}
use lib.Seq.{take-nil}
use lib.Dec.{eqb, leb, ltb}
use lib.ListN.{length, get_or, take, drop, length-drop}
use Rattle.model.specs.Ascii.{ascii}
use Rattle.model.specs.Lists.{all, kept, table, joined}
use Rattle.model.specs.Limits.{most_counted}
use Rattle.model.specs.Memory.{State}
use Rattle.model.specs.Machine.{stepped}
use Rattle.model.specs.Tally.{Tally, empty_tally, count_of, one_more, counted, counted_all, tallied, tally_line, refused_line, refused_lines, tally_text, sum, Sums}
use Rattle.model.specs.TallyClaims.{occurrences, occurs, counting, TallyClaims}
use Rattle.model.specs.Trace.{outcomes}
use Rattle.model.proofs.Basics.{either, and_split}

-- ---- one more at a place

-- the count there
one_more_here : (cs : List ℕ) (n : ℕ) → get_or (one_more cs n) n 0 ≡ suc (get_or cs n 0)
unfolding one_more
one_more_here [] zero = refl
one_more_here [] (suc n) = one_more_here [] n
one_more_here (c ∷ cs) zero = refl
one_more_here (c ∷ cs) (suc n) = one_more_here cs n

-- the others
one_more_there : (cs : List ℕ) (n m : ℕ) → (n ≡ m → ⊥) → get_or (one_more cs n) m 0 ≡ get_or cs m 0
unfolding one_more
one_more_there [] zero zero h = absurd (h refl)
one_more_there [] zero (suc m) h = refl
one_more_there [] (suc n) zero h = refl
one_more_there [] (suc n) (suc m) h = one_more_there [] n m (λ e. h (ap suc e))
one_more_there (c ∷ cs) zero zero h = absurd (h refl)
one_more_there (c ∷ cs) zero (suc m) h = refl
one_more_there (c ∷ cs) (suc n) zero h = refl
one_more_there (c ∷ cs) (suc n) (suc m) h = one_more_there cs n m (λ e. h (ap suc e))

one_more_count : (cs : List ℕ) (o n : ℕ) → get_or (one_more cs o) n 0 ≡ cond (eqb o n) 1 0 + get_or cs n 0
one_more_count cs o n =
    ⊎_elim
    (λ h. ap (λ (m : ℕ). get_or (one_more cs o) m 0) (sym (eqb-true o n h)) ∙ one_more_here cs o ∙ ap (λ (m : ℕ). suc (get_or cs m 0)) (eqb-true o n h) ∙ rw h (omega arith))
    (λ h. one_more_there cs o n (eqb-false o n h) ∙ rw h (omega arith))
    (either (eqb o n))

one_more_sum : (cs : List ℕ) (n : ℕ) → sum (one_more cs n) ≡ suc (sum cs)
unfolding one_more sum
one_more_sum [] zero = refl
one_more_sum [] (suc n) = omega (arith, one_more_sum [] n)
one_more_sum (c ∷ cs) zero = omega arith
one_more_sum (c ∷ cs) (suc n) = omega (arith, one_more_sum cs n)

one_more_long : (cs : List ℕ) (n high : ℕ) → length cs ≤ suc high → n ≤ high → length (one_more cs n) ≤ suc high
unfolding one_more
one_more_long [] zero high h k = omega arith
one_more_long [] (suc n) (suc high) h k = omega (arith, one_more_long [] n high (omega arith) (omega arith))
one_more_long [] (suc n) zero h k = absurd (omega arith)
one_more_long (c ∷ cs) zero high h k = omega arith
one_more_long (c ∷ cs) (suc n) (suc high) h k = omega (arith, one_more_long cs n high (omega arith) (omega arith))
one_more_long (c ∷ cs) (suc n) zero h k = absurd (omega arith)

-- ---- one outcome

-- a tally with one outcome more
abbrev with_one : Tally → ℕ → Tally
with_one t n = record { counts = one_more t.counts n; total = suc t.total }

module _ (t : Tally) (n : ℕ) where
  -- it is counted
  pub counts_one : ltb t.total most_counted ≡ true → counted t n ≡ with_one t n
  unfolding counted
  counts_one h = rw h refl

  -- the tally stays
  pub counts_none : ltb t.total most_counted ≡ false → counted t n ≡ t
  unfolding counted
  counts_none h = rw h refl

  -- its counts make up its total, as before
  counted_sum : Sums t → Sums (counted t n)
  counted_sum e =
      ⊎_elim
      (λ h. rw (counts_one h) (one_more_sum t.counts n ∙ ap suc e))
      (λ h. rw (counts_none h) e)
      (either (ltb t.total most_counted))

pub same_sums : {t u : Tally} → t ≡ u → Sums u → Sums t
same_sums e h = rw e h

pub empty_sums : Sums empty_tally
unfolding sum
empty_sums = refl

pub counted_sums : (ns : List ℕ) (t : Tally) → Sums t → Sums (counted_all t ns)
unfolding counted_all
counted_sums [] t e = e
counted_sums (n ∷ ns) t e = counted_sums ns (counted t n) (counted_sum t n e)

-- ---- outcomes behind outcomes

pub counted_append : (ns ms : List ℕ) (t : Tally) → counted_all t (ns ++ ms) ≡ counted_all (counted_all t ns) ms
unfolding counted_all
counted_append [] ms t = refl
counted_append (n ∷ ns) ms t = counted_append ns ms (counted t n)

-- ---- as many as there is room for

-- how many more a tally counts
abbrev room : Tally → ℕ
room t = most_counted - t.total

-- the next outcome is one of the first for which there is room, or there is none
room_one : (t : Tally) (n : ℕ) (ns : List ℕ) → ltb t.total most_counted ≡ true → take (room t) (n ∷ ns) ≡ n ∷ take (most_counted - suc t.total) ns
room_one t n ns h = let e : room t ≡ suc (most_counted - suc t.total) = omega (arith, ltb-true t.total most_counted h) in rw e refl

room_none : (t : Tally) (ns : List ℕ) → ltb t.total most_counted ≡ false → take (room t) ns ≡ []
room_none t ns h = let e : room t ≡ 0 = omega (arith, ltb-false t.total most_counted h) in rw e refl

-- the count of a number, and the total
counts_all : (ns : List ℕ) (t : Tally) (n : ℕ) → count_of (counted_all t ns) n ≡ count_of t n + occurrences n (take (room t) ns)
unfolding counted_all occurrences
counts_all [] t n = rw (take-nil {A = ℕ} (room t)) (omega arith)
counts_all (o ∷ ns) t n =
    let sofar : List ℕ → ℕ = λ l. count_of t n + occurrences n l in
    ⊎_elim
    (λ h. ap (λ (u : Tally). count_of (counted_all u ns) n) (counts_one t o h) ∙ counts_all ns (with_one t o) n ∙ omega (arith, one_more_count t.counts o n) ∙ ap sofar (sym (room_one t o ns h)))
    (λ h. ap (λ (u : Tally). count_of (counted_all u ns) n) (counts_none t o h) ∙ counts_all ns t n ∙ ap sofar (room_none t ns h ∙ sym (room_none t (o ∷ ns) h)))
    (either (ltb t.total most_counted))

totals_all : (ns : List ℕ) (t : Tally) → (counted_all t ns).total ≡ t.total + length (take (room t) ns)
unfolding counted_all
totals_all [] t = rw (take-nil {A = ℕ} (room t)) (omega arith)
totals_all (n ∷ ns) t =
    let sofar : List ℕ → ℕ = λ l. t.total + length l in
    ⊎_elim
    (λ h. ap (λ (u : Tally). (counted_all u ns).total) (counts_one t n h) ∙ totals_all ns (with_one t n) ∙ omega arith ∙ ap sofar (sym (room_one t n ns h)))
    (λ h. ap (λ (u : Tally). (counted_all u ns).total) (counts_none t n h) ∙ totals_all ns t ∙ ap sofar (room_none t ns h ∙ sym (room_none t (n ∷ ns) h)))
    (either (ltb t.total most_counted))

full_stays : (ns : List ℕ) (t : Tally) → t.total ≡ most_counted → counted_all t ns ≡ t
unfolding counted_all
full_stays [] t e = refl
full_stays (n ∷ ns) t e = ap (λ (u : Tally). counted_all u ns) (counts_none t n (le-ltb t.total most_counted (omega arith))) ∙ full_stays ns t e

-- ---- what is printed

-- no number is higher, so no place is
counts_long : (ns : List ℕ) (t : Tally) (high : ℕ) → length t.counts ≤ suc high → all (λ n. leb n high) ns ≡ true → length (counted_all t ns).counts ≤ suc high
unfolding counted_all all
counts_long [] t high h a = h
counts_long (n ∷ ns) t high h a =
    let p = and_split (leb n high) (all (λ m. leb m high) ns) a in
    counts_long ns (counted t n) high
    (⊎_elim
    (λ e. rw (counts_one t n e) (one_more_long t.counts n high h (leb-true n high p.0)))
    (λ e. rw (counts_none t n e) h)
    (either (ltb t.total most_counted)))
    p.1

-- the lines of some numbers, told by the first of them or by the one before it
module _ (high n : ℕ) (counts : ℕ → ℕ) where
  shifted : (i : ℕ) → refused_line (suc n + i) (counts i) ≡ refused_line (n + suc i) (counts i)
  shifted i = let e : suc n + i ≡ n + suc i = omega arith in ap (λ (m : ℕ). refused_line m (counts i)) e

  lines_shifted : joined (table high (λ i. refused_line (suc n + i) (counts i))) ≡ joined (table high (λ i. refused_line (n + suc i) (counts i)))
  lines_shifted = ap (λ (f : ℕ → List ℕ). joined (table high f)) (λ j i. shifted i j)

-- the lines of counts, by place; behind the last place nothing is printed
lines_by_place : (high n : ℕ) (cs : List ℕ) → length cs ≤ high → refused_lines n cs ≡ joined (table high (λ i. refused_line (n + i) (get_or cs i 0)))
unfolding refused_lines refused_line joined table
lines_by_place zero n [] h = refl
lines_by_place zero n (c ∷ cs) h = absurd (omega arith)
lines_by_place (suc high) n [] h = lines_by_place high (suc n) [] (omega arith) ∙ lines_shifted high n (λ i. 0)
lines_by_place (suc high) n (c ∷ cs) h =
    let e : n ≡ n + 0 = omega arith in
    ap (λ (t : List ℕ). refused_line n c ++ t) (lines_by_place high (suc n) cs (omega arith) ∙ lines_shifted high n (λ i. get_or cs i 0))
    ∙ ap (λ (m : ℕ). refused_line m c ++ joined (table high (λ i. refused_line (n + suc i) (get_or cs i 0)))) e

-- and only the numbers are left that have a count
lines_kept : (high : ℕ) (number counts : ℕ → ℕ) →
    joined (table high (λ i. refused_line (number i) (counts (number i))))
    ≡ joined (map (λ n. tally_line (ascii "R ") n (counts n)) (kept (λ n. ltb 0 (counts n)) (table high number)))
unfolding refused_line joined table kept
lines_kept zero number counts = refl
lines_kept (suc high) number counts =
    let n = number 0 in
    let later = lines_kept high (λ i. number (suc i)) counts in
    ⊎_elim
    (λ e. rw (e, le-ltb 0 (counts n) (omega (arith, eqb-true (counts n) 0 e))) later)
    (λ e. rw (e, lt-ltb 0 (counts n) (omega (arith, eqb-false (counts n) 0 e))) (ap (λ (t : List ℕ). tally_line (ascii "R ") n (counts n) ++ t) later))
    (either (eqb (counts n) 0))

behind_first : (cs : List ℕ) (i : ℕ) → get_or (drop 1 cs) i 0 ≡ get_or cs (suc i) 0
behind_first [] i = refl
behind_first (c ∷ cs) i = refl

-- ---- all of it

module _ (os : List ℕ) where
  counts_told : (n : ℕ) → count_of (tallied os) n ≡ occurrences n (counting os)
  counts_told n = counts_all os empty_tally n ∙ zero-add (occurrences n (counting os))

  total_told : (tallied os).total ≡ length (counting os)
  total_told = totals_all os empty_tally ∙ zero-add (length (counting os))

  text_told : (high : ℕ) → all (λ n. leb n high) os ≡ true →
      tally_text (tallied os)
      ≡ tally_line (ascii "T ") (occurrences 0 (counting os)) (length (counting os))
      ++ joined (map (λ n. tally_line (ascii "R ") n (occurrences n (counting os))) (kept (λ n. occurs n (counting os)) (table high suc)))
  unfolding tally_text
  text_told high h =
      let cs = (tallied os).counts in
      let long : length (drop 1 cs) ≤ high = omega (arith, length-drop 1 cs, counts_long os empty_tally high (omega arith) h) in
      let same : (i : ℕ) → refused_line (1 + i) (get_or (drop 1 cs) i 0) ≡ refused_line (suc i) (occurrences (suc i) (counting os)) =
      λ i. let e : 1 + i ≡ suc i = omega arith in (λ j. refused_line (e j) ((behind_first cs i ∙ counts_told (suc i)) j)) in
      (λ j. tally_line (ascii "T ") (counts_told 0 j) (total_told j)
      ++ (lines_by_place high 1 (drop 1 cs) long ∙ ap (λ (f : ℕ → List ℕ). joined (table high f)) (λ k i. same i k)
      ∙ lines_kept high suc (λ n. occurrences n (counting os))) j)

-- one outcome for each line
one_each : (st : State) (b : List ℕ) (ls : List (List ℕ)) → length (outcomes st b ls) ≡ length ls
unfolding outcomes
one_each st b [] = refl
one_each st b (l ∷ ls) = let o = stepped st l b in ap suc (one_each o.state o.buffer ls)

pub tally_claims : TallyClaims
tally_claims =
    record {
      tells = λ os. record { counts = counts_told os; sums = counted_sums os empty_tally empty_sums; total = total_told os; text = text_told os };
      stays = λ t os e. full_stays os t e;
      lines = one_each;
    }
