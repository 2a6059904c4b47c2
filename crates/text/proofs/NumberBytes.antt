-- A number's bytes where they stand in a line: one byte on, a malformed one, and the end of the word.
use Prim.Native.Nat.{ℕ, ◌+◌, ◌-◌, ◌≤◌, ◌<◌}
use mathlib.Core.Path.{◌≡◌, refl, sym, ap, ◌∙◌}
use mathlib.Core.List.{List}
use mathlib.Core.Bool.{Bool, true, false, cond}
use native.Mathlib.Numerals.{add-one}
use native.Mathlib.Omega.{arith}
use borrow.Author.Tests.{ne_eqb, lt-leb, le-leb, leb-true}
use lib.Dec.{eqb, leb}
use lib.ListN.{length, drop, get_or}
use lib.Seq.{drop-cons}
use Rattle.model.specs.Lists.{between}
use Rattle.model.specs.Words.{upper, digit}
use Rattle.model.proofs.Basics.{and_split, true_false}
use Rattle.text.specs.declared.numbers.Num.{Num}
use Rattle.text.specs.declared.numbers.Num.TheVariants.{Start, Minus, Whole, Point, Part, Wrong}
use Rattle.text.specs.Cursor.{run, word_at}
use Rattle.text.specs.Numbers.{part, stepped, folded, wrong}
use Rattle.text.proofs.NumberLaws.{wrong_stays}
use Rattle.text.proofs.WordLaws.{run_next}

-- ---- upper case is of no account to a number

-- a byte from 65 on is in no number
record Letter (b : ℕ) : Type 0 where
  minus : eqb b 45 ≡ false
  point : eqb b 46 ≡ false
  none : digit b ≡ false

letter : (b : ℕ) → 65 ≤ b → Letter b
letter b h =
    record {
      minus = ne_eqb b 45 (λ e. omega arith);
      point = ne_eqb b 46 (λ e. omega arith);
      none = rw (le-leb 48 b (omega arith), lt-leb b 57 (omega arith));
    }

letter_step : (n : Num) (b : ℕ) → Letter b → stepped n b ≡ Wrong
letter_step Start b l = rw (l.minus, l.none)
letter_step Minus b l = rw l.none
letter_step (Whole g k v) b l = rw (l.point, l.none)
letter_step (Point g v) b l = rw l.none
letter_step (Part g v w) b l = pick (eqb w 0)
  where
    pick : (t : Bool) → cond t Wrong (part g v w b) ≡ Wrong
    pick true = refl
    pick false = rw l.none
letter_step Wrong b l = refl

step_upper : (n : Num) (b : ℕ) → stepped n (upper b) ≡ stepped n b
step_upper n b = pick (between 97 122 b) refl
  where
    pick : (t : Bool) → between 97 122 b ≡ t → stepped n (cond t (b - 32) b) ≡ stepped n b
    pick false e = refl
    pick true e =
        let s = and_split (leb 97 b) (leb b 122) e in
        let h = leb-true 97 b s.0 in
        letter_step n (b - 32) (letter (b - 32) (omega arith)) ∙ sym (letter_step n b (letter b (omega arith)))

-- ---- the rest of a word

-- the bytes from a place to the word's end
abbrev pub rest : List ℕ → ℕ → List ℕ
rest line at = word_at line at (run (drop at line))

pub fold_next : (line : List ℕ) (at : ℕ) (n : Num) → at < length line → (get_or line at 0 ≡ 32 → ⊥) → folded n (rest line at) ≡ folded (stepped n (get_or line at 0)) (rest line (at + 1))
unfolding folded
fold_next line at n h e =
    rw (run_next line at h e, drop-cons line at 0, ← add-one at) (ap (λ (m : Num). folded m (rest line (at + 1))) (step_upper n (get_or line at 0)))

pub fold_end : (line : List ℕ) (at : ℕ) (n : Num) → run (drop at line) ≡ 0 → folded n (rest line at) ≡ n
unfolding folded
fold_end line at n e = rw e

pub fold_wrong : (l : List ℕ) (n : Num) → wrong n ≡ true → folded n l ≡ Wrong
fold_wrong l n e = ap (λ (m : Num). folded m l) (is n e) ∙ wrong_stays l
  where
    is : (m : Num) → wrong m ≡ true → m ≡ Wrong
    is Start t = true_false (sym t)
    is Minus t = true_false (sym t)
    is (Whole g k v) t = true_false (sym t)
    is (Point g v) t = true_false (sym t)
    is (Part g v w) t = true_false (sym t)
    is Wrong t = refl
