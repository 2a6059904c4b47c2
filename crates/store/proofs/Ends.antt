-- Laws of the end of a number, and of a mark's two ends; and that a written mark is read back.
use Prim.Native.Nat.{ℕ, zero, suc, ◌+◌, ◌/◌, ◌%◌, ◌^◌, ◌≤◌, ◌<◌}
use mathlib.Core.Path.{◌≡◌, refl, sym, ap, ◌∙◌}
use mathlib.Core.List.{List, [], ◌∷◌, ◌++◌, append_assoc}
use mathlib.Core.Bool.{Bool, true, false, cond}
use native.Mathlib.Omega.{arith}
use borrow.Author.Tests.{eq-eqb, ne_eqb, lt-ltb, le-ltb, le-leb}
use lib.Dec.{eqb}
use lib.ListN.{length, drop, get_or, length-append}
use lib.Seq.{drop-append_seam, get_or-append-add, get_or-append_seam}
use Rattle.std.proofs.Common.{Some, None, zero-add}
use Rattle.model.specs.Lists.{joined, between}
use Rattle.model.specs.Reply.{decimal, last_digits, digits_of}
use Rattle.model.proofs.Digits.{length_digits, decimal_short}
use Rattle.store.specs.Mark.{longest_number, mark_text, leading_digits, number_end, mark_of, ReadsBack}

-- ---- the tests, one after the other, by how many digits there are

module _ (text : List ℕ) (from stop n : ℕ) (e : n ≡ leading_digits (drop from text)) where
  pub no_digit : n ≡ 0 → None ≡ number_end text from stop
  unfolding number_end
  no_digit h = rw (← e, h)

  module _ (some : n ≡ 0 → ⊥) where
    pub too_long : longest_number < n → None ≡ number_end text from stop
    unfolding number_end
    too_long h = rw (← e, ne_eqb n 0 some, lt-ltb longest_number n h)

    module _ (short : n ≤ longest_number) where
      pub nothing_behind : length text ≤ from + n → from + n ≤ length text → None ≡ number_end text from stop
      unfolding number_end
      nothing_behind h k = rw (← e, ne_eqb n 0 some, le-ltb longest_number n short, eq-eqb (from + n) (length text) (omega arith))

      module _ (more : from + n < length text) where
        behind : eqb (from + n) (length text) ≡ false
        behind = ne_eqb (from + n) (length text) (λ z. absurd (omega arith))

        pub other_byte : (get_or text (from + n) 0 ≡ stop → ⊥) → None ≡ number_end text from stop
        unfolding number_end
        other_byte h = rw (← e, ne_eqb n 0 some, le-ltb longest_number n short, behind, ne_eqb (get_or text (from + n) 0) stop h)

        pub number_found : get_or text (from + n) 0 ≡ stop → Some (from + n) ≡ number_end text from stop
        unfolding number_end
        number_found h = rw (← e, ne_eqb n 0 some, le-ltb longest_number n short, behind, eq-eqb (get_or text (from + n) 0) stop h)

-- ---- the two ends

module _ (text : List ℕ) where
  pub no_first : None ≡ number_end text 0 32 → None ≡ mark_of text
  unfolding mark_of
  no_first e = rw (← e)

  module _ (a : ℕ) (first : Some a ≡ number_end text 0 32) where
    pub no_second : None ≡ number_end text (a + 1) 10 → None ≡ mark_of text
    unfolding mark_of
    no_second e = rw (← first, ← e)

    module _ (b : ℕ) (second : Some b ≡ number_end text (a + 1) 10) where
      pub more_behind : (b + 1 ≡ length text → ⊥) → None ≡ mark_of text
      unfolding mark_of
      more_behind h = rw (← first, ← second, ne_eqb (b + 1) (length text) h)

      pub both_ends : b + 1 ≡ length text → Some (a, b) ≡ mark_of text
      unfolding mark_of
      both_ends h = rw (← first, ← second, eq-eqb (b + 1) (length text) h)

-- ---- a number in a text

-- nothing but digits, from 1 to 20 of them
record Number (m : List ℕ) : Type 0 where
  some : 0 < length m
  short : length m ≤ longest_number
  digits : leading_digits m ≡ length m

-- the digits go on to the first other byte
digits_then : (m r : List ℕ) (stop : ℕ) → between 48 57 stop ≡ false → leading_digits m ≡ length m → leading_digits (m ++ (stop ∷ r)) ≡ length m
unfolding leading_digits
digits_then [] r stop h e = rw h
digits_then (b ∷ bs) r stop h e = go (digits_then bs r stop h) (between 48 57 b) e
  where
    go : (leading_digits bs ≡ length bs → leading_digits (bs ++ (stop ∷ r)) ≡ length bs) → (t : Bool) → cond t (suc (leading_digits bs)) 0 ≡ suc (length bs) → cond t (suc (leading_digits (bs ++ (stop ∷ r)))) 0 ≡ suc (length bs)
    go rest true e = ap suc (rest (omega arith))
    go rest false e = absurd (omega arith)

number_at : (l m r : List ℕ) (stop : ℕ) → Number m → between 48 57 stop ≡ false → number_end (l ++ (m ++ (stop ∷ r))) (length l) stop ≡ Some (length l + length m)
number_at l m r stop n h =
    let x = m ++ (stop ∷ r) in
    let d : leading_digits (drop (length l) (l ++ x)) ≡ length m = rw (drop-append_seam l x) (digits_then m r stop h n.digits) in
    let long : length (l ++ x) ≡ length l + (length m + suc (length r)) = rw (length-append, length-append) in
    let there : get_or (l ++ x) (length l + length m) 0 ≡ stop = get_or-append-add l x (length m) 0 ∙ get_or-append_seam m stop r 0 in
    sym
    (number_found
    (l ++ x)
    (length l)
    stop
    (length m)
    (sym d)
    (λ z. absurd (omega (arith, n.some)))
    n.short
    (omega (arith, long))
    there)

-- ---- the digits of a number

digit : (x : ℕ) → between 48 57 (48 + x % 10) ≡ true
digit x = rw (le-leb 48 (48 + x % 10) (omega arith), le-leb (48 + x % 10) 57 (omega arith))

digits_last : (k n : ℕ) → leading_digits (last_digits k n) ≡ k
unfolding leading_digits last_digits
digits_last zero n = refl
digits_last (suc k) n = rw (digit (n / 10 ^ k), digits_last k n)

decimal_number : (n : ℕ) → n < 10 ^ longest_number → Number (decimal n)
unfolding decimal digits_of
decimal_number n h =
    record {
      some = rw (length_digits (digits_of n) n) (omega arith);
      short = decimal_short longest_number n (omega arith) h;
      digits = rw (length_digits (digits_of n) n) (digits_last (digits_of n) n);
    }

-- ---- a mark

mark_read : (p f : List ℕ) → Number p → Number f → mark_of (mark_text p f) ≡ Some (length p, length p + 1 + length f)
unfolding mark_text joined
mark_read p f np nf =
    let text = p ++ (32 ∷ (f ++ (10 ∷ []))) in
    let a : number_end text 0 32 ≡ Some (length p) = number_at [] p (f ++ (10 ∷ [])) 32 np refl ∙ ap Some (zero-add (length p)) in
    let split : text ≡ (p ++ (32 ∷ [])) ++ (f ++ (10 ∷ [])) = sym (append_assoc p (32 ∷ []) (f ++ (10 ∷ []))) in
    let first : length (p ++ (32 ∷ [])) ≡ length p + 1 = rw length-append in
    let b : number_end text (length p + 1) 10 ≡ Some (length p + 1 + length f) = rw (split, ← first) (number_at (p ++ (32 ∷ [])) f [] 10 nf refl) in
    let long : length text ≡ length p + suc (length f + 1) = rw (length-append, length-append) in
    sym (both_ends text (length p) (sym a) (length p + 1 + length f) (sym b) (omega (arith, long)))

pub reads_back : ReadsBack
reads_back p f hp hf = mark_read (decimal p) (decimal f) (decimal_number p hp) (decimal_number f hf)
