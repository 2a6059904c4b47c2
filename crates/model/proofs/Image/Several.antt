-- A reader that is repeated (specs/Image.antt): what was written one after the other is read, and no other bytes; and so for numbers.
use Prim.Native.Nat.{ℕ, zero, suc, ◌≤◌, ◌<◌}
use mathlib.Core.Path.{◌≡◌, refl, sym, ap, ◌∙◌}
use mathlib.Core.List.{List, [], ◌∷◌, ◌++◌, map, append_assoc}
use mathlib.Core.Bool.{Bool, true}
use mathlib.Core.Option.{some}
use native.Mathlib.Omega.{arith}
use lib.Dec.{leb}
use lib.ListN.{length, get_or, take}
use lib.Seq.{get_or-take}
use borrow.Author.Tests.{leb-true, le-leb}
use Rattle.model.specs.Lists.{all, joined, table}
use Rattle.model.specs.Image.{Reader, give, whole, numbers, up_to, repeated, several}
use Rattle.model.proofs.Basics.{and_split, and_join, all_at}
use Rattle.model.proofs.Image.Readers.{then, gave, one_read}
use Rattle.model.proofs.Image.Numbers.{up_to_whole, whole_up_to}

-- the bytes are those of n values that pass, one after the other, and a rest
pub record Taken {A : Type 0} (w : A → List ℕ) (p : A → Bool) (n : ℕ) (bs : List ℕ) (l : List A) (rest : List ℕ) : Type 0 where
  pub bytes : bs ≡ joined (map w l) ++ rest
  pub long : length l ≡ n
  pub pass : all p l ≡ true

module _ {A : Type 0} (r : Reader A) (w : A → List ℕ) (p : A → Bool) where
  pub repeated_back : ((x : A) (rest : List ℕ) → p x ≡ true → r (w x ++ rest) ≡ some (x, rest))
      → (l : List A) (rest : List ℕ) → all p l ≡ true → repeated (length l) r (joined (map w l) ++ rest) ≡ some (l, rest)
  unfolding repeated joined all give
  repeated_back back [] rest e = refl
  repeated_back back (x ∷ l) rest e =
      let f = and_split (p x) (all p l) e in
      rw append_assoc
      (then r _ _ (back x (joined (map w l) ++ rest) f.0) ∙ then (repeated (length l) r) _ _ (repeated_back back l rest f.1))

  taken_none : {bs rest : List ℕ} → bs ≡ rest → Taken w p 0 bs [] rest
  unfolding joined all
  taken_none e = record { bytes = e; long = refl; pass = refl }

  taken_more : (n : ℕ) (x : A) (bs mid : List ℕ) (l : List A) (rest : List ℕ) → (bs ≡ w x ++ mid) × (p x ≡ true) → Taken w p n mid l rest → Taken w p (suc n) bs (x ∷ l) rest
  unfolding joined all
  taken_more n x bs mid l rest e t =
      record {
        bytes = e.0 ∙ rw t.bytes (sym (append_assoc (w x) (joined (map w l)) rest));
        long = ap suc t.long;
        pass = and_join e.1 t.pass;
      }

  pub repeated_told : ((bs : List ℕ) (x : A) (rest : List ℕ) → r bs ≡ some (x, rest) → (bs ≡ w x ++ rest) × (p x ≡ true))
      → (n : ℕ) (bs : List ℕ) (l : List A) (rest : List ℕ) → repeated n r bs ≡ some (l, rest) → Taken w p n bs l rest
  unfolding repeated give
  repeated_told told zero bs l rest e = let q = one_read e in rw q.0 at (taken_none q.1)
  repeated_told told (suc n) bs l rest e =
      let x = gave r _ bs e in
      let k = gave (repeated n r) _ x.1 x.3 in
      let q = one_read k.3 in
      let t = repeated_told told n x.1 k.0 k.1 k.2 in
      rw (q.0, q.1) at (taken_more n x.0 bs x.1 k.0 k.1 (told bs x.0 x.1 x.2) t)

-- ---- numbers

pub numbers_first : (n : ℕ) (l rest : List ℕ) → numbers (n ∷ l) ++ rest ≡ whole n ++ (numbers l ++ rest)
unfolding numbers joined
numbers_first n l rest = append_assoc (whole n) (numbers l) rest

abbrev pub TakenNumbers : ℕ → ℕ → List ℕ → List ℕ → List ℕ → Type 0
TakenNumbers n most bs l rest = Taken whole (λ k. leb k most) n bs l rest

module _ (most : ℕ) where
  pub several_told : (n : ℕ) (bs l rest : List ℕ) → several n most bs ≡ some (l, rest) → TakenNumbers n most bs l rest
  several_told =
      repeated_told (up_to most) whole (λ k. leb k most) (λ bs k rest e. let t = whole_up_to most bs k rest e in (t.0, le-leb k most t.1))

  -- the values that were read, where they are stored
  pub stored_low : (n : ℕ) (bs values rest : List ℕ) → several n most bs ≡ some (take n values, rest) → (i : ℕ) → i < n → get_or values i 0 ≤ most
  stored_low n bs values rest e i h =
      let t = several_told n bs (take n values) rest e in
      rw (get_or-take n values i 0 h) at (leb-true _ most (all_at (λ k. leb k most) (take n values) 0 i t.pass (omega (arith, t.long))))

  module _ (rest : List ℕ) where
    several_back : (l : List ℕ) → all (λ k. leb k most) l ≡ true → several (length l) most (numbers l ++ rest) ≡ some (l, rest)
    unfolding numbers
    several_back l = repeated_back (up_to most) whole (λ k. leb k most) (λ k rest e. up_to_whole most k rest (leb-true k most e)) l rest

    -- as many as a part of the image has
    pub read_two : {a b : ℕ} → a ≤ most → b ≤ most → several 2 most (numbers (a ∷ b ∷ []) ++ rest) ≡ some (a ∷ b ∷ [], rest)
    unfolding all
    read_two {a} {b} p q = several_back (a ∷ b ∷ []) (rw (le-leb a most p, le-leb b most q))

    pub read_three : {a b c : ℕ} → a ≤ most → b ≤ most → c ≤ most → several 3 most (numbers (a ∷ b ∷ c ∷ []) ++ rest) ≡ some (a ∷ b ∷ c ∷ [], rest)
    unfolding all
    read_three {a} {b} {c} p q r = several_back (a ∷ b ∷ c ∷ []) (rw (le-leb a most p, le-leb b most q, le-leb c most r))

    pub read_four : {a b c d : ℕ} → a ≤ most → b ≤ most → c ≤ most → d ≤ most → several 4 most (numbers (a ∷ b ∷ c ∷ d ∷ []) ++ rest) ≡ some (a ∷ b ∷ c ∷ d ∷ [], rest)
    unfolding all
    read_four {a} {b} {c} {d} p q r s =
        several_back (a ∷ b ∷ c ∷ d ∷ []) (rw (le-leb a most p, le-leb b most q, le-leb c most r, le-leb d most s))

-- the bytes of numbers that were read
pub numbers_taken : {p : ℕ → Bool} {n : ℕ} {bs l rest : List ℕ} → Taken whole p n bs l rest → bs ≡ numbers l ++ rest
unfolding numbers
numbers_taken t = t.bytes

-- a list of known length, one by one
pub listed : (n : ℕ) (l : List ℕ) → length l ≡ n → l ≡ table n (λ i. get_or l i 0)
unfolding table
listed zero [] e = refl
listed zero (x ∷ l) e = absurd (omega arith)
listed (suc n) [] e = absurd (omega arith)
listed (suc n) (x ∷ l) e = ap (λ (k : List ℕ). x ∷ k) (listed n l (omega arith))
