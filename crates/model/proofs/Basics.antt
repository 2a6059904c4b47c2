-- Laws of the tests and searches of specs/Lists.antt. Nothing here is about the bench.
use Prim.Native.Nat.{ℕ, zero, suc, ◌≤◌, ◌<◌}
use mathlib.Core.Path.{◌≡◌, refl, sym, ap, ◌∙◌}
use mathlib.Core.List.{List, [], ◌∷◌, ◌++◌, map}
use mathlib.Core.Bool.{Bool, true, false, ◌&&◌, ◌||◌}
use mathlib.Core.Logic.{◌⊎◌, inl, inr, ⊎_elim}
use mathlib.Core.Option.{Option, none, some}
use native.Mathlib.Omega.{arith}
use native.Mathlib.Decide.{dec_lt, ℕ_discrete}
use lib.Dec.{eqb}
use lib.ListN.{length, get_or}
use borrow.Author.Tests.{eq-eqb, eqb-true}
use Rattle.model.specs.Lists.{all, any, least, same, table}

-- ---- tests

pub true_false : {A : Type 0} → ◌≡◌ {A = Bool} true false → A
true_false e = let q : ◌≡◌ {A = ℕ} 0 1 = cc in absurd (omega arith)

pub none_some : {A B : Type 0} {x : A} → ◌≡◌ {A = Option A} none (some x) → B
none_some e = let q : ◌≡◌ {A = ℕ} 0 1 = cc in absurd (omega arith)

pub and_split : (a b : Bool) → a && b ≡ true → (a ≡ true) × (b ≡ true)
and_split true b e = (refl, e)
and_split false b e = true_false (sym e)

pub and_join : {a b : Bool} → a ≡ true → b ≡ true → a && b ≡ true
and_join {a} {b} p q = rw (p, q)

pub and_assoc : (a b c : Bool) → (a && b) && c ≡ a && (b && c)
and_assoc true b c = refl
and_assoc false b c = refl

pub and_false : (a : Bool) → a && false ≡ false
and_false true = refl
and_false false = refl

pub and_true : (a : Bool) → a && true ≡ a
and_true true = refl
and_true false = refl

pub or_split : (a b : Bool) → a || b ≡ true → (a ≡ true) ⊎ (b ≡ true)
or_split true b e = inl refl
or_split false b e = inr e

pub or_left : (a b : Bool) → a ≡ true → a || b ≡ true
or_left a b e = rw e

pub or_right : (a b : Bool) → b ≡ true → a || b ≡ true
or_right true b e = refl
or_right false b e = e

pub or_false : (a b : Bool) → a || b ≡ false → (a ≡ false) × (b ≡ false)
or_false true b e = true_false e
or_false false b e = (refl, e)

-- every test is true or false
pub either : (a : Bool) → (a ≡ true) ⊎ (a ≡ false)
either true = inl refl
either false = inr refl

-- tests that pass together
pub agree : (a b : Bool) → (a ≡ true → b ≡ true) → (b ≡ true → a ≡ true) → a ≡ b
agree true b f g = sym (f refl)
agree false true f g = g refl
agree false false f g = refl

-- ---- all and any

module _ {A : Type 0} (p : A → Bool) where
  pub all_at : (l : List A) (d : A) (i : ℕ) → all p l ≡ true → i < length l → p (get_or l i d) ≡ true
  unfolding all
  all_at [] d i e h = absurd (omega arith)
  all_at (x ∷ l) d zero e h = (and_split (p x) (all p l) e).0
  all_at (x ∷ l) d (suc i) e h = all_at l d i (and_split (p x) (all p l) e).1 (omega arith)

  pub all_from : (l : List A) (d : A) → ((i : ℕ) → i < length l → p (get_or l i d) ≡ true) → all p l ≡ true
  unfolding all
  all_from [] d f = refl
  all_from (x ∷ l) d f = and_join (f 0 (omega arith)) (all_from l d (λ i h. f (suc i) (omega arith)))

  pub all_append : (l k : List A) → all p (l ++ k) ≡ all p l && all p k
  unfolding all
  all_append [] k = refl
  all_append (x ∷ l) k = rw (all_append l k) (sym (and_assoc (p x) (all p l) (all p k)))

  pub any_at : (l : List A) (d : A) (i : ℕ) → i < length l → p (get_or l i d) ≡ true → any p l ≡ true
  unfolding any
  any_at [] d i h e = absurd (omega arith)
  any_at (x ∷ l) d zero h e = or_left (p x) (any p l) e
  any_at (x ∷ l) d (suc i) h e = or_right (p x) (any p l) (any_at l d i (omega arith) e)

  pub any_none : (l : List A) (d : A) (i : ℕ) → any p l ≡ false → i < length l → p (get_or l i d) ≡ false
  unfolding any
  any_none [] d i e h = absurd (omega arith)
  any_none (x ∷ l) d zero e h = (or_false (p x) (any p l) e).0
  any_none (x ∷ l) d (suc i) e h = any_none l d i (or_false (p x) (any p l) e).1 (omega arith)

  -- where some element passes, one does at a place
  pub any_where : (l : List A) (d : A) → any p l ≡ true → (i : ℕ) × (i < length l) × (p (get_or l i d) ≡ true)
  unfolding any
  any_where [] d e = true_false (sym e)
  any_where (x ∷ l) d e =
      ⊎_elim (λ h. (0, omega arith, h))
      (λ h. let r = any_where l d h in (suc r.0, omega (arith, r.1), r.2))
      (or_split (p x) (any p l) e)

-- ---- the same bytes

pub same_refl : (l : List ℕ) → same l l ≡ true
unfolding same
same_refl [] = refl
same_refl (x ∷ l) = and_join (eq-eqb x x refl) (same_refl l)

pub same→≡ : (l k : List ℕ) → same l k ≡ true → l ≡ k
unfolding same
same→≡ [] [] e = refl
same→≡ [] (y ∷ k) e = true_false (sym e)
same→≡ (x ∷ l) [] e = true_false (sym e)
same→≡ (x ∷ l) (y ∷ k) e =
    let s = and_split (eqb x y) (same l k) e in
    let p = eqb-true x y s.0 in
    let q = same→≡ l k s.1 in
    cc

pub ≡→same : {l k : List ℕ} → l ≡ k → same l k ≡ true
≡→same {l} {k} e = rw e (same_refl k)

-- ---- the least number that passes

module _ (n : ℕ) (p : ℕ → Bool) where
  pub least_now : p 0 ≡ true → least (suc n) p ≡ 0
  unfolding least
  least_now e = rw (e, least)

  pub least_later : p 0 ≡ false → least (suc n) p ≡ suc (least n (λ i. p (suc i)))
  unfolding least
  least_later e = rw (e, least)

pub least_le : (n : ℕ) (p : ℕ → Bool) → least n p ≤ n
unfolding least
least_le zero p = omega arith
least_le (suc n) p =
    ⊎_elim (λ e. rw (least_now n p e) (omega arith))
    (λ e. rw (least_later n p e) (omega (arith, least_le n (λ i. p (suc i)))))
    (either (p 0))

pub least_hit : (n : ℕ) (p : ℕ → Bool) → least n p < n → p (least n p) ≡ true
unfolding least
least_hit zero p h = absurd (omega arith)
least_hit (suc n) p h =
    ⊎_elim (λ e. rw (least_now n p e) e)
    (λ e. let k = least_later n p e in rw k (least_hit n (λ i. p (suc i)) (omega arith)))
    (either (p 0))

pub least_miss : (n : ℕ) (p : ℕ → Bool) (i : ℕ) → i < least n p → p i ≡ false
unfolding least
least_miss zero p i h = absurd (omega arith)
least_miss (suc n) p zero h =
    ⊎_elim (λ e. let k = least_now n p e in absurd (omega arith)) (λ e. e) (either (p 0))
least_miss (suc n) p (suc i) h =
    ⊎_elim (λ e. let k = least_now n p e in absurd (omega arith))
    (λ e. let k = least_later n p e in least_miss n (λ j. p (suc j)) i (omega arith))
    (either (p 0))

-- the least number that passes is the only one with these two facts
pub least_is : (n : ℕ) (p : ℕ → Bool) (k : ℕ) → k < n → p k ≡ true → ((i : ℕ) → i < k → p i ≡ false) → least n p ≡ k
least_is n p k h e f =
    tri (ℕ_discrete (least n p) k)
  where
    tri : Dec (least n p ≡ k) → least n p ≡ k
    tri (yes q) = q
    tri (no q) = go (dec_lt (least n p) k)
      where
        go : Dec (least n p < k) → least n p ≡ k
        go (yes b) = true_false (sym (least_hit n p (omega arith)) ∙ f (least n p) b)
        go (no b) = true_false (sym e ∙ least_miss n p k (omega arith))

-- ---- tables

pub length_table : {A : Type 0} (n : ℕ) (f : ℕ → A) → length (table n f) ≡ n
unfolding table
length_table zero f = refl
length_table (suc n) f = ap suc (length_table n (λ i. f (suc i)))

pub table_at : {A : Type 0} (n : ℕ) (f : ℕ → A) (d : A) (i : ℕ) → i < n → get_or (table n f) i d ≡ f i
unfolding table
table_at zero f d i h = absurd (omega arith)
table_at (suc n) f d zero h = refl
table_at (suc n) f d (suc i) h = table_at n (λ j. f (suc j)) d i (omega arith)

pub table_cong : {A : Type 0} (n : ℕ) (f g : ℕ → A) → ((i : ℕ) → i < n → f i ≡ g i) → table n f ≡ table n g
unfolding table
table_cong zero f g e = refl
table_cong (suc n) f g e = rw (e 0 (omega arith)) (ap (λ t. g 0 ∷ t) (table_cong n (λ i. f (suc i)) (λ i. g (suc i)) (λ i h. e (suc i) (omega arith))))

pub map_table : {A B : Type 0} (h : A → B) (n : ℕ) (f : ℕ → A) → map h (table n f) ≡ table n (λ i. h (f i))
unfolding table
map_table h zero f = refl
map_table h (suc n) f = ap (λ t. h (f 0) ∷ t) (map_table h n (λ i. f (suc i)))
