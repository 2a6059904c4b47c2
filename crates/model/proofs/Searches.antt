-- Laws of the searches of specs/Lists.antt, which end at the first element that passes. Nothing here is about the bench.
use Prim.Native.Nat.{ℕ, zero, suc, ◌≤◌}
use mathlib.Core.Path.{◌≡◌, refl, sym, ap, ◌∙◌}
use mathlib.Core.List.{List, [], ◌∷◌, ◌++◌, map}
use mathlib.Core.Bool.{Bool, true, false, ◌||◌}
use mathlib.Core.Logic.{⊎_elim}
use native.Mathlib.Omega.{arith}
use lib.ListN.{length}
use Rattle.model.specs.Lists.{any, table, up_to, Search, search, after}
use Rattle.model.proofs.Basics.{either, or_left, or_right, or_false, true_false}

-- so it is of every element
abbrev pub Each : {A : Type 0} → (A → Type 0) → List A → Type 0
Each P [] = Unit {0}
Each P (x ∷ l) = P x × Each P l

pub each_append : {A : Type 0} (P : A → Type 0) (l k : List A) → Each P l → Each P k → Each P (l ++ k)
each_append P [] k g h = h
each_append P (x ∷ l) k g h = (g.0, each_append P l k g.1 h)

pub each_map : {A B : Type 0} (P : B → Type 0) (f : A → B) (l : List A) → Each (λ x. P (f x)) l → Each P (map f l)
each_map P f [] g = tt
each_map P f (x ∷ l) g = (g.0, each_map P f l g.1)

pub each_table : {A : Type 0} (P : A → Type 0) (n : ℕ) (f : ℕ → A) → ((i : ℕ) → P (f i)) → Each P (table n f)
unfolding table
each_table P zero f h = tt
each_table P (suc n) f h = (h 0, each_table P n (λ i. f (suc i)) (λ i. h (suc i)))

pub each_also : {A : Type 0} {P Q : A → Type 0} → ((x : A) → P x → Q x) → (l : List A) → Each P l → Each Q l
each_also f [] g = tt
each_also f (x ∷ l) g = (f x g.0, each_also f l g.1)

module _ {A : Type 0} (p : A → Bool) where
  pub search_hit : (x : A) (l : List A) → p x ≡ true → search p (x ∷ l) ≡ record { found = true; looked = 1 }
  unfolding any up_to
  search_hit x l e = rw e

  pub search_past : (x : A) (l : List A) → p x ≡ false → search p (x ∷ l) ≡ after 1 (search p l)
  unfolding any up_to
  search_past x l e = rw e (ap (λ (k : ℕ). record { found = any p l; looked = k }) (omega arith))

  pub up_to_few : (l : List A) → length (up_to p l) ≤ length l
  unfolding up_to
  up_to_few [] = omega arith
  up_to_few (x ∷ l) = ⊎_elim (λ e. rw e (omega arith)) (λ e. rw e (omega (arith, up_to_few l))) (either (p x))

  -- where it misses, all were looked at
  pub search_missed : (l : List A) → any p l ≡ false → search p l ≡ record { found = false; looked = length l }
  unfolding any up_to
  search_missed [] e = refl
  search_missed (x ∷ l) e = let t = or_false (p x) (any p l) e in search_past x l t.0 ∙ ap (after 1) (search_missed l t.1) ∙ ap (λ (n : ℕ). record { found = false; looked = n }) (omega arith)

  -- what follows a hit is not looked at, and what follows a miss is looked at behind it
  pub search_front : (l k : List A) → any p l ≡ true → search p (l ++ k) ≡ search p l
  unfolding any
  search_front [] k e = true_false (sym e)
  search_front (x ∷ l) k e =
      ⊎_elim (λ t. search_hit x (l ++ k) t ∙ sym (search_hit x l t))
      (λ t. search_past x (l ++ k) t ∙ ap (after 1) (search_front l k (rw t at e)) ∙ sym (search_past x l t))
      (either (p x))

  pub search_behind : (l k : List A) → any p l ≡ false → search p (l ++ k) ≡ after (length l) (search p k)
  unfolding any
  search_behind [] k e = ap (λ (n : ℕ). record { found = any p k; looked = n }) (omega arith)
  search_behind (x ∷ l) k e =
      let t = or_false (p x) (any p l) e in
      search_past x (l ++ k) t.0 ∙ ap (after 1) (search_behind l k t.1) ∙ ap (λ (n : ℕ). record { found = any p k; looked = n }) (omega arith)

pub any_append : {A : Type 0} (p : A → Bool) (l k : List A) → any p (l ++ k) ≡ any p l || any p k
unfolding any
any_append p [] k = refl
any_append p (x ∷ l) k = ⊎_elim (λ e. rw e) (λ e. rw e (any_append p l k)) (either (p x))

module _ {A : Type 0} (p : A → Bool) (l k : List A) where
  pub any_front : any p l ≡ true → any p (l ++ k) ≡ true
  any_front e = any_append p l k ∙ or_left (any p l) (any p k) e

  pub any_behind : any p k ≡ true → any p (l ++ k) ≡ true
  any_behind e = any_append p l k ∙ or_right (any p l) (any p k) e

pub after_none : (s : Search) → after 0 s ≡ s
after_none s = ap (λ (n : ℕ). record { found = s.found; looked = n }) (omega arith)

-- a search s of the front, after n others: it ends there, or goes on behind
module _ {A : Type 0} (p : A → Bool) (l k : List A) (n : ℕ) (s : Search) (e : s ≡ after n (search p l)) where
  pub ended_there : s.found ≡ true → s ≡ after n (search p (l ++ k))
  ended_there t = e ∙ ap (after n) (sym (search_front p l k (ap (λ (r : Search). r.found) (sym e) ∙ t)))

  pub goes_on : s.found ≡ false → after s.looked (search p k) ≡ after n (search p (l ++ k))
  goes_on t =
      let miss = ap (λ (r : Search). r.found) (sym e) ∙ t in
      let all = ap (λ (r : Search). r.looked) (e ∙ ap (after n) (search_missed p l miss)) in
      ap (λ (c : ℕ). record { found = any p k; looked = c }) (omega (arith, all)) ∙ ap (after n) (sym (search_behind p l k miss))

pub search_map : {A B : Type 0} (p : B → Bool) (f : A → B) (l : List A) → search p (map f l) ≡ search (λ x. p (f x)) l
unfolding any up_to
search_map p f [] = refl
search_map p f (x ∷ l) =
    ⊎_elim (λ e. search_hit p (f x) (map f l) e ∙ sym (search_hit (λ x. p (f x)) x l e))
    (λ e. search_past p (f x) (map f l) e ∙ ap (after 1) (search_map p f l) ∙ sym (search_past (λ x. p (f x)) x l e))
    (either (p (f x)))

-- tests that agree on every element find the same
pub search_alike : {A : Type 0} (p q : A → Bool) (l : List A) → Each (λ x. p x ≡ q x) l → search p l ≡ search q l
unfolding any up_to
search_alike p q [] g = refl
search_alike p q (x ∷ l) g =
    ⊎_elim (λ e. search_hit p x l e ∙ sym (search_hit q x l (sym g.0 ∙ e)))
    (λ e. search_past p x l e ∙ ap (after 1) (search_alike p q l g.1) ∙ sym (search_past q x l (sym g.0 ∙ e)))
    (either (p x))

-- a test that no element passes
pub any_never : {A : Type 0} (p : A → Bool) (l : List A) → Each (λ x. p x ≡ false) l → any p l ≡ false
unfolding any
any_never p [] g = refl
any_never p (x ∷ l) g = rw g.0 (any_never p l g.1)
