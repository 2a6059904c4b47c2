-- Laws of readers (specs/Image.antt): one after the other, and what it means that one has given something.
use Prim.Native.Nat.{ℕ}
use mathlib.Core.Path.{◌≡◌, refl, ap}
use mathlib.Core.List.{List}
use mathlib.Core.Bool.{Bool, true, false, cond}
use mathlib.Core.Option.{Option, none, some}
use Rattle.model.specs.Image.{Reader, ◌>>=◌, give, fail, give?}
use Rattle.model.proofs.Basics.{none_some}

-- ---- something and nothing

-- a test that gave something was passed, and gave that
pub passed : {A : Type 0} (t : Bool) (x y : A) → ◌≡◌ {A = Option A} (cond t (some x) none) (some y) → (t ≡ true) × (x ≡ y)
passed true x y e = (refl, cc)
passed false x y e = none_some e

pub one_some : {A : Type 0} {a b : A} → ◌≡◌ {A = Option A} (some a) (some b) → a ≡ b
one_some e = cc

pub one_read : {A B : Type 0} {a b : A} {r s : B} → ◌≡◌ {A = Option (A × B)} (some (a, r)) (some (b, s)) → (a ≡ b) × (r ≡ s)
one_read {A} {B} {a} {b} {r} {s} e =
    let q : ◌≡◌ {A = A × B} (a, r) (b, s) = cc in
    (ap (λ (p : A × B). p.0) q, ap (λ (p : A × B). p.1) q)

-- a reader behind a test
pub chosen : {A : Type 0} (t : Bool) (r : Reader A) (bs : List ℕ) {p : A × List ℕ} → cond t r fail bs ≡ some p → (t ≡ true) × (r bs ≡ some p)
unfolding fail
chosen true r bs e = (refl, e)
chosen false r bs e = none_some e

-- what was there already
module _ {A : Type 0} (bs : List ℕ) where
  pub give_some : {o : Option A} {a : A} → o ≡ some a → give? o bs ≡ some (a, bs)
  unfolding give? give
  give_some e = rw e

  pub give_none : {o : Option A} → o ≡ none → give? o bs ≡ none
  unfolding give? fail
  give_none e = rw e

  pub given : (o : Option A) {a : A} {rest : List ℕ} → give? o bs ≡ some (a, rest) → (o ≡ some a) × (bs ≡ rest)
  unfolding give? give fail
  given none e = none_some e
  given (some x) e = let q = one_read e in (ap some q.0, q.1)

-- ---- one reader after the other

module _ {A B : Type 0} (r : Reader A) (f : A → Reader B) (bs : List ℕ) where
  pub then : {a : A} {rest : List ℕ} → r bs ≡ some (a, rest) → ◌>>=◌ r f bs ≡ f a rest
  unfolding ◌>>=◌
  then e = rw (e, ◌>>=◌)

  pub then_none : r bs ≡ none → ◌>>=◌ r f bs ≡ none
  unfolding ◌>>=◌
  then_none e = rw (e, ◌>>=◌)

  -- what the first gave, and the second after it
  pub gave : {b : B} {rest : List ℕ} → ◌>>=◌ r f bs ≡ some (b, rest)
      → (a : A) × (mid : List ℕ) × (r bs ≡ some (a, mid)) × (f a mid ≡ some (b, rest))
  gave {b} {rest} e = cases (r bs) refl
    where
      cases : (o : Option (A × List ℕ)) → r bs ≡ o → (a : A) × (mid : List ℕ) × (r bs ≡ some (a, mid)) × (f a mid ≡ some (b, rest))
      cases none q = none_some (rw (then_none q) at e)
      cases (some p) q = (p.0, p.1, q, rw (then q) at e)
