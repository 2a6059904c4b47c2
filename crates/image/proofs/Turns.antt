-- A reader that is repeated, in turns: what was read so far stands before what is left to read.
use Prim.Native.Nat.{ℕ, suc, ◌+◌, ◌-◌, ◌≤◌, ◌<◌}
use mathlib.Core.Path.{◌≡◌, refl, sym, ap, ◌∙◌}
use mathlib.Core.List.{List, [], ◌∷◌, ◌++◌, append_assoc, append-nil}
use mathlib.Core.Option.{Option, none, some}
use native.Mathlib.Omega.{arith}
use Rattle.model.specs.Image.{Reader, ◌>>=◌, give, repeated}
use Rattle.model.proofs.Image.Readers.{then, then_none}

abbrev pub prefixed : {A : Type 0} → List A → Option (List A × List ℕ) → Option (List A × List ℕ)
prefixed l none = none
prefixed l (some p) = some (l ++ p.0, p.1)

module _ {A : Type 0} where
  prefixed_none : (o : Option (List A × List ℕ)) → o ≡ prefixed [] o
  prefixed_none none = refl
  prefixed_none (some p) = refl

  prefixed_twice : (l k : List A) (o : Option (List A × List ℕ)) → prefixed l (prefixed k o) ≡ prefixed (l ++ k) o
  prefixed_twice l k none = refl
  prefixed_twice l k (some p) = ap (λ (j : List A). some (j, p.1)) (sym (append_assoc l k p.0))

module _ {A : Type 0} (r : Reader A) where
  first_read : (n : ℕ) (bs : List ℕ) (x : A) (rest : List ℕ) → r bs ≡ some (x, rest) → repeated (suc n) r bs ≡ prefixed (x ∷ []) (repeated n r rest)
  unfolding repeated give
  first_read n bs x rest e = then r _ bs e ∙ cases (repeated n r rest) refl
    where
      cases : (o : Option (List A × List ℕ)) → repeated n r rest ≡ o → ◌>>=◌ (repeated n r) (λ l. give (x ∷ l)) rest ≡ prefixed (x ∷ []) (repeated n r rest)
      cases none q = then_none (repeated n r) _ rest q ∙ rw q
      cases (some p) q = then (repeated n r) _ rest q ∙ rw q

  pub turn_first : (count : ℕ) (bs : List ℕ) → repeated count r bs ≡ prefixed [] (repeated (count - 0) r bs)
  turn_first count bs = let n : count - 0 ≡ count = omega arith in rw n (prefixed_none (repeated count r bs))

  module _ (count i : ℕ) (mid : List ℕ) (l : List A) where
    pub turn_read : (x : A) (rest : List ℕ) → i < count → r mid ≡ some (x, rest)
        → prefixed l (repeated (count - i) r mid) ≡ prefixed (l ++ (x ∷ [])) (repeated (count - (i + 1)) r rest)
    turn_read x rest h e =
        let n : count - i ≡ suc (count - (i + 1)) = omega arith in
        rw (n, first_read (count - (i + 1)) mid x rest e) (prefixed_twice l (x ∷ []) (repeated (count - (i + 1)) r rest))

    pub turn_refused : i < count → r mid ≡ none → prefixed l (repeated (count - i) r mid) ≡ none
    unfolding repeated
    turn_refused h e =
        let n : count - i ≡ suc (count - (i + 1)) = omega arith in
        rw n (ap (prefixed l) (then_none r _ mid e))

    pub turn_last : i ≤ count → count ≤ i → prefixed l (repeated (count - i) r mid) ≡ some (l, mid)
    unfolding repeated give
    turn_last h g = let n : count - i ≡ 0 = omega arith in rw (n, append-nil l)
