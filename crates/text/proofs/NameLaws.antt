-- Names: what makes a word legal, byte by byte, and that a stored name gives its word back.
use Prim.Native.Nat.{ℕ, suc, ◌+◌, ◌-◌, ◌<◌, ◌≤◌}
use mathlib.Core.Path.{◌≡◌, refl, sym, ap, ◌∙◌}
use mathlib.Core.List.{List, [], ◌∷◌, ◌++◌}
use mathlib.Core.Bool.{Bool, true, false, cond, ◌&&◌}
use mathlib.Core.Option.{none, some}
use native.Mathlib.Omega.{arith}
use native.Mathlib.Numerals.{add-one}
use borrow.Author.Tests.{le-leb, lt-leb}
use lib.ListN.{length, take, drop, get_or, set, replicate}
use lib.Seq.{take-suc, take_at, set_at, length-take-le, append_snoc}
use Rattle.std.specs.Prelude.{Ok, Err}
use Rattle.model.specs.declared.Name.{Name}
use Rattle.model.specs.Limits.{name_limit}
use Rattle.model.specs.Lists.{all}
use Rattle.model.specs.Stored.{bytes_of}
use Rattle.model.specs.Told.{Told, tells, refuses, or_number}
use Rattle.model.specs.Words.{legal_name, capital, name_byte}
use Rattle.model.proofs.Basics.{and_false, and_true, none_some}
use Rattle.model.proofs.Words.{legal_name_short}
use Rattle.facts.specs.declared.refusals.Refusal.{Refusal}
use Rattle.facts.specs.declared.refusals.Refusal.TheVariants.{Malformed}
use Rattle.facts.specs.Refusals.{number_of}
use Rattle.text.specs.Names.{stored, Reads}
use Rattle.text.proofs.Lists.{all_next}

-- ---- the word that a loop reads

pub legal_none : (w : List ℕ) → length w ≡ 0 → legal_name w ≡ false
unfolding legal_name
legal_none [] h = refl
legal_none (b ∷ bs) h = absurd (omega arith)

pub legal_long : (w : List ℕ) → name_limit < length w → legal_name w ≡ false
unfolding legal_name
legal_long [] h = refl
legal_long (b ∷ bs) h = rw (lt-leb (suc (length bs)) name_limit h) (and_false (capital b && all name_byte bs))

pub legal_first : (w : List ℕ) → capital (get_or w 0 0) ≡ false → legal_name w ≡ false
unfolding legal_name
legal_first [] h = refl
legal_first (b ∷ bs) h = rw h

-- a capital first, and not too long: what is left are the other bytes
pub legal_rest : (w : List ℕ) → 0 < length w → length w ≤ name_limit → capital (get_or w 0 0) ≡ true → legal_name w ≡ all name_byte (drop 1 w)
unfolding legal_name
legal_rest [] h g e = absurd (omega arith)
legal_rest (b ∷ bs) h g e = rw (e, le-leb (suc (length bs)) name_limit g) (and_true (all name_byte bs))

-- or all of them: a capital is such a byte
pub legal_bytes : (w : List ℕ) → 0 < length w → length w ≤ name_limit → capital (get_or w 0 0) ≡ true → legal_name w ≡ all name_byte w
legal_bytes w h g e = legal_rest w h g e ∙ sym (all_next name_byte w 0 0 h (rw e))

module _ (w : List ℕ) (i : ℕ) where
  -- one more byte is stored
  pub stored_next : (b : ℕ) → i < length w → i < name_limit → get_or w i 0 ≡ b →
      set (take i w ++ replicate (name_limit - i) 0) i b ≡ take (i + 1) w ++ replicate (name_limit - (i + 1)) 0
  stored_next b h g e =
      let n : name_limit - i ≡ suc (name_limit - (i + 1)) = omega arith in
      let r = replicate {A = ℕ} (name_limit - suc i) 0 in
      rw (n, add-one i, take-suc w i 0, e) (set_at (take i w) 0 r b i (length-take-le i w (omega arith)) ∙ sym (append_snoc (take i w) b r))

-- ---- the result

pub stored_bytes : (w : List ℕ) → bytes_of (stored w) ≡ w
stored_bytes w = take_at w (replicate (name_limit - length w) 0) (length w) refl

-- the answer has a name exactly where the word is one; and where it has none its number is 5
told_some : (w : List ℕ) (t : Bool) {a : List ℕ} → tells a ≡ or_number 5 (cond t (some w) none) → t ≡ true
unfolding or_number
told_some w true e = refl
told_some w false e = let z : ◌≡◌ {A = ℕ} 0 5 = ap (λ (x : Told (List ℕ)). x.number) e in absurd (omega arith)

told_none : (w : List ℕ) (t : Bool) {n : ℕ} → refuses n ≡ or_number 5 (cond t (some w) none) → (t ≡ false) × (n ≡ 5)
unfolding or_number
told_none w true e = none_some (ap (λ (x : Told (List ℕ)). x.value) e)
told_none w false e = (refl, ap (λ (x : Told (List ℕ)). x.number) e)

pub reads_none : (w : List ℕ) → legal_name w ≡ false → Reads w (Err Malformed)
unfolding or_number
reads_none w f = record { told = rw f; name = tt }

pub reads_some : (w : List ℕ) {n : Name} → legal_name w ≡ true → n ≡ stored w → Reads w (Ok n)
unfolding or_number
reads_some w t e = rw e (record { told = rw (t, stored_bytes w); name = refl })

-- for a caller of `read_name`: a name that is read gives the word's bytes, and has room for them
module _ (w : List ℕ) {n : Name} (e : Reads w (Ok n)) where
  pub name_legal : legal_name w ≡ true
  name_legal = told_some w (legal_name w) e.told

  pub name_bytes : bytes_of n ≡ w
  name_bytes = rw e.name (stored_bytes w)

  pub name_short : n.len ≤ name_limit
  name_short = rw e.name (legal_name_short w name_legal)

-- and none is read of a word that is none, which is refused with 5
module _ (w : List ℕ) {why : Refusal} (e : Reads w (Err why)) where
  pub name_illegal : legal_name w ≡ false
  name_illegal = (told_none w (legal_name w) e.told).0

  pub name_refused : number_of why ≡ 5
  name_refused = (told_none w (legal_name w) e.told).1
