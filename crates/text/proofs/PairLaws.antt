-- Axis pairs: the place of an axis word, and the values while they are read.
use Prim.Native.Nat.{ℕ, zero, suc, ◌<◌, ◌≤◌}
use mathlib.Core.Path.{◌≡◌, refl, sym, ap, ◌∙◌}
use mathlib.Core.List.{List, [], ◌∷◌, map}
use mathlib.Core.Bool.{Bool, true, false, cond, not, ◌&&◌}
use mathlib.Core.Option.{Option, none, some}
use native.Mathlib.Decide.{ℕ_discrete}
use native.Mathlib.Omega.{arith}
use lib.IntN.{ℤ, pos}
use lib.ListN.{length, length-map, get_or, set, replicate}
use lib.Seq.{get_or-set_same, get_or-set_other}
use borrow.Author.Tests.{leb-true, ne_eqb}
use lib.Dec.{leb, eqb, eqb→eq}
use Rattle.model.specs.Lists.{same, least, there?, between}
use Rattle.model.specs.declared.Kind.{Kind}
use Rattle.model.specs.declared.Turns.{Turns}
use Rattle.model.specs.declared.Vec3.{Vec3}
use Rattle.model.specs.Request.{Reading, malformed, beyond, define, asks_change, definition, Values, no_values, axis, axis_words, first_axis, may_come, pairs, given, in_range, offsets_of, turns_of}
use Rattle.model.specs.Told.{tells, refuses}
use Rattle.model.specs.Words.{legal_name, number, offset?, angle?, upper}
use Rattle.model.proofs.Upto.{at}
use Rattle.model.proofs.Basics.{true_false, and_split, least_later}
use Rattle.text.specs.Pairs.{ranged, answered, pairs_read, values_of}
use Rattle.text.specs.Readings.{reading_told}
use Rattle.text.proofs.Lists.{same_length}

-- ---- the place of an axis word

-- a word of one letter is that letter in capitals
letter_is : (l : List ℕ) (u : ℕ) → 1 ≤ length l → length l < 2 → u ≡ upper (get_or l 0 0) → map upper l ≡ u ∷ []
letter_is [] u a b e = absurd (omega arith)
letter_is (x ∷ []) u a b e = ap (λ (v : ℕ). v ∷ []) (sym e)
letter_is (x ∷ y ∷ l) u a b e = absurd (omega arith)

pub axis_letter : (l : List ℕ) (u : ℕ) → 1 ≤ length l → length l < 2 → u ≡ upper (get_or l 0 0) → (t : ℕ) → u ≡ t → axis (t ∷ []) ≡ axis (map upper l)
axis_letter l u a b e t p = ap axis (sym (letter_is l u a b e ∙ ap (λ (v : ℕ). v ∷ []) p))

-- any other letter is no axis, and neither is a word of another length
least_none : (n : ℕ) (p : ℕ → Bool) → ((i : ℕ) → i < n → p i ≡ false) → n ≡ least n p
unfolding least
least_none zero p f = refl
least_none (suc n) p f = ap suc (least_none n (λ i. p (suc i)) (λ i h. f (suc i) (omega arith))) ∙ sym (least_later n p (f 0 (omega arith)))

pub axis_other : (u : ℕ) → (u ≡ 88 → ⊥) → (u ≡ 89 → ⊥) → (u ≡ 90 → ⊥) → (u ≡ 85 → ⊥) → (u ≡ 86 → ⊥) → (u ≡ 87 → ⊥) → 6 ≡ axis (u ∷ [])
unfolding axis same
axis_other u a b c d e f = least_none 6 (λ i. same (u ∷ []) (get_or axis_words i [])) missed
  where
    missed : (i : ℕ) → i < 6 → same (u ∷ []) (get_or axis_words i []) ≡ false
    missed zero h = rw (ne_eqb u 88 a)
    missed (suc zero) h = rw (ne_eqb u 89 b)
    missed (suc (suc zero)) h = rw (ne_eqb u 90 c)
    missed (suc (suc (suc zero))) h = rw (ne_eqb u 85 d)
    missed (suc (suc (suc (suc zero)))) h = rw (ne_eqb u 86 e)
    missed (suc (suc (suc (suc (suc zero))))) h = rw (ne_eqb u 87 f)
    missed (suc (suc (suc (suc (suc (suc i)))))) h = absurd (omega arith)

one_long : (i : ℕ) → i < 6 → length (get_or axis_words i []) ≡ 1
one_long i h = eqb→eq _ 1 (at 6 (λ k. eqb (length (get_or axis_words k [])) 1) tt i h)

pub axis_none : (l : List ℕ) → (length l ≡ 1 → ⊥) → 6 ≡ axis (map upper l)
unfolding axis
axis_none l h =
    least_none 6 (λ i. same (map upper l) (get_or axis_words i []))
    (λ i k. same_length (map upper l) (get_or axis_words i []) (λ e. h (omega (arith, length-map l upper, one_long i k))))

-- ---- values

pub given_map : (l : List ℤ) (i : ℕ) → given (map some l) i ≡ get_or l i (pos 0)
unfolding given
given_map [] i = refl
given_map (z ∷ l) zero = refl
given_map (z ∷ l) (suc i) = given_map l i

-- answers agree where the values do
pub ranged_same : (vs ws : Values) → ((i : ℕ) → given vs i ≡ given ws i) → ranged vs ≡ ranged ws
unfolding ranged in_range
ranged_same vs ws f = rw (f 0, f 1, f 2, f 3, f 4, f 5)

-- values in their ranges have listed angles
pub angles_listed : (l : List ℤ) → in_range (map some l) ≡ true → (angle? (get_or l 3 (pos 0)) ≡ true) × (angle? (get_or l 4 (pos 0)) ≡ true) × (angle? (get_or l 5 (pos 0)) ≡ true)
unfolding in_range
angles_listed l e =
    let at = given (map some l) in
    let a = and_split (offset? (at 0) && offset? (at 1) && offset? (at 2) && angle? (at 3) && angle? (at 4)) (angle? (at 5)) e in
    let b = and_split (offset? (at 0) && offset? (at 1) && offset? (at 2) && angle? (at 3)) (angle? (at 4)) a.0 in
    let c = and_split (offset? (at 0) && offset? (at 1) && offset? (at 2)) (angle? (at 3)) b.0 in
    (rw (given_map l 3) at c.1, rw (given_map l 4) at b.1, rw (given_map l 5) at a.1)

-- ---- the values while they are read

-- an axis that has come has a value
pub came_there : (came : List Bool) (values : List ℤ) (i : ℕ) → length came ≡ length values → there? (get_or (values_of came values) i none) ≡ get_or came i false
unfolding values_of there?
came_there [] zs i h = refl
came_there (c ∷ cs) [] i h = absurd (omega arith)
came_there (true ∷ cs) (z ∷ zs) zero h = refl
came_there (false ∷ cs) (z ∷ zs) zero h = refl
came_there (c ∷ cs) (z ∷ zs) (suc i) h = came_there cs zs i (omega arith)

-- one more axis comes
pub came_set : (came : List Bool) (values : List ℤ) (i : ℕ) (z : ℤ) → length came ≡ length values →
    set (values_of came values) i (some z) ≡ values_of (set came i true) (set values i z)
unfolding values_of
came_set [] zs i z h = refl
came_set (c ∷ cs) [] i z h = absurd (omega arith)
came_set (c ∷ cs) (y ∷ ys) zero z h = refl
came_set (c ∷ cs) (y ∷ ys) (suc i) z h = ap (λ (vs : Values). cond c (some y) none ∷ vs) (came_set cs ys i z (omega arith))

-- axes that have not come are 0
abbrev pub Clean : List Bool → List ℤ → Type 0
Clean came values = (i : ℕ) → get_or came i false ≡ false → get_or values i (pos 0) ≡ pos 0

pub none_yet : (n i : ℕ) → get_or (replicate n (pos 0)) i (pos 0) ≡ pos 0
none_yet zero i = refl
none_yet (suc n) zero = refl
none_yet (suc n) (suc i) = none_yet n i

pub clean_set : (came : List Bool) (values : List ℤ) (i : ℕ) (z : ℤ) → i < length came → Clean came values → Clean (set came i true) (set values i z)
clean_set came values i z h f j e = pick (ℕ_discrete j i)
  where
    pick : Dec (j ≡ i) → get_or (set values i z) j (pos 0) ≡ pos 0
    pick (yes q) = true_false (sym (get_or-set_same came i true false h) ∙ ap (λ (m : ℕ). get_or (set came i true) m false) (sym q) ∙ e)
    pick (no q) = get_or-set_other values i j z (pos 0) q ∙ f j (sym (get_or-set_other came i j true false q) ∙ e)

given_values : (came : List Bool) (values : List ℤ) → length came ≡ length values → Clean came values → (i : ℕ) → given (values_of came values) i ≡ get_or values i (pos 0)
unfolding values_of given
given_values [] [] h f i = refl
given_values [] (y ∷ ys) h f i = absurd (omega arith)
given_values (c ∷ cs) [] h f i = absurd (omega arith)
given_values (true ∷ cs) (y ∷ ys) h f zero = refl
given_values (false ∷ cs) (y ∷ ys) h f zero = sym (f zero refl)
given_values (c ∷ cs) (y ∷ ys) h f (suc i) = given_values cs ys (omega arith) (λ j e. f (suc j) e) i

pub ranged_values : (came : List Bool) (values : List ℤ) → length came ≡ length values → Clean came values → ranged (values_of came values) ≡ ranged (map some values)
ranged_values came values h f = ranged_same (values_of came values) (map some values) (λ i. given_values came values h f i ∙ sym (given_map values i))

-- ---- one pair

-- an axis that may come is one of the six
pub may_axis : (k : Kind) (i : ℕ) (vs : Values) → may_come k i vs ≡ true → i < 6
unfolding may_come
may_axis k i vs e =
    let s = (and_split (between (first_axis k) 5 i) (not (there? (get_or vs i none))) e).0 in
    omega (arith, leb-true i 5 (and_split (leb (first_axis k) i) (leb i 5) s).1)

pub pairs_none : (k : Kind) (vs : Values) → pairs k [] vs ≡ some vs
unfolding pairs
pairs_none k vs = refl

-- a pair by its two tests
pair_step : Bool → Option ℤ → (ℤ → Option Values) → Option Values
pair_step t o f = elim t [ false ↦ none | true ↦ elim o [ none ↦ none | some z ↦ f z ] ]

step_none : (t : Bool) (f : ℤ → Option Values) → pair_step t none f ≡ none
unfolding pair_step
step_none true f = refl
step_none false f = refl

module _ (k : Kind) (a : List ℕ) (vs : Values) where
  pub pairs_short : pairs k (a ∷ []) vs ≡ none
  unfolding pairs
  pairs_short = refl

  module _ (n : List ℕ) (rest : List (List ℕ)) where
    pairs_turn : pairs k (a ∷ n ∷ rest) vs ≡ pair_step (may_come k (axis a) vs) (number n) (λ z. pairs k rest (set vs (axis a) (some z)))
    unfolding pairs pair_step
    pairs_turn = refl

    pub pairs_number : number n ≡ none → pairs k (a ∷ n ∷ rest) vs ≡ none
    pairs_number e = pairs_turn ∙ rw e (step_none (may_come k (axis a) vs) (λ z. pairs k rest (set vs (axis a) (some z))))

    pub pairs_on : (z : ℤ) → may_come k (axis a) vs ≡ true → number n ≡ some z → pairs k (a ∷ n ∷ rest) vs ≡ pairs k rest (set vs (axis a) (some z))
    unfolding pair_step
    pairs_on z m e = pairs_turn ∙ rw (m, e, pair_step)

    pairs_off : may_come k (axis a) vs ≡ false → pairs k (a ∷ n ∷ rest) vs ≡ none
    unfolding pair_step
    pairs_off m = pairs_turn ∙ rw (m, pair_step)

  -- the axis may not come, whatever follows
  pub pairs_axis : (ws : List (List ℕ)) → may_come k (axis a) vs ≡ false → pairs k (a ∷ ws) vs ≡ none
  pairs_axis [] e = pairs_short
  pairs_axis (n ∷ rest) e = pairs_off n rest e

-- ---- for a caller of `read_pairs`

-- a definition by its two tests
defined : Kind → List ℕ → Bool → Option Values → Reading
defined k n t o =
    elim t [
      | false ↦ malformed
      | true ↦ elim o [ none ↦ malformed | some vs ↦ cond (in_range vs) (asks_change (define k n (offsets_of vs) (turns_of vs))) beyond ]
    ]

defined_turn : (k : Kind) (n : List ℕ) (ws : List (List ℕ)) → definition k (n ∷ ws) ≡ defined k n (legal_name n) (pairs k ws no_values)
unfolding definition defined
defined_turn k n ws = refl

-- what is asked with the values of the pairs
abbrev pub defining : Kind → List ℕ → Vec3 × Turns → Reading
defining k n p = asks_change (define k n p.0 p.1)

defined_is : (k : Kind) (n : List ℕ) (o : Option Values) → defined k n true o ≡ reading_told (defining k n) (answered o)
unfolding defined answered ranged
defined_is k n none = refl
defined_is k n (some vs) = pick (in_range vs)
  where
    pick : (t : Bool) →
        cond t (defining k n (offsets_of vs, turns_of vs)) beyond ≡ reading_told (defining k n) (cond t (tells (offsets_of vs, turns_of vs)) (refuses 6))
    pick true = refl
    pick false = refl

-- the answer on the pairs decides what a definition with a legal name asks
pub definition_read : (k : Kind) (n : List ℕ) (ws : List (List ℕ)) → legal_name n ≡ true → definition k (n ∷ ws) ≡ reading_told (defining k n) (pairs_read k ws)
definition_read k n ws e = defined_turn k n ws ∙ ap (λ (t : Bool). defined k n t (pairs k ws no_values)) e ∙ defined_is k n (pairs k ws no_values)

pub definition_unnamed : (k : Kind) (n : List ℕ) (ws : List (List ℕ)) → legal_name n ≡ false → definition k (n ∷ ws) ≡ malformed
unfolding defined
definition_unnamed k n ws e = defined_turn k n ws ∙ ap (λ (t : Bool). defined k n t (pairs k ws no_values)) e
