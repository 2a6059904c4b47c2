-- A number that is read in its shortest form is the number that was written, and no other bytes are read as a number.
use Prim.Native.Nat.{ℕ, ◌+◌, ◌*◌, ◌-◌, ◌/◌, ◌%◌, ◌≤◌, ◌<◌}
use mathlib.Core.Path.{◌≡◌, refl, sym, ap, ◌∙◌}
use mathlib.Core.List.{List, [], ◌∷◌, ◌++◌}
use mathlib.Core.Bool.{Bool, true, false, cond, ◌&&◌}
use mathlib.Core.Option.{Option, none, some}
use mathlib.Core.Logic.{⊎_elim}
use native.Mathlib.Nat.{div-add-mod, mod-lt, mod-eq_of_lt, div-eq_of_lt, add-mul-mod_self_left, add-mul-div_left}
use native.Mathlib.Omega.{arith}
use lib.Dec.{ltb, leb}
use borrow.Author.Tests.{lt-ltb, le-ltb, ltb-true, ltb-false, le-leb, leb-true, leb-false, lt-leb}
use Rattle.model.specs.Image.{whole, above, shortest, within, up_to}
use Rattle.model.proofs.Basics.{none_some, either, and_split}
use Rattle.model.proofs.Image.Wholes.{whole_last, whole_more, by_groups}
use Rattle.model.proofs.Image.Readers.{passed, one_read}

-- ---- the first byte

pub shortest_last : (b : ℕ) (bs : List ℕ) → b < 128 → shortest (b ∷ bs) ≡ some (b, bs)
unfolding shortest
shortest_last b bs h = rw (lt-ltb b 128 h, shortest)

pub shortest_more : (b : ℕ) (bs : List ℕ) → 128 ≤ b → shortest (b ∷ bs) ≡ above b (shortest bs)
unfolding shortest
shortest_more b bs h = rw (le-ltb b 128 h, shortest)

-- ---- written, then read

above_group : (n : ℕ) (rest : List ℕ) → 128 ≤ n → above (n % 128 + 128) (some (n / 128, rest)) ≡ some (n, rest)
unfolding above
above_group n rest h =
    let d = div-add-mod n 128 in
    let l : n % 128 < 128 = mod-lt n (omega arith) in
    let e : n % 128 + 128 - 128 + 128 * (n / 128) ≡ n = omega arith in
    rw (lt-ltb (n % 128 + 128) 256 (omega arith), lt-ltb 0 (n / 128) (omega arith), e)

pub shortest_whole : (n : ℕ) (rest : List ℕ) → shortest (whole n ++ rest) ≡ some (n, rest)
shortest_whole n rest =
    by_groups (λ (n : ℕ). shortest (whole n ++ rest) ≡ some (n, rest))
    (λ n s. rw (whole_last n s) (shortest_last n rest s))
    (λ n s e. rw (whole_more n s) (shortest_more (n % 128 + 128) (whole (n / 128) ++ rest) (omega arith) ∙ rw e (above_group n rest s)))
    n

-- ---- read, so written

whole_above : (b v : ℕ) → 128 ≤ b → b < 256 → 0 < v → whole (b - 128 + 128 * v) ≡ b ∷ whole v
whole_above b v h g p =
    let n = b - 128 + 128 * v in
    let m : n % 128 ≡ b - 128 = add-mul-mod_self_left (b - 128) 128 v ∙ mod-eq_of_lt (omega arith) in
    let d : n / 128 ≡ v = add-mul-div_left (b - 128) v {y = 128} (omega arith) ∙ rw (div-eq_of_lt {n = b - 128} {m = 128} (omega arith)) (omega arith) in
    let e : b - 128 + 128 ≡ b = omega arith in
    whole_more n (omega arith) ∙ rw (m, d, e)

-- what a group before others gave
above_gave : (b : ℕ) (o : Option (ℕ × List ℕ)) (n : ℕ) (rest : List ℕ) → above b o ≡ some (n, rest)
    → (v : ℕ) × (o ≡ some (v, rest)) × (b < 256) × (0 < v) × (n ≡ b - 128 + 128 * v)
unfolding above
above_gave b none n rest e = none_some e
above_gave b (some p) n rest e =
    let g = passed (ltb b 256 && ltb 0 p.0) (b - 128 + 128 * p.0, p.1) (n, rest) e in
    let t = and_split (ltb b 256) (ltb 0 p.0) g.0 in
    (p.0, rw (ap (λ (q : ℕ × List ℕ). q.1) g.1), ltb-true b 256 t.0, ltb-true 0 p.0 t.1, sym (ap (λ (q : ℕ × List ℕ). q.0) g.1))

pub whole_shortest : (bs : List ℕ) (n : ℕ) (rest : List ℕ) → shortest bs ≡ some (n, rest) → bs ≡ whole n ++ rest
unfolding shortest
whole_shortest [] n rest e = none_some e
whole_shortest (b ∷ bs) n rest e =
    ⊎_elim (λ t. last (ltb-true b 128 t)) (λ t. more (ltb-false b 128 t) (whole_shortest bs)) (either (ltb b 128))
  where
    last : b < 128 → b ∷ bs ≡ whole n ++ rest
    last h =
        let q = one_read (sym (shortest_last b bs h) ∙ e) in
        rw (← q.0, whole_last b h, q.1)

    more : 128 ≤ b → ((v : ℕ) (rest : List ℕ) → shortest bs ≡ some (v, rest) → bs ≡ whole v ++ rest) → b ∷ bs ≡ whole n ++ rest
    more h f =
        let g = above_gave b (shortest bs) n rest (sym (shortest_more b bs h) ∙ e) in
        rw (g.4, whole_above b g.0 h g.2 g.3) (ap (λ (l : List ℕ). b ∷ l) (f g.0 rest g.1))

-- ---- not above the most

pub within_le : (most : ℕ) (o : Option (ℕ × List ℕ)) (n : ℕ) (rest : List ℕ) → within most o ≡ some (n, rest) → (o ≡ some (n, rest)) × (n ≤ most)
unfolding within
within_le most none n rest e = none_some e
within_le most (some p) n rest e =
    let g = passed (leb p.0 most) p (n, rest) e in
    (ap some g.1, rw (ap (λ (q : ℕ × List ℕ). q.0) g.1) at (leb-true p.0 most g.0))

pub within_some : (most n : ℕ) (rest : List ℕ) → n ≤ most → within most (some (n, rest)) ≡ some (n, rest)
unfolding within
within_some most n rest h = rw (le-leb n most h)

pub within_over : (most n : ℕ) (rest : List ℕ) → most < n → within most (some (n, rest)) ≡ none
unfolding within
within_over most n rest h = rw (lt-leb n most h)

too_much : (most n : ℕ) (rest : List ℕ) (t : Bool) → most < n → within most (cond t (some (n, rest)) none) ≡ none
unfolding within
too_much most n rest true h = rw (lt-leb n most h)
too_much most n rest false h = refl

-- groups above the first are not above the rest of the most
pub within_above : (most b : ℕ) (o : Option (ℕ × List ℕ)) → within most (above b o) ≡ within most (above b (within (most / 128) o))
unfolding within above
within_above most b none = refl
within_above most b (some p) =
    ⊎_elim (λ t. rw t)
    (λ t. rw t (too_much most (b - 128 + 128 * p.0) p.1 (ltb b 256 && ltb 0 p.0) (omega (arith, leb-false p.0 (most / 128) t, div-add-mod most 128, mod-lt most {m = 128} (omega arith)))))
    (either (leb p.0 (most / 128)))

-- below 128 there is no second group
pub within_one : (most b : ℕ) (o : Option (ℕ × List ℕ)) → most < 128 → within most (above b o) ≡ none
unfolding within above
within_one most b none h = refl
within_one most b (some p) h =
    let t = ltb b 256 && ltb 0 p.0 in
    ⊎_elim (λ (e : t ≡ true). rw e (within_over most (b - 128 + 128 * p.0) p.1 (omega (arith, ltb-true 0 p.0 (and_split (ltb b 256) (ltb 0 p.0) e).1))))
    (λ (e : t ≡ false). rw e)
    (either t)

pub above_zero : (b : ℕ) (rest : List ℕ) → above b (some (0, rest)) ≡ none
unfolding above
above_zero b rest = ⊎_elim (λ (e : ltb b 256 ≡ true). rw e) (λ (e : ltb b 256 ≡ false). rw e) (either (ltb b 256))

pub up_to_whole : (most n : ℕ) (rest : List ℕ) → n ≤ most → up_to most (whole n ++ rest) ≡ some (n, rest)
up_to_whole most n rest h = rw (shortest_whole n rest) (within_some most n rest h)

pub whole_up_to : (most : ℕ) (bs : List ℕ) (n : ℕ) (rest : List ℕ) → up_to most bs ≡ some (n, rest) → (bs ≡ whole n ++ rest) × (n ≤ most)
whole_up_to most bs n rest e = let g = within_le most (shortest bs) n rest e in (whole_shortest bs n rest g.0, g.1)
