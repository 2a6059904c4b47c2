-- A ladder in the order of the numbers gives the first that applies, and the ladder of every line is in that order.
use Prim.Native.Nat.{ℕ, ◌≤◌}
use mathlib.Core.Path.{◌≡◌, refl, sym, subst, ◌∙◌}
use mathlib.Core.Bool.{Bool, true, false, not, ◌&&◌, ◌||◌}
use mathlib.Core.List.{List, [], ◌∷◌}
use mathlib.Core.Logic.{◌⊎◌, inl, inr, ⊎_elim}
use native.Mathlib.Omega.{arith}
use native.Mathlib.Decide.{ℕ_discrete}
use borrow.Author.Tests.{leb-true, ne_eqb, eq-eqb, eqb-true}
use lib.Dec.{eqb, leb}
use lib.ListN.{drop}
use Rattle.model.specs.Lists.{all, any}
use Rattle.model.specs.Memory.{Memory, State}
use Rattle.model.specs.Request.{Change, Query, Reading, reading, unknown, malformed, beyond, asks, change, list, last_error, define, link, copy, remove, enable, set_level, save, restore, reset, enabled_ones, systems_all, links, resultants, resultant_of, resultant_in, locate}
use Rattle.model.specs.Refusals.{precedence, of_line?, Rung, first, short, unreadable, refusal, change_ladder, query_ladder, request_ladder, reading_ladder, ladder}
use Rattle.model.proofs.Basics.{and_split, and_false, or_split, or_left, or_right, or_false, either, true_false}
use Rattle.model.specs.Claims.{applies, before, tried_before, FirstToApply, in_order, none_twice}

-- ---- one rung

module _ (r : Rung) (rs : List Rung) where
  first_here : r.1 ≡ true → first (r ∷ rs) ≡ r.0
  unfolding first
  first_here e = rw (e, first)

  first_later : r.1 ≡ false → first (r ∷ rs) ≡ first rs
  unfolding first
  first_later e = rw (e, first)

  applies_later : (n : ℕ) → r.1 ≡ false → applies n (r ∷ rs) ≡ applies n rs
  unfolding applies any
  applies_later n e = rw (e, and_false (eqb n r.0))

  applies_other : (n : ℕ) → (n ≡ r.0 → ⊥) → applies n (r ∷ rs) ≡ applies n rs
  unfolding applies any
  applies_other n e = rw (ne_eqb n r.0 e)

  applies_here : r.1 ≡ true → applies r.0 (r ∷ rs) ≡ true
  unfolding applies any
  applies_here e = rw (e, eq-eqb r.0 r.0 refl)

-- ---- a ladder in the order of some numbers, none of which stands there twice

-- no number applies
abbrev pub Clear : List Rung → Type 0
Clear rs = (n : ℕ) → applies n rs ≡ false

abbrev has : List ℕ → ℕ → Bool
has ns k = any (eqb k) ns

-- where the order begins with the rung's number, the next rung is further on in it; else that number comes later
order_here : (n : ℕ) (ns : List ℕ) (r : Rung) (rs : List Rung) → in_order (n ∷ ns) (r ∷ rs) ≡ true → eqb n r.0 ≡ true → in_order ns rs ≡ true
unfolding in_order
order_here n ns r rs o e = rw (in_order, e) at o

order_later : (n : ℕ) (ns : List ℕ) (r : Rung) (rs : List Rung) → in_order (n ∷ ns) (r ∷ rs) ≡ true → eqb n r.0 ≡ false → in_order ns (r ∷ rs) ≡ true
unfolding in_order
order_later n ns r rs o e = rw (in_order, e) at o

order_none : (r : Rung) (rs : List Rung) → in_order [] (r ∷ rs) ≡ true → ⊥
unfolding in_order
order_none r rs o = true_false (sym o)

-- a number that the order does not have applies nowhere
outside : (ns : List ℕ) (rs : List Rung) → in_order ns rs ≡ true → (k : ℕ) → has ns k ≡ false → applies k rs ≡ false
unfolding any
outside ns [] o k h = unfold applies any in refl
outside [] (r ∷ rs) o k h = absurd (order_none r rs o)
outside (n ∷ ns) (r ∷ rs) o k h =
    ⊎_elim (λ e. here e (outside ns rs (order_here n ns r rs o e) k apart.1))
    (λ e. outside ns (r ∷ rs) (order_later n ns r rs o e) k apart.1)
    (either (eqb n r.0))
  where
    apart : (eqb k n ≡ false) × (has ns k ≡ false)
    apart = or_false (eqb k n) (has ns k) h

    here : eqb n r.0 ≡ true → applies k rs ≡ false → applies k (r ∷ rs) ≡ false
    here e rest = applies_other r rs k (λ x. true_false (sym (eq-eqb k n (x ∙ sym (eqb-true n r.0 e))) ∙ apart.0)) ∙ rest

-- what applies is a number of the order
inside : (ns : List ℕ) (rs : List Rung) → in_order ns rs ≡ true → (k : ℕ) → applies k rs ≡ true → has ns k ≡ true
inside ns rs o k a = ⊎_elim (λ h. h) (λ h. true_false (sym a ∙ outside ns rs o k h)) (either (has ns k))

module _ (n : ℕ) (ns : List ℕ) (once : none_twice (n ∷ ns) ≡ true) where
  alone : has ns n ≡ false
  unfolding none_twice
  alone = go (has ns n) (and_split (not (has ns n)) (none_twice ns) once).0
    where
      go : (t : Bool) → not t ≡ true → t ≡ false
      go true e = true_false (sym e)
      go false e = refl

  once_on : none_twice ns ≡ true
  unfolding none_twice
  once_on = (and_split (not (has ns n)) (none_twice ns) once).1

-- what stands before m in an order is its first number, or stands before m in the rest
before_on : (n m : ℕ) (ns : List ℕ) (k : ℕ) → has (before m (n ∷ ns)) k ≡ true → (k ≡ n) ⊎ (has (before m ns) k ≡ true)
unfolding before any
before_on n m ns k h = go (eqb n m) refl
  where
    go : (t : Bool) → eqb n m ≡ t → (k ≡ n) ⊎ (has (before m ns) k ≡ true)
    go true e = true_false (sym (rw e at h))
    go false e = ⊎_elim (λ x. inl (eqb-true k n x)) (λ x. inr x) (or_split (eqb k n) (has (before m ns) k) (rw e at h))

pub none_applies : (ns : List ℕ) (rs : List Rung) → all (λ n. leb 1 n) ns ≡ true → in_order ns rs ≡ true → first rs ≡ 0 → Clear rs
unfolding all
none_applies ns [] p o z k = unfold applies any in refl
none_applies [] (r ∷ rs) p o z k = absurd (order_none r rs o)
none_applies (n ∷ ns) (r ∷ rs) p o z k =
    ⊎_elim (λ e. here e (λ f. none_applies ns rs above.1 (order_here n ns r rs o e) (sym (first_later r rs f) ∙ z) k))
    (λ e. none_applies ns (r ∷ rs) above.1 (order_later n ns r rs o e) z k)
    (either (eqb n r.0))
  where
    above : (leb 1 n ≡ true) × (all (λ i. leb 1 i) ns ≡ true)
    above = and_split (leb 1 n) (all (λ i. leb 1 i) ns) p

    here : eqb n r.0 ≡ true → (r.1 ≡ false → applies k rs ≡ false) → applies k (r ∷ rs) ≡ false
    here e rest =
        ⊎_elim (λ t. let q = eqb-true n r.0 e in let low = leb-true 1 n above.0 in let f = first_here r rs t in absurd (omega arith))
        (λ f. applies_later r rs k f ∙ rest f)
        (either r.1)

-- the number given applies, and none that stands before it in the order does
record Gives (ns : List ℕ) (rs : List Rung) : Type 0 where
  itself : applies (first rs) rs ≡ true
  none_before : (k : ℕ) → has (before (first rs) ns) k ≡ true → applies k rs ≡ false

gives : (ns : List ℕ) (rs : List Rung) → none_twice ns ≡ true → in_order ns rs ≡ true → (first rs ≡ 0 → ⊥) → Gives ns rs
unfolding before any
gives ns [] once o z = absurd (z (unfold first in refl))
gives [] (r ∷ rs) once o z = absurd (order_none r rs o)
gives (n ∷ ns) (r ∷ rs) once o z =
    ⊎_elim (λ e.
    ⊎_elim (taken e)
    (λ f. passed e f (gives ns rs (once_on n ns once) (order_here n ns r rs o e) (λ y. z (first_later r rs f ∙ y))))
    (either r.1))
    (λ e. later e (gives ns (r ∷ rs) (once_on n ns once) (order_later n ns r rs o e) z))
    (either (eqb n r.0))
  where
    later : eqb n r.0 ≡ false → Gives ns (r ∷ rs) → Gives (n ∷ ns) (r ∷ rs)
    later e g =
        record {
          itself = g.itself;
          none_before = λ k h.
              ⊎_elim (λ x. rw x (outside ns (r ∷ rs) (order_later n ns r rs o e) n (alone n ns once)))
              (λ x. g.none_before k x)
              (before_on n (first (r ∷ rs)) ns k h);
        }

    passed : eqb n r.0 ≡ true → r.1 ≡ false → Gives ns rs → Gives (n ∷ ns) (r ∷ rs)
    passed e f g =
        let q = first_later r rs f in
        record {
          itself = rw q (applies_later r rs (first rs) f ∙ g.itself);
          none_before = λ k h.
              applies_later r rs k f
              ∙ ⊎_elim (λ x. rw x (outside ns rs (order_here n ns r rs o e) n (alone n ns once)))
              (λ x. g.none_before k x)
              (before_on n (first rs) ns k (subst (λ m. has (before m (n ∷ ns)) k ≡ true) q h));
        }

    nothing : (m : ℕ) → n ≡ m → (k : ℕ) → has (before m (n ∷ ns)) k ≡ true → applies k (r ∷ rs) ≡ false
    nothing m p k h = true_false (sym (rw (eq-eqb n m p) at h))

    taken : eqb n r.0 ≡ true → r.1 ≡ true → Gives (n ∷ ns) (r ∷ rs)
    taken e t =
        let q = first_here r rs t in
        record { itself = rw q (applies_here r rs t); none_before = nothing (first (r ∷ rs)) (eqb-true n r.0 e ∙ sym q) }

-- of two numbers of an order one stands before the other
either_before : (ns : List ℕ) (a b : ℕ) → has ns a ≡ true → has ns b ≡ true → (a ≡ b → ⊥) →
    (has (before b ns) a ≡ true) ⊎ (has (before a ns) b ≡ true)
unfolding any before
either_before [] a b p q d = true_false (sym p)
either_before (n ∷ ns) a b p q d = go (eqb n a) (eqb n b) refl refl (λ x y. either_before ns a b x y d)
  where
    rest : (k : ℕ) → eqb k n || has ns k ≡ true → eqb n k ≡ false → has ns k ≡ true
    rest k h e = ⊎_elim (λ x. true_false (sym (eq-eqb n k (sym (eqb-true k n x))) ∙ e)) (λ x. x) (or_split (eqb k n) (has ns k) h)

    go : (s t : Bool) → eqb n a ≡ s → eqb n b ≡ t →
        (has ns a ≡ true → has ns b ≡ true → (has (before b ns) a ≡ true) ⊎ (has (before a ns) b ≡ true)) →
        (has (before b (n ∷ ns)) a ≡ true) ⊎ (has (before a (n ∷ ns)) b ≡ true)
    go true true e f later = absurd (d (sym (eqb-true n a e) ∙ eqb-true n b f))
    go true false e f later = inl (rw f (or_left (eqb a n) _ (eq-eqb a n (sym (eqb-true n a e)))))
    go false true e f later = inr (rw e (or_left (eqb b n) _ (eq-eqb b n (sym (eqb-true n b f)))))
    go false false e f later =
        ⊎_elim (λ x. inl (rw f (or_right (eqb a n) _ x))) (λ x. inr (rw e (or_right (eqb b n) _ x))) (later (rest a p e) (rest b q f))

-- ---- the order of document 01

abbrev pub Ordered : List Rung → Type 0
Ordered rs = in_order precedence rs ≡ true

pub once : none_twice precedence ≡ true
unfolding none_twice any
once = refl

pub clear : (rs : List Rung) → Ordered rs → first rs ≡ 0 → Clear rs
clear rs o z = none_applies precedence rs (unfold all in refl) o z

module _ (rs : List Rung) (o : Ordered rs) where
  pub first_applies : (first rs ≡ 0 → ⊥) → FirstToApply (first rs) rs
  unfolding tried_before
  first_applies z = let g = gives precedence rs once o z in record { itself = g.itself; none_before = g.none_before }

  -- only one number is the first to apply
  pub first_only : (n : ℕ) → FirstToApply n rs → first rs ≡ n
  first_only n f = go (ℕ_discrete (first rs) 0) (ℕ_discrete (first rs) n)
    where
      go : Dec (first rs ≡ 0) → Dec (first rs ≡ n) → first rs ≡ n
      go (yes z) d = true_false (sym f.itself ∙ clear rs o z n)
      go (no z) (yes e) = e
      go (no z) (no d) =
          let g = first_applies z in
          unfold tried_before in
          ⊎_elim
          (λ h. true_false (sym g.itself ∙ f.none_before (first rs) h))
          (λ h. true_false (sym f.itself ∙ g.none_before n h))
          (either_before precedence (first rs) n (inside precedence rs o (first rs) g.itself) (inside precedence rs o n f.itself) d)

  -- none applies, and so 0 is given
  pub first_zero : Clear rs → first rs ≡ 0
  first_zero f = go (ℕ_discrete (first rs) 0)
    where
      go : Dec (first rs ≡ 0) → first rs ≡ 0
      go (yes z) = z
      go (no z) = true_false (sym (first_applies z).itself ∙ f (first rs))

  -- the number given is one of a line's
  pub first_of_line : (first rs ≡ 0 → ⊥) → of_line? (first rs) ≡ true
  unfolding of_line?
  first_of_line z = inside precedence rs o (first rs) (first_applies z).itself

  -- where n applies, it or one that is tried before it is given
  pub first_up_to : (n : ℕ) → applies n rs ≡ true → eqb (first rs) n || tried_before n (first rs) ≡ true
  first_up_to n a = go (ℕ_discrete (first rs) 0) (ℕ_discrete (first rs) n)
    where
      go : Dec (first rs ≡ 0) → Dec (first rs ≡ n) → eqb (first rs) n || tried_before n (first rs) ≡ true
      go (yes z) d = true_false (sym a ∙ clear rs o z n)
      go (no z) (yes e) = or_left (eqb (first rs) n) _ (eq-eqb (first rs) n e)
      go (no z) (no d) =
          let g = first_applies z in
          unfold tried_before in
          ⊎_elim
          (λ h. or_right (eqb (first rs) n) _ h)
          (λ h. true_false (sym a ∙ g.none_before n h))
          (either_before precedence (first rs) n (inside precedence rs o (first rs) g.itself) (inside precedence rs o n a) d)

-- a number of a line is 2 or more
pub of_line_low : (n : ℕ) → of_line? n ≡ true → 2 ≤ n
unfolding of_line? all any
of_line_low n h = from precedence refl h
  where
    from : (ns : List ℕ) → all (λ i. leb 2 i) ns ≡ true → has ns n ≡ true → 2 ≤ n
    from [] p h = true_false (sym h)
    from (i ∷ ns) p h =
        let s = and_split (leb 2 i) (all (λ j. leb 2 j) ns) p in
        ⊎_elim (λ e. let q = eqb-true n i e in let low = leb-true 2 i s.0 in omega arith) (from ns s.1) (or_split (eqb n i) (has ns n) h)

-- ---- the ladder of a line: 2 and 3, and then that of what was read, which has neither

abbrev Later : List Rung → Type 0
Later rs = in_order (drop 2 precedence) rs ≡ true

change_ordered : (st : State) (m : Memory) (c : Change) → Later (change_ladder st m c)
unfolding change_ladder in_order
change_ordered st m (define k n t u) = refl
change_ordered st m (locate n) = refl
change_ordered st m (link a b) = refl
change_ordered st m (copy s d) = refl
change_ordered st m (remove a) = refl
change_ordered st m (enable a) = refl
change_ordered st m (set_level n) = refl
change_ordered st m save = refl
change_ordered st m restore = refl
change_ordered st m reset = refl

query_ordered : (m : Memory) (q : Query) → Later (query_ladder m q)
unfolding query_ladder in_order
query_ordered m enabled_ones = refl
query_ordered m systems_all = refl
query_ordered m links = refl
query_ordered m resultants = refl
query_ordered m (resultant_of a) = refl
query_ordered m (resultant_in a b) = refl

reading_ordered : (st : State) (r : Reading) → Later (reading_ladder st r)
unfolding reading_ladder request_ladder in_order
reading_ordered st unknown = refl
reading_ordered st malformed = refl
reading_ordered st beyond = refl
reading_ordered st (asks (change c)) = change_ordered st st.volatile c
reading_ordered st (asks (list q)) = query_ordered st.volatile q
reading_ordered st (asks last_error) = refl

module _ (st : State) (line b : List ℕ) where
  pub ladder_ordered : Ordered (ladder st line b)
  unfolding ladder in_order
  ladder_ordered = reading_ordered st (reading line)

  -- of an accepted line no number applies, from 4 on neither
  pub clear_of : refusal st line b ≡ 0 → Clear (reading_ladder st (reading line))
  unfolding refusal ladder applies any
  clear_of z n =
      let from-three = applies n ((3, unreadable line) ∷ reading_ladder st (reading line)) in
      let a = or_false (eqb n 2 && short b) from-three (clear (ladder st line b) ladder_ordered z n) in
      (or_false (eqb n 3 && unreadable line) (applies n (reading_ladder st (reading line))) a.1).1
