-- What a line asks for is legal: names, offsets within the limit, 0 to 3 quarter turns, no offset where the type has turns only, level 0 or 1.
use Prim.Native.Nat.{ℕ, zero, suc, ◌/◌, ◌%◌, ◌≤◌, ◌<◌}
use mathlib.Core.Path.{◌≡◌, refl, ap, ◌∙◌}
use mathlib.Core.List.{List, [], ◌∷◌, ◌++◌}
use mathlib.Core.Bool.{Bool, true, false, cond, not, ◌&&◌, ◌||◌}
use mathlib.Core.Option.{Option, none, some}
use mathlib.Core.Logic.{◌⊎◌, inl, inr, ⊎_elim}
use native.Mathlib.Omega.{arith}
use borrow.Author.Tests.{eqb-true, leb-true, le-leb}
use lib.Dec.{eqb, leb}
use lib.IntN.{ℤ, pos, negsuc}
use lib.ListN.{length, get_or, set}
use lib.Seq.{get_or-set_other}
use Rattle.model.specs.Types.{Kind, Ksd, Kst, Ksw, Ksb, Kld, Vec3, Turns}
use Rattle.model.specs.Ascii.{ascii}
use Rattle.model.specs.Lists.{all, between, there?, same, none?}
use Rattle.model.specs.Limits.{quarter_turn}
use Rattle.model.specs.Kinds.{of_kind}
use Rattle.model.specs.Words.{words, legal_name, number, offsets_fine, angle?, quarters}
use Rattle.model.specs.WellFormed.{turns_fine, no_offset}
use Rattle.model.specs.Request.{Change, Query, Reading, Command, Values, reading, unknown, malformed, beyond, asks, change, list, last_error, define, link, copy, remove, enable, set_level, save, restore, reset, enabled_ones, systems_all, links, resultants, resultant_of, resultant_in, axis, first_axis, may_come, pairs, no_values, given, in_range, offsets_of, turns_of, definition, names?, word, one_name, two_names, same_words, fixed_words, level_words, resultant_words, definitions, edits, settings, queries, commands, read_by, read_words, locate}
use Rattle.model.specs.Claims.{LegalDefinition, AsksNothingIllegal}
use Rattle.model.proofs.Basics.{and_split, and_join, or_left, or_right, either, all_at, none_some}

-- ---- what is legal

abbrev pub definition_legal : Kind → List ℕ → Vec3 → Turns → Bool
definition_legal k n t u = legal_name n && offsets_fine t && turns_fine u && (not (of_kind k).turns_only || no_offset t)

unfoldable pub change_legal : Change → Bool
change_legal (define k n t u) = definition_legal k n t u
change_legal (locate n) = legal_name n
change_legal (link a b) = legal_name a && legal_name b
change_legal (copy s d) = legal_name s && legal_name d
change_legal (remove a) = legal_name a
change_legal (enable a) = legal_name a
change_legal (set_level n) = leb n 1
change_legal save = true
change_legal restore = true
change_legal reset = true

unfoldable pub query_legal : Query → Bool
query_legal enabled_ones = true
query_legal systems_all = true
query_legal links = true
query_legal resultants = true
query_legal (resultant_of a) = legal_name a
query_legal (resultant_in a b) = legal_name a && legal_name b

unfoldable pub legal : Reading → Bool
legal unknown = true
legal malformed = true
legal beyond = true
legal (asks (change c)) = change_legal c
legal (asks (list q)) = query_legal q
legal (asks last_error) = true

-- ---- values

quarters_few : (z : ℤ) → angle? z ≡ true → quarters z ≤ 3
unfolding angle? quarters
quarters_few (pos n) e = leb-true (n / quarter_turn) 3 (and_split (eqb (n % quarter_turn) 0) (leb (n / quarter_turn) 3) e).1
quarters_few (negsuc n) e =
    let s = and_split (eqb (suc n % quarter_turn) 0) (leb (suc n / quarter_turn) 3) e in
    let r = eqb-true (suc n % quarter_turn) 0 s.0 in
    omega arith

-- where X Y Z may not come, they have no value
abbrev NoOffsets : Values → Type 0
NoOffsets vs = (i : ℕ) → i < 3 → get_or vs i none ≡ none

abbrev Next : Kind → List ℕ → List (List ℕ) → Values → Values → Type 0
Next k a rest vs end = (may_come k (axis a) vs ≡ true) × (z : ℤ) × (pairs k rest (set vs (axis a) (some z)) ≡ some end)

-- a pair that was read
pair_read : (k : Kind) (a n : List ℕ) (rest : List (List ℕ)) (vs end : Values) → pairs k (a ∷ n ∷ rest) vs ≡ some end → Next k a rest vs end
unfolding pairs
pair_read k a n rest vs end e = go (may_come k (axis a) vs) refl (number n) refl e
  where
    go : (t : Bool) → may_come k (axis a) vs ≡ t → (o : Option ℤ) → number n ≡ o →
        elim t [ false ↦ none | true ↦ elim o [ none ↦ none | some z ↦ pairs k rest (set vs (axis a) (some z)) ] ] ≡ some end → Next k a rest vs end
    go true m none q h = none_some h
    go true m (some z) q h = (m, z, h)
    go false m o q h = none_some h

axis_from : (k : Kind) (i : ℕ) (vs : Values) → may_come k i vs ≡ true → first_axis k ≤ i
unfolding may_come
axis_from k i vs e =
    leb-true (first_axis k) i (and_split (leb (first_axis k) i) (leb i 5) (and_split (between (first_axis k) 5 i) (not (there? (get_or vs i none))) e).0).0

no_offsets : (k : Kind) → (of_kind k).turns_only ≡ true → (ws : List (List ℕ)) (vs end : Values) → NoOffsets vs → pairs k ws vs ≡ some end → NoOffsets end
unfolding pairs
no_offsets k o [] vs end f e = let q : vs ≡ end = cc in rw (← q) f
no_offsets k o (a ∷ []) vs end f e = none_some e
no_offsets k o (a ∷ n ∷ rest) vs end f e =
    let r = pair_read k a n rest vs end e in
    no_offsets k o rest (set vs (axis a) (some r.1)) end (λ i h. get_or-set_other vs (axis a) i (some r.1) none (λ q. apart i h q r.0) ∙ f i h) r.2
  where
    apart : (i : ℕ) → i < 3 → i ≡ axis a → may_come k (axis a) vs ≡ true → ⊥
    apart i h q m = let three : first_axis k ≡ 3 = rw o in omega (arith, axis_from k (axis a) vs m)

-- ---- definitions

module _ (k : Kind) (n : List ℕ) (vs : Values) where
  offset_given : NoOffsets vs → (i : ℕ) → i < 3 → given vs i ≡ pos 0
  unfolding given
  offset_given f i h = rw (f i h, given)

  in_range_lem : legal_name n ≡ true → in_range vs ≡ true → ((of_kind k).turns_only ≡ true → NoOffsets vs) → definition_legal k n (offsets_of vs) (turns_of vs) ≡ true
  unfolding in_range
  in_range_lem name e only =
      let o = offsets_fine (offsets_of vs) in
      let a = and_split (o && angle? (given vs 3) && angle? (given vs 4)) (angle? (given vs 5)) e in
      let b = and_split (o && angle? (given vs 3)) (angle? (given vs 4)) a.0 in
      let c = and_split o (angle? (given vs 3)) b.0 in
      and_join (and_join (and_join name c.0) (and_join (and_join (few 3 c.1) (few 4 b.1)) (few 5 a.1))) (turns_only_lem (either (of_kind k).turns_only))
    where
      few : (i : ℕ) → angle? (given vs i) ≡ true → leb (quarters (given vs i)) 3 ≡ true
      few i g = le-leb (quarters (given vs i)) 3 (quarters_few (given vs i) g)

      turns_only_lem : ((of_kind k).turns_only ≡ true) ⊎ ((of_kind k).turns_only ≡ false) → not (of_kind k).turns_only || no_offset (offsets_of vs) ≡ true
      turns_only_lem (inl t) =
          let f = offset_given (only t) in
          or_right (not (of_kind k).turns_only) (no_offset (offsets_of vs)) (rw (f 0 (omega arith), f 1 (omega arith), f 2 (omega arith)))
      turns_only_lem (inr t) = or_left (not (of_kind k).turns_only) (no_offset (offsets_of vs)) (ap not t)

no_values_lem : NoOffsets no_values
no_values_lem zero h = refl
no_values_lem (suc zero) h = refl
no_values_lem (suc (suc zero)) h = refl
no_values_lem (suc (suc (suc i))) h = absurd (omega arith)

definition_legal_lem : (k : Kind) (args : List (List ℕ)) → legal (definition k args) ≡ true
unfolding definition legal
definition_legal_lem k [] = refl
definition_legal_lem k (n ∷ rest) = go (legal_name n) refl (pairs k rest no_values) refl
  where
    ranged : (vs : Values) → pairs k rest no_values ≡ some vs → legal_name n ≡ true → (t : Bool) → in_range vs ≡ t →
        legal (cond t (asks (change (define k n (offsets_of vs) (turns_of vs)))) beyond) ≡ true
    ranged vs p l true e = unfold change_legal in in_range_lem k n vs l e (λ o. no_offsets k o rest no_values vs no_values_lem p)
    ranged vs p l false e = refl

    go : (t : Bool) → legal_name n ≡ t → (o : Option Values) → pairs k rest no_values ≡ o →
        legal (elim t [
          | false ↦ malformed
          | true ↦ elim o [ none ↦ malformed | some vs ↦ cond (in_range vs) (asks (change (define k n (offsets_of vs) (turns_of vs)))) beyond ]
        ]) ≡ true
    go false l o p = refl
    go true l none p = refl
    go true l (some vs) p = ranged vs p l (in_range vs) refl

-- ---- names and fixed words

-- so many names: each is legal
name_at : (n : ℕ) (args : List (List ℕ)) → names? n args ≡ true → (i : ℕ) → i < n → legal_name (word args i) ≡ true
unfolding names?
name_at n args e i h =
    let s = and_split (eqb (length args) n) (all legal_name args) e in
    let q = eqb-true (length args) n s.0 in
    all_at legal_name args [] i s.1 (omega arith)

one_legal : (make : List ℕ → Reading) → ((a : List ℕ) → legal_name a ≡ true → legal (make a) ≡ true) → (args : List (List ℕ)) → legal (one_name make args) ≡ true
unfolding one_name legal
one_legal make f args = ⊎_elim (λ e. rw e (f (word args 0) (name_at 1 args e 0 (omega arith)))) (λ e. rw e) (either (names? 1 args))

two_legal : (make : List ℕ → List ℕ → Reading) → ((a b : List ℕ) → legal_name a && legal_name b ≡ true → legal (make a b) ≡ true) →
    (args : List (List ℕ)) → legal (two_names make args) ≡ true
unfolding two_names legal
two_legal make f args =
    ⊎_elim (λ e. rw e (f (word args 0) (word args 1) (and_join (name_at 2 args e 0 (omega arith)) (name_at 2 args e 1 (omega arith)))))
    (λ e. rw e)
    (either (names? 2 args))

fixed_legal : (expected : List (List ℕ)) (r : Reading) → legal r ≡ true → (args : List (List ℕ)) → legal (fixed_words expected r args) ≡ true
unfolding fixed_words legal
fixed_legal expected r f args = ⊎_elim (λ e. rw e f) (λ e. rw e) (either (same_words expected args))

level_legal : (args : List (List ℕ)) → legal (level_words args) ≡ true
unfolding level_words legal change_legal
level_legal args =
    ⊎_elim (λ e. rw e)
    (λ e. rw e (fixed_legal (ascii "1" ∷ ascii "ADVANCED" ∷ []) (asks (change (set_level 1))) refl args))
    (either (same_words (ascii "0" ∷ []) args))

resultant_legal : (args : List (List ℕ)) → legal (resultant_words args) ≡ true
unfolding resultant_words legal query_legal
resultant_legal args = ⊎_elim (λ e. rw e) (λ e. rw e named) (either (none? args))
  where
    one : legal (one_name (λ a. asks (list (resultant_of a))) args) ≡ true
    one = one_legal (λ a. asks (list (resultant_of a))) (λ a h. h) args

    two : legal (two_names (λ a b. asks (list (resultant_in a b))) args) ≡ true
    two = two_legal (λ a b. asks (list (resultant_in a b))) (λ a b h. h) args

    named : legal (cond (eqb (length args) 1) (one_name (λ a. asks (list (resultant_of a))) args) (two_names (λ a b. asks (list (resultant_in a b))) args)) ≡ true
    named = ⊎_elim (λ e. rw e one) (λ e. rw e two) (either (eqb (length args) 1))

-- ---- every command

data Reads : List Command → Type 0 where
  done : Reads []
  more : {c : Command} {cs : List Command} → ((args : List (List ℕ)) → legal (c.read args) ≡ true) → Reads cs → Reads (c ∷ cs)

reads_append : {cs ds : List Command} → Reads cs → Reads ds → Reads (cs ++ ds)
reads_append done r = r
reads_append (more f q) r = more f (reads_append q r)

definitions_read : Reads definitions
unfolding definitions legal change_legal
definitions_read =
    more (definition_legal_lem Ksd) (more (definition_legal_lem Kst) (more (definition_legal_lem Ksw) (more (definition_legal_lem Ksb) (more (definition_legal_lem Kld)
    (more (one_legal (λ a. asks (change (locate a))) (λ a h. h)) done)))))

edits_read : Reads edits
unfolding edits legal change_legal
edits_read =
    more (two_legal (λ a b. asks (change (link a b))) (λ a b h. h))
    (more (two_legal (λ s d. asks (change (copy s d))) (λ s d h. h))
    (more (one_legal (λ a. asks (change (remove a))) (λ a h. h))
    (more (one_legal (λ a. asks (change (enable a))) (λ a h. h))
    done)))

settings_read : Reads settings
unfolding settings legal change_legal
settings_read =
    more level_legal
    (more (fixed_legal (ascii "SKS" ∷ []) (asks (change save)) refl)
    (more (fixed_legal (ascii "SKS" ∷ []) (asks (change restore)) refl)
    (more (fixed_legal (ascii "SKS" ∷ []) (asks (change reset)) refl)
    done)))

queries_read : Reads queries
unfolding queries legal query_legal
queries_read =
    more (fixed_legal [] (asks (list enabled_ones)) refl)
    (more (fixed_legal [] (asks (list systems_all)) refl)
    (more (fixed_legal [] (asks (list links)) refl)
    (more resultant_legal
    (more (fixed_legal [] (asks last_error) refl)
    done))))

commands_read : Reads commands
unfolding commands
commands_read = reads_append definitions_read (reads_append edits_read (reads_append settings_read queries_read))

by_legal : (cs : List Command) → Reads cs → (w : List ℕ) (args : List (List ℕ)) → legal (read_by cs w args) ≡ true
unfolding read_by legal
by_legal [] done w args = refl
by_legal (c ∷ cs) (more f r) w args = go (same w c.first) (by_legal cs r w args)
  where
    go : (t : Bool) → legal (read_by cs w args) ≡ true → legal (elim t [ true ↦ c.read args | false ↦ read_by cs w args ]) ≡ true
    go true h = f args
    go false h = h

pub reading_legal : (line : List ℕ) → legal (reading line) ≡ true
unfolding reading read_words legal
reading_legal line = go (words line)
  where
    go : (ws : List (List ℕ)) → legal (read_words ws) ≡ true
    go [] = refl
    go (w ∷ args) = by_legal commands commands_read w args

-- ---- the claim

pub definition_parts : (k : Kind) (n : List ℕ) (t : Vec3) (u : Turns) → definition_legal k n t u ≡ true → LegalDefinition k n t u
definition_parts k n t u l =
    let a = and_split (legal_name n && offsets_fine t && turns_fine u) (not (of_kind k).turns_only || no_offset t) l in
    let b = and_split (legal_name n && offsets_fine t) (turns_fine u) a.0 in
    let c = and_split (legal_name n) (offsets_fine t) b.0 in
    record { name = c.0; offsets = c.1; turns = b.1; flat = a.1 }

asked_legal : (line : List ℕ) (c : Change) → reading line ≡ asks (change c) → change_legal c ≡ true
unfolding legal
asked_legal line c e = rw e at (reading_legal line)

pub asks_nothing_illegal : AsksNothingIllegal
unfolding change_legal
asks_nothing_illegal =
    record {
      definitions = λ line k n t u e. definition_parts k n t u (asked_legal line (define k n t u) e);
      locations = λ line n e. asked_legal line (locate n) e;
      copies = λ line s d e. (and_split (legal_name s) (legal_name d) (asked_legal line (copy s d) e)).1;
      levels = λ line n e. leb-true n 1 (asked_legal line (set_level n) e);
    }
