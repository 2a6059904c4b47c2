-- Document 02 §3: one frame seen from another, by names and in bytes.
use Prim.Native.Nat.{ℕ, suc, ◌+◌}
use mathlib.Core.Path.{◌≡◌, refl, ap, subst, ◌∙◌}
use mathlib.Core.List.{List, [], ◌∷◌, ◌++◌}
use mathlib.Core.Bool.{true, false, not, ◌&&◌}
use mathlib.Core.Option.{Option, none, some}
use mathlib.Core.Logic.{⊎_elim}
use native.Mathlib.Omega.{arith}
use borrow.Author.Tests.{eq-eqb, ne_eqb}
use lib.Dec.{leb}
use lib.ListN.{length}
use Rattle.model.specs.Types.{Group, Operating}
use Rattle.model.specs.Ascii.{ascii}
use Rattle.model.specs.Lists.{all, same, none?, there?}
use Rattle.model.specs.Kinds.{of_group}
use Rattle.model.specs.Pose.{Pose}
use Rattle.model.specs.Memory.{Memory, State, Ref, fixed_ref, name_of, find, ref_or, named}
use Rattle.model.specs.Chain.{steps, pose_in}
use Rattle.model.specs.WellFormed.{well_formed}
use Rattle.model.specs.Words.{words, legal_name}
use Rattle.model.specs.Request.{reading, malformed, asks, list, resultant_in, names?, one_name, two_names, resultant_words, definitions, edits, settings, queries, commands, read_by, read_words}
use Rattle.model.specs.Refusals.{first, unreadable, absent, query_ladder}
use Rattle.model.specs.Reply.{pose_line, resultant_line, relative_line, listing, listed}
use Rattle.model.specs.Arithmetic.{Alike}
use Rattle.model.specs.Demand.{Replies}
use Rattle.model.specs.Relative.{Member, seen, resultant_named, steps_named, SeenFromAnother, seen_line, AsksResultants, AnswersSeen, PrintsSeen, OneFrameFromAnother}
use Rattle.model.proofs.Basics.{either, true_false}
use Rattle.model.proofs.Chains.Steps.{steps_zero}
use Rattle.model.proofs.Memories.Fine.{Fine, fine_of}
use Rattle.model.proofs.Memories.Found.{fixed_found, found_is}
use Rattle.model.proofs.Poses.Arithmetic.{alike}
use Rattle.model.proofs.Poses.Relative.{in_named, in_through, in_itself, in_fixed}
use Rattle.model.proofs.Ladder.Refusing.{step_number}
use Rattle.model.proofs.Ladder.Queries.{query_refusal, query_replies}

-- ---- names

-- a system has the name under which it is found
pub named_name : (m : Memory) (n : List ℕ) → absent m n ≡ false → name_of m.systems (named m n) ≡ n
unfolding there? ref_or
named_name m n e = go (find m n) refl
  where
    go : (o : Option Ref) → find m n ≡ o → name_of m.systems (named m n) ≡ n
    go none z = true_false (rw z at e)
    go (some r) z = ap (λ (o : Option Ref). name_of m.systems (ref_or o)) z ∙ (found_is m n r z).1

module _ (m : Memory) (fine : Fine m) (g : Group) where
  fixed_named_lem : named m (of_group g).name ≡ fixed_ref g
  unfolding ref_or
  fixed_named_lem = ap ref_or (fixed_found m fine g)

  fixed_member : Member m g (of_group g).name
  unfolding there?
  fixed_member = record { there = ap (λ (o : Option Ref). not (there? o)) (fixed_found m fine g); group = ap (λ (r : Ref). r.group) fixed_named_lem }

  in_fixed_named : (a : List ℕ) → seen m a (of_group g).name ≡ pose_in m.systems (named m a).place 0
  in_fixed_named a = ap (λ (r : Ref). pose_in m.systems (named m a).place r.place) fixed_named_lem

  fixed_steps : steps_named m (of_group g).name ≡ 0
  fixed_steps = ap (λ (r : Ref). steps m.systems r.place) fixed_named_lem ∙ steps_zero m.systems

  seen_laws : SeenFromAnother m g
  seen_laws =
      let l = m.systems in
      let at : List ℕ → ℕ = λ n. (named m n).place in
      let through : (a b c : List ℕ) → _ = λ a b c. in_through l (at a) (at b) (at c) in
      record {
        through = λ a b c p q r. alike _ _ (through a b c);
        itself = λ a p. alike _ _ (in_itself l (at a));
        member = fixed_member;
        fixed = λ a p. alike _ _ (in_fixed_named a ∙ in_fixed l (at a));
        back = λ a b p q. record { before = alike _ _ (through a b a ∙ in_itself l (at a)); behind = alike _ _ (through b a b ∙ in_itself l (at b)) };
        turned = λ a b p q. in_named l (at a) (at b);
      }

-- ---- bytes

alike_line : (p q : Pose) → Alike p q → (name end : List ℕ) (count : ℕ) → pose_line name end p count ≡ pose_line name end q count
unfolding pose_line
alike_line p q a name end count = rw (a.offset, a.turns)

seen_prints : (m : Memory) → Fine m → PrintsSeen m
unfolding listed listing resultant_line
seen_prints m fine =
    record {
      alike = alike_line;
      itself = λ g a p. ap (λ (s : Pose). pose_line a a s (steps_named m a + steps_named m a) ++ ascii "\n") (in_itself m.systems (named m a).place);
      fixed = fixed;
      zero = λ a p. fixed Operating a p ∙ rw (named_name m a p.there, p.group) refl;
    }
  where
    fixed : (g : Group) (a : List ℕ) → Member m g a → seen_line m a (of_group g).name ≡ pose_line a (of_group g).name (resultant_named m a) (steps_named m a) ++ ascii "\n"
    fixed g a p =
        let pose = in_fixed_named m fine g a ∙ in_fixed m.systems (named m a).place in
        let count : steps_named m a + steps_named m (of_group g).name ≡ steps_named m a = omega (arith, fixed_steps m fine g) in
        λ i. pose_line a (of_group g).name (pose i) (count i) ++ ascii "\n"

-- ---- words

klt_words : (args : List (List ℕ)) → read_words (ascii "KLT?" ∷ args) ≡ resultant_words args
unfolding read_words read_by commands definitions edits settings queries same
klt_words args = refl

asks_resultants : (line : List ℕ) → AsksResultants line
unfolding reading resultant_words one_name two_names names? none? all
asks_resultants line =
    record {
      every = λ e. by e;
      one = λ a e p. by e ∙ rw p;
      two = λ a b e p q. by e ∙ rw (p, q);
      other = λ args e z. by e ∙ malformed_words args z;
    }
  where
    by : {args : List (List ℕ)} → words line ≡ ascii "KLT?" ∷ args → reading line ≡ resultant_words args
    by {args} e = ap read_words e ∙ klt_words args

    malformed_words : (args : List (List ℕ)) → all legal_name args && leb (length args) 2 ≡ false → resultant_words args ≡ malformed
    malformed_words [] z = true_false z
    malformed_words (a ∷ []) z = ⊎_elim (λ (p : legal_name a ≡ true). true_false (rw p at z)) (λ (p : legal_name a ≡ false). rw p) (either (legal_name a))
    malformed_words (a ∷ b ∷ []) z = ⊎_elim second (λ (p : legal_name a ≡ false). rw p) (either (legal_name a))
      where
        second : legal_name a ≡ true → resultant_words (a ∷ b ∷ []) ≡ malformed
        second p = ⊎_elim (λ (q : legal_name b ≡ true). true_false (rw (p, q) at z)) (λ (q : legal_name b ≡ false). rw (p, q)) (either (legal_name b))
    malformed_words (a ∷ b ∷ c ∷ more) z =
        let n = suc (suc (suc (length more))) in
        rw (ne_eqb n 1 (λ h. omega arith), ne_eqb n 2 (λ h. omega arith))

-- ---- numbers and the reply

module _ (st : State) (w : well_formed st ≡ true) (line a b : List ℕ) (r : unreadable line ≡ false) (asked : reading line ≡ asks (list (resultant_in a b))) where
  m : Memory
  m = st.volatile

  answers_seen : AnswersSeen st line a b
  unfolding m query_ladder first listed listing relative_line
  answers_seen =
      record {
        seven = λ e buffer h. step_number st line buffer w ∙ query_refusal st w line (resultant_in a b) asked buffer h r ∙ rw e;
        ten = λ g h p q differ buffer room.
            step_number st line buffer w ∙ query_refusal st w line (resultant_in a b) asked buffer room r ∙ rw (p.there, q.there, p.group, q.group, differ);
        text = λ g p q. subst (Replies st line) (shown p q) (query_replies st w line (resultant_in a b) asked r (clear p q));
      }
    where
      clear : {g : Group} → Member m g a → Member m g b → first (query_ladder m (resultant_in a b)) ≡ 0
      clear {g} p q = rw (p.there, q.there, p.group, q.group, eq-eqb (of_group g).order (of_group g).order refl)

      shown : {g : Group} → Member m g a → Member m g b → listed m (resultant_in a b) ≡ seen_line m a b
      shown p q = rw (named_name m a p.there, named_name m b q.there)

-- ---- all of it

pub one_frame_from_another : OneFrameFromAnother
one_frame_from_another =
    record {
      laws = λ m f. seen_laws m (fine_of m f);
      asked = asks_resultants;
      prints = λ m f. seen_prints m (fine_of m f);
      answers = answers_seen;
    }
