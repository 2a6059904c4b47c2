-- One word on. The code does not ask whether a word is left where an empty one is refused anyway: these laws say that it need not.
use Prim.Native.Nat.{ℕ, ◌-◌, ◌<◌}
use mathlib.Core.Path.{◌≡◌, sym, ap, ◌∙◌}
use mathlib.Core.List.{List, [], ◌∷◌}
use mathlib.Core.Bool.{true}
use mathlib.Core.Logic.{◌⊎◌, inl, inr, ⊎_elim}
use native.Mathlib.Decide.{ℕ_discrete}
use native.Mathlib.Omega.{arith}
use borrow.Author.Tests.{eq-eqb, ne_eqb}
use lib.Dec.{eqb}
use lib.ListN.{length}
use Rattle.model.specs.Lists.{same, none?}
use Rattle.model.specs.Words.{legal_name}
use Rattle.model.proofs.Basics.{same→≡, true_false}
use Rattle.text.specs.declared.words.Word.{Word}
use Rattle.text.specs.Cursor.{next_word, word_of, words_from}
use Rattle.text.proofs.WordLaws.{word_by_word}

module _ (line : List ℕ) (at : ℕ) (w : Word) (e : w ≡ next_word line at) where
  empty : w.start ≡ w.end → word_of line w ≡ []
  empty h = let z : w.end - w.start ≡ 0 = omega arith in rw z

  -- no word is left, or this one and those behind it are
  pub left : ((words_from line at ≡ []) × (word_of line w ≡ [])) ⊎ (words_from line at ≡ word_of line w ∷ words_from line w.end)
  left = go (ℕ_discrete w.start w.end)
    where
      go : Dec (w.start ≡ w.end) → ((words_from line at ≡ []) × (word_of line w ≡ [])) ⊎ (words_from line at ≡ word_of line w ∷ words_from line w.end)
      go (yes h) = inl ((word_by_word line at w e).none h, empty h)
      go (no h) = inr ((word_by_word line at w e).more h)

  -- a word that has bytes is the first of those left
  pub at_word : 0 < length (word_of line w) → words_from line at ≡ word_of line w ∷ words_from line w.end
  at_word l = (word_by_word line at w e).more (λ h. let z : length (word_of line w) ≡ 0 = ap length (empty h) in omega arith)

  -- what holds with no word, and with this word and any behind it, holds
  pub either_way : {A : Type 0} (f : List (List ℕ) → A) (x : A) → f [] ≡ x → ((ws : List (List ℕ)) → f (word_of line w ∷ ws) ≡ x) → f (words_from line at) ≡ x
  either_way f x p q = ⊎_elim (λ h. ap f h.0 ∙ p) (λ h. ap f h ∙ q (words_from line w.end)) left

  pub none_left : eqb w.start w.end ≡ none? (words_from line at)
  unfolding none?
  none_left = go (ℕ_discrete w.start w.end)
    where
      go : Dec (w.start ≡ w.end) → eqb w.start w.end ≡ none? (words_from line at)
      go (yes h) = eq-eqb _ _ h ∙ rw ((word_by_word line at w e).none h)
      go (no h) = ne_eqb _ _ h ∙ rw ((word_by_word line at w e).more h)

pub legal_some : (w : List ℕ) → legal_name w ≡ true → 0 < length w
unfolding legal_name
legal_some [] e = true_false (sym e)
legal_some (b ∷ bs) e = omega arith

pub same_long : (w t : List ℕ) → 0 < length t → same w t ≡ true → 0 < length w
same_long w t l e = rw (same→≡ w t e) l
