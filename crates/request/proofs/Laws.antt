-- Laws of document 01's readings that the proofs of the code cite, argument by argument.
use Prim.Native.Nat.{ℕ, suc}
use mathlib.Core.Path.{◌≡◌, refl, sym, ◌∙◌}
use mathlib.Core.List.{List, [], ◌∷◌}
use mathlib.Core.Bool.{true, false, cond}
use mathlib.Core.Logic.{⊎_elim}
use native.Mathlib.Omega.{arith}
use lib.Dec.{eqb}
use lib.ListN.{length}
use borrow.Author.Tests.{ne_eqb}
use Rattle.model.specs.declared.Kind.{Kind}
use Rattle.model.specs.Ascii.{ascii}
use Rattle.model.specs.Lists.{all, none?, same}
use Rattle.model.specs.Request.{Reading, malformed, asks_change, asks_list, set_level, resultants, resultant_of, resultant_in, definition, names?, one_name, two_names, same_words, fixed_words, level_words, resultant_words}
use Rattle.model.specs.Words.{legal_name}
use Rattle.model.proofs.Basics.{and_false, either, same_refl, same→≡, true_false}

-- ---- names

module _ (make : List ℕ → Reading) (a : List ℕ) where
  pub one_none : one_name make [] ≡ malformed
  unfolding one_name names?
  one_none = refl

  pub one_bad : legal_name a ≡ false → (ws : List (List ℕ)) → one_name make (a ∷ ws) ≡ malformed
  unfolding one_name names? all
  one_bad e ws = rw (e, and_false (eqb (length (a ∷ ws)) 1))

  pub one_more : (ws : List (List ℕ)) → none? ws ≡ false → one_name make (a ∷ ws) ≡ malformed
  unfolding one_name names? none?
  one_more [] e = true_false e
  one_more (b ∷ ws) e = rw (ne_eqb (suc (suc (length ws))) 1 (λ h. omega arith))

  pub one_good : (ws : List (List ℕ)) → legal_name a ≡ true → none? ws ≡ true → one_name make (a ∷ ws) ≡ make a
  unfolding one_name names? all none?
  one_good [] e f = rw e
  one_good (b ∷ ws) e f = true_false (sym f)

module _ (make : List ℕ → List ℕ → Reading) (a : List ℕ) where
  pub two_none : two_names make [] ≡ malformed
  unfolding two_names names?
  two_none = refl

  pub two_bad : legal_name a ≡ false → (ws : List (List ℕ)) → two_names make (a ∷ ws) ≡ malformed
  unfolding two_names names? all
  two_bad e ws = rw (e, and_false (eqb (length (a ∷ ws)) 2))

  pub two_short : two_names make (a ∷ []) ≡ malformed
  unfolding two_names names?
  two_short = refl

  module _ (b : List ℕ) where
    pub two_worse : legal_name a ≡ true → legal_name b ≡ false → (ws : List (List ℕ)) → two_names make (a ∷ b ∷ ws) ≡ malformed
    unfolding two_names names? all
    two_worse d e ws = rw (d, e, and_false (eqb (length (a ∷ b ∷ ws)) 2))

    pub two_more : (ws : List (List ℕ)) → none? ws ≡ false → two_names make (a ∷ b ∷ ws) ≡ malformed
    unfolding two_names names? none?
    two_more [] e = true_false e
    two_more (c ∷ ws) e = rw (ne_eqb (suc (suc (suc (length ws)))) 2 (λ h. omega arith))

    pub two_good : (ws : List (List ℕ)) → legal_name a ≡ true → legal_name b ≡ true → none? ws ≡ true → two_names make (a ∷ b ∷ ws) ≡ make a b
    unfolding two_names names? all none?
    two_good [] d e f = rw (d, e)
    two_good (c ∷ ws) d e f = true_false (sym f)

-- ---- definitions

pub define_none : (k : Kind) → definition k [] ≡ malformed
unfolding definition
define_none k = refl

-- ---- fixed words

pub same_turned : (l k : List ℕ) → same l k ≡ false → same k l ≡ false
same_turned l k e = ⊎_elim (λ h. true_false (sym (same_refl l) ∙ rw (same→≡ k l h) at e)) (λ h. h) (either (same k l))

pub no_words : (ws : List (List ℕ)) → same_words [] ws ≡ none? ws
unfolding same_words none?
no_words [] = refl
no_words (w ∷ ws) = refl

module _ (t : List ℕ) (ts : List (List ℕ)) (w : List ℕ) where
  pub words_hit : same w t ≡ true → (ws : List (List ℕ)) → same_words (t ∷ ts) (w ∷ ws) ≡ same_words ts ws
  unfolding same_words
  words_hit e ws = rw (same→≡ w t e, same_refl t)

  pub words_miss : same w t ≡ false → (ws : List (List ℕ)) → same_words (t ∷ ts) (w ∷ ws) ≡ false
  unfolding same_words
  words_miss e ws = rw (same_turned w t e)

-- ---- the level

pub level_none : level_words [] ≡ malformed
unfolding level_words fixed_words same_words
level_none = refl

zero_one : same (ascii "0") (ascii "1") ≡ false
unfolding same
zero_one = refl

module _ (w : List ℕ) where
  pub level_zero : same w (ascii "0") ≡ true → (ws : List (List ℕ)) → level_words (w ∷ ws) ≡ cond (none? ws) (asks_change (set_level 0)) malformed
  unfolding level_words fixed_words
  level_zero e ws =
      rw (
        same→≡ w (ascii "0") e,
        words_hit (ascii "0") [] (ascii "0") (same_refl (ascii "0")) ws,
        no_words ws,
        words_miss (ascii "1") (ascii "ADVANCED" ∷ []) (ascii "0") zero_one ws,
      )

  module _ (z : same w (ascii "0") ≡ false) where
    pub level_one : same w (ascii "1") ≡ true → (ws : List (List ℕ)) →
        level_words (w ∷ ws) ≡ cond (same_words (ascii "ADVANCED" ∷ []) ws) (asks_change (set_level 1)) malformed
    unfolding level_words fixed_words
    level_one e ws = rw (words_miss (ascii "0") [] w z ws, words_hit (ascii "1") (ascii "ADVANCED" ∷ []) w e ws)

    pub level_other : same w (ascii "1") ≡ false → (ws : List (List ℕ)) → level_words (w ∷ ws) ≡ malformed
    unfolding level_words fixed_words
    level_other e ws = rw (words_miss (ascii "0") [] w z ws, words_miss (ascii "1") (ascii "ADVANCED" ∷ []) w e ws)

-- ---- KLT?

pub every_resultant : resultant_words [] ≡ asks_list resultants
unfolding resultant_words none?
every_resultant = refl

-- by whether there are words behind the first
module _ (a : List ℕ) where
  pub one_resultant : (ws : List (List ℕ)) → none? ws ≡ true → resultant_words (a ∷ ws) ≡ one_name (λ a. asks_list (resultant_of a)) (a ∷ ws)
  unfolding resultant_words none?
  one_resultant [] e = refl
  one_resultant (b ∷ ws) e = true_false (sym e)

  pub two_resultants : (ws : List (List ℕ)) → none? ws ≡ false → resultant_words (a ∷ ws) ≡ two_names (λ a b. asks_list (resultant_in a b)) (a ∷ ws)
  unfolding resultant_words none?
  two_resultants [] e = true_false e
  two_resultants (b ∷ ws) e = rw (ne_eqb (suc (suc (length ws))) 1 (λ h. omega arith))
