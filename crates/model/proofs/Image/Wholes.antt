-- Laws of whole numbers in groups of seven bits (specs/Image.antt): how a number goes on after its first group, and its length.
use Prim.Native.Nat.{ℕ, zero, suc, ◌+◌, ◌/◌, ◌%◌, ◌^◌, ◌≤◌, ◌<◌}
use mathlib.Core.Path.{◌≡◌, refl, sym, ap, ◌∙◌}
use mathlib.Core.List.{List, [], ◌∷◌}
use mathlib.Core.Logic.{⊎_elim}
use native.Mathlib.Nat.{div-add-mod, pow-suc}
use native.Mathlib.Omega.{arith}
use lib.Dec.{ltb}
use lib.ListN.{length}
use borrow.Author.Tests.{lt-ltb, le-ltb, ltb-true, ltb-false}
use Rattle.model.specs.Image.{sevens, whole}
use Rattle.model.proofs.Basics.{either}

-- ---- the first group

sevens_last : (k n : ℕ) → n < 128 → sevens k n ≡ n ∷ []
unfolding sevens
sevens_last zero n h = refl
sevens_last (suc k) n h = rw (lt-ltb n 128 h, sevens)

sevens_more : (k n : ℕ) → 128 ≤ n → sevens (suc k) n ≡ (n % 128 + 128) ∷ sevens k (n / 128)
unfolding sevens
sevens_more k n h = rw (le-ltb n 128 h, sevens)

-- what is left above the first group
pub less : (n : ℕ) → 128 ≤ n → n / 128 < n
less n h = omega (arith, div-add-mod n 128)

-- groups that are not used do not matter
sevens_room : (k j n : ℕ) → n ≤ k → n ≤ j → sevens k n ≡ sevens j n
sevens_room zero j n h g = sevens_last zero n (omega arith) ∙ sym (sevens_last j n (omega arith))
sevens_room (suc k) zero n h g = sevens_last (suc k) n (omega arith) ∙ sym (sevens_last zero n (omega arith))
sevens_room (suc k) (suc j) n h g =
    ⊎_elim (λ e. let s = ltb-true n 128 e in sevens_last (suc k) n s ∙ sym (sevens_last (suc j) n s))
    (λ e.
    let s = ltb-false n 128 e in
    let l = less n s in
    sevens_more k n s ∙ rw (sevens_room k j (n / 128) (omega arith) (omega arith)) (sym (sevens_more j n s)))
    (either (ltb n 128))

pub whole_last : (n : ℕ) → n < 128 → whole n ≡ n ∷ []
whole_last n h = sevens_last n n h

pub whole_more : (n : ℕ) → 128 ≤ n → whole n ≡ (n % 128 + 128) ∷ whole (n / 128)
whole_more zero h = absurd (omega arith)
whole_more (suc k) h =
    let l = less (suc k) h in
    sevens_more k (suc k) h ∙ ap (λ (bs : List ℕ). (suc k % 128 + 128) ∷ bs) (sevens_room k (suc k / 128) (suc k / 128) (omega arith) (omega arith))

-- ---- group by group

module _ (P : ℕ → Type 0) (last : (n : ℕ) → n < 128 → P n) (more : (n : ℕ) → 128 ≤ n → P (n / 128) → P n) where
  below : (k n : ℕ) → n ≤ k → P n
  below zero n h = last n (omega arith)
  below (suc k) n h =
      ⊎_elim (λ e. last n (ltb-true n 128 e))
      (λ e. let s = ltb-false n 128 e in more n s (below k (n / 128) (omega (arith, less n s))))
      (either (ltb n 128))

  -- what holds of a number of one group, and of a number if it holds of what is left above its first group, holds of all
  pub by_groups : (n : ℕ) → P n
  by_groups n = below n n (omega arith)

-- ---- its length

-- a number below 128 to the power j has at most j groups
pub length_whole : (j n : ℕ) → n < 128 ^ suc j → length (whole n) ≤ suc j
length_whole j n h =
    by_groups (λ (n : ℕ). (j : ℕ) → n < 128 ^ suc j → length (whole n) ≤ suc j)
    (λ n s j h. rw (whole_last n s) (omega arith))
    more
    n
    j
    h
  where
    more : (n : ℕ) → 128 ≤ n → ((j : ℕ) → n / 128 < 128 ^ suc j → length (whole (n / 128)) ≤ suc j) → (j : ℕ) → n < 128 ^ suc j → length (whole n) ≤ suc j
    more n s f zero h = absurd (omega (arith, h))
    more n s f (suc j) h =
        rw (whole_more n s) (omega (arith, f j (omega (arith, pow-suc 128 (suc j), div-add-mod n 128))))
