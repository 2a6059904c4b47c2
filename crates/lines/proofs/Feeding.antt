-- Laws of `fed`: nothing, one byte, bytes behind bytes, a line that ends in the block, and bytes without an LF.
use Prim.Native.Nat.{ℕ, zero, suc, ◌≤◌, ◌<◌}
use mathlib.Core.Path.{◌≡◌, refl, sym, ap, ◌∙◌}
use mathlib.Core.List.{List, [], ◌∷◌, ◌++◌, append_assoc, append-nil}
use mathlib.Core.Bool.{true, false}
use mathlib.Core.Logic.{⊎_elim}
use native.Mathlib.Omega.{arith}
use lib.Dec.{eqb}
use lib.ListN.{length, take}
use Rattle.model.proofs.Basics.{either}
use Rattle.lines.specs.Before.{before}
use Rattle.lines.specs.Feed.{Machine, Fed, kept, fed, holding, printing, grown}
use Rattle.lines.proofs.Laws.{before_now, before_more}

pub take_grows : (n : ℕ) (p : List ℕ) (b : ℕ) → take n (take n p ++ (b ∷ [])) ≡ take n (p ++ (b ∷ []))
take_grows zero p b = refl
take_grows (suc n) [] b = refl
take_grows (suc n) (x ∷ p) b = ap (λ (t : List ℕ). x ∷ t) (take_grows n p b)

module _ {S X : Type 0} (m : Machine S X) where
  pub fed_nothing : (s : S) (l : List ℕ) → fed m s l [] ≡ record { held = holding s l; output = [] }
  unfolding fed
  fed_nothing s l = refl

  pub fed_ends : (s : S) (l : List ℕ) (b : ℕ) (bs : List ℕ) → eqb b 10 ≡ true → fed m s l (b ∷ bs) ≡ printing (m.answer s l).text (fed m (m.answer s l).state [] bs)
  unfolding fed
  fed_ends s l b bs h = rw (h, fed)

  pub fed_grows : (s : S) (l : List ℕ) (b : ℕ) (bs : List ℕ) → eqb b 10 ≡ false → fed m s l (b ∷ bs) ≡ fed m s (grown m l b) bs
  unfolding fed
  fed_grows s l b bs h = rw (h, fed)

  -- a block may be cut anywhere
  pub fed_append : (xs : List ℕ) (s : S) (l ys : List ℕ) →
      fed m s l (xs ++ ys) ≡ printing (fed m s l xs).output (fed m (fed m s l xs).held.state (fed m s l xs).held.line ys)
  unfolding fed
  fed_append [] s l ys = refl
  fed_append (b ∷ bs) s l ys =
      ⊎_elim
      (λ h. rw (fed_ends s l b (bs ++ ys) h, fed_ends s l b bs h, fed_append bs (m.answer s l).state [] ys, append_assoc) refl)
      (λ h. rw (fed_grows s l b (bs ++ ys) h, fed_grows s l b bs h) (fed_append bs s (grown m l b) ys))
      (either (eqb b 10))

  -- what is held where a line begins anew
  abbrev pub begun : S → List X → Fed S X
  begun s t = record { held = holding s []; output = t }

  -- the line l is answered
  abbrev pub answered : S → List ℕ → Fed S X
  answered s l = begun (m.answer s (kept m l)).state (m.answer s (kept m l)).text

  -- a line that ends: what was held and its own bytes are answered, and nothing is held
  pub fed_ended : (bs : List ℕ) (s : S) (l : List ℕ) → before bs < length bs →
      fed m s (kept m l) (take (suc (before bs)) bs) ≡ answered s (l ++ take (before bs) bs)
  fed_ended [] s l h = absurd (omega arith)
  fed_ended (b ∷ bs) s l h =
      ⊎_elim
      (λ e. rw (before_now b bs e) (ended_now e))
      (λ e. let n = before_more b bs e in rw n (ended_later e (fed_ended bs s (l ++ (b ∷ [])) (omega arith))))
      (either (eqb b 10))
    where
      ended_now : eqb b 10 ≡ true → fed m s (kept m l) (b ∷ []) ≡ answered s (l ++ [])
      ended_now e =
          rw (fed_ends s (kept m l) b [] e, fed_nothing (m.answer s (kept m l)).state [], append-nil (m.answer s (kept m l)).text, append-nil l) refl

      ended_later : eqb b 10 ≡ false → fed m s (kept m (l ++ (b ∷ []))) (take (suc (before bs)) bs) ≡ answered s ((l ++ (b ∷ [])) ++ take (before bs) bs) →
          fed m s (kept m l) (b ∷ take (suc (before bs)) bs) ≡ answered s (l ++ (b ∷ take (before bs) bs))
      ended_later e r = rw (fed_grows s (kept m l) b (take (suc (before bs)) bs) e, take_grows (suc m.limit) l b) (r ∙ rw append_assoc refl)

  -- bytes without an LF are held
  pub fed_held : (bs : List ℕ) (s : S) (l : List ℕ) → length bs ≤ before bs →
      fed m s (kept m l) bs ≡ record { held = holding s (kept m (l ++ bs)); output = [] }
  fed_held [] s l h = fed_nothing s (kept m l) ∙ rw (append-nil l) refl
  fed_held (b ∷ bs) s l h =
      ⊎_elim
      (λ e. let n = before_now b bs e in absurd (omega arith))
      (λ e. let n = before_more b bs e in
      rw (fed_grows s (kept m l) b bs e, take_grows (suc m.limit) l b) (fed_held bs s (l ++ (b ∷ [])) (omega arith) ∙ rw append_assoc refl))
      (either (eqb b 10))

-- what is held does not hang on what is put out
module _ {S X Y : Type 0} (m : Machine S X) (n : Machine S Y) (limits : m.limit ≡ n.limit) (states : (s : S) (l : List ℕ) → (m.answer s l).state ≡ (n.answer s l).state) where
  pub held_alike : (bs : List ℕ) (s : S) (l : List ℕ) → (fed m s l bs).held ≡ (fed n s l bs).held
  held_alike [] s l = rw (fed_nothing m s l, fed_nothing n s l) refl
  held_alike (b ∷ bs) s l =
      ⊎_elim
      (λ h. rw (fed_ends m s l b bs h, fed_ends n s l b bs h, states s l) (held_alike bs (n.answer s l).state []))
      (λ h. ap (λ (f : Fed S X). f.held) (fed_grows m s l b bs h) ∙ ap (λ (k : ℕ). (fed m s (take (suc k) (l ++ (b ∷ []))) bs).held) limits
      ∙ held_alike bs s (grown n l b) ∙ ap (λ (f : Fed S Y). f.held) (sym (fed_grows n s l b bs h)))
      (either (eqb b 10))
