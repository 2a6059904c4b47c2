-- Block by block or whole, the same is printed: `whole_input`.
use Prim.Native.Nat.{ℕ, suc}
use mathlib.Core.Path.{◌≡◌, refl, sym, ap, ◌∙◌}
use mathlib.Core.List.{List, [], ◌∷◌, ◌++◌, append_assoc, append-nil}
use mathlib.Core.Bool.{true, false}
use mathlib.Core.Logic.{⊎_elim}
use lib.Dec.{eqb}
use Rattle.model.proofs.Basics.{either}
use Rattle.model.specs.Lists.{pieces, ahead, none?}
use Rattle.model.specs.Trace.{input_lines}
use Rattle.lines.specs.Feed.{Machine, Answer, kept, fed, ended, holding}
use Rattle.lines.specs.Whole.{answers, Clips, WholeInput}
use Rattle.lines.proofs.Feeding.{take_grows, fed_ends, fed_grows}

-- ---- the pieces of the input, the first of them behind what is held

glued : List ℕ → List (List ℕ) → List (List ℕ)
glued p [] = p ∷ []
glued p (w ∷ ws) = (p ++ w) ∷ ws

pieces_ends : (b : ℕ) (bs : List ℕ) → eqb b 10 ≡ true → pieces 10 (b ∷ bs) ≡ [] ∷ pieces 10 bs
unfolding pieces
pieces_ends b bs h = rw h

pieces_grows : (b : ℕ) (bs : List ℕ) → eqb b 10 ≡ false → pieces 10 (b ∷ bs) ≡ ahead b (pieces 10 bs)
unfolding pieces
pieces_grows b bs h = rw h

-- there is always a first piece
data Pieces : List (List ℕ) → Type 0 where
  one : (w : List ℕ) (ws : List (List ℕ)) → Pieces (w ∷ ws)

ahead_one : (b : ℕ) {ws : List (List ℕ)} → Pieces ws → Pieces (ahead b ws)
unfolding ahead
ahead_one b (one w ws) = one (b ∷ w) ws

pieced : (bs : List ℕ) → Pieces (pieces 10 bs)
unfolding pieces
pieced [] = one [] []
pieced (b ∷ bs) =
    ⊎_elim
    (λ h. rw (pieces_ends b bs h) (one [] (pieces 10 bs)))
    (λ h. rw (pieces_grows b bs h) (ahead_one b (pieced bs)))
    (either (eqb b 10))

glued_ahead : (p : List ℕ) (b : ℕ) {ws : List (List ℕ)} → Pieces ws → glued p (ahead b ws) ≡ glued (p ++ (b ∷ [])) ws
unfolding glued ahead
glued_ahead p b (one w ws) = ap (λ (t : List ℕ). t ∷ ws) (sym (append_assoc p (b ∷ []) w))

glued_ends : (p : List ℕ) {ws : List (List ℕ)} → Pieces ws → input_lines (glued p ([] ∷ ws)) ≡ p ∷ input_lines (glued [] ws)
unfolding glued input_lines
glued_ends p (one w ws) = ap (λ (t : List ℕ). t ∷ input_lines (w ∷ ws)) (append-nil p)

glued_nothing : {ws : List (List ℕ)} → Pieces ws → glued [] ws ≡ ws
unfolding glued
glued_nothing (one w ws) = refl

-- ---- the answers

module _ {S X : Type 0} (m : Machine S X) (clips : Clips m) where
  -- what is printed from a state on, where the bytes p of a line came already
  abbrev printed : List ℕ → S → List ℕ → List X
  printed bs s p = (fed m s (kept m p) bs).output ++ ended m (fed m s (kept m p) bs).held

  -- the end of the input: what is held, if anything, is a line
  whole_end : (s : S) (p : List ℕ) → answers m.answer s (input_lines (glued p (pieces 10 []))) ≡ ended m (holding s (kept m p))
  unfolding pieces glued input_lines answers none?
  whole_end s [] = refl
  whole_end s (c ∷ cs) =
      append-nil (m.answer s (c ∷ (cs ++ []))).text ∙ ap (λ (l : List ℕ). (m.answer s (c ∷ l)).text) (append-nil cs) ∙ ap (λ (a : Answer S X). a.text) (sym (clips s (c ∷ cs)))

  module _ (s : S) (p : List ℕ) (b : ℕ) (bs : List ℕ) where
    -- a line ends: it is answered, and the next begins with nothing held
    whole_ends : eqb b 10 ≡ true → answers m.answer (m.answer s p).state (input_lines (glued [] (pieces 10 bs))) ≡ printed bs (m.answer s p).state [] →
        answers m.answer s (input_lines (glued p (pieces 10 (b ∷ bs)))) ≡ printed (b ∷ bs) s p
    unfolding answers
    whole_ends h r =
        rw (pieces_ends b bs h, glued_ends p (pieced bs), fed_ends m s (kept m p) b bs h, clips s p, append_assoc)
        (ap (λ (t : List X). (m.answer s p).text ++ t) r)

    -- a byte is held
    whole_grows : eqb b 10 ≡ false → answers m.answer s (input_lines (glued (p ++ (b ∷ [])) (pieces 10 bs))) ≡ printed bs s (p ++ (b ∷ [])) →
        answers m.answer s (input_lines (glued p (pieces 10 (b ∷ bs)))) ≡ printed (b ∷ bs) s p
    whole_grows h r = rw (pieces_grows b bs h, glued_ahead p b (pieced bs), fed_grows m s (kept m p) b bs h, take_grows (suc m.limit) p b) r

  whole_from : (bs : List ℕ) (s : S) (p : List ℕ) → answers m.answer s (input_lines (glued p (pieces 10 bs))) ≡ printed bs s p
  unfolding fed
  whole_from [] s p = whole_end s p
  whole_from (b ∷ bs) s p =
      ⊎_elim
      (λ h. whole_ends s p b bs h (whole_from bs (m.answer s p).state []))
      (λ h. whole_grows s p b bs h (whole_from bs s (p ++ (b ∷ []))))
      (either (eqb b 10))

  pub whole_input : WholeInput m
  whole_input s input = ap (λ (ws : List (List ℕ)). answers m.answer s (input_lines ws)) (sym (glued_nothing (pieced input))) ∙ whole_from input s []
