-- The commands of document 01, one after the other and by the length of their words.
use Prim.Native.Nat.{ℕ}
use mathlib.Core.Path.{◌≡◌, refl, sym, ap, ◌∙◌}
use mathlib.Core.List.{List, [], ◌∷◌, ◌++◌, append_assoc}
use native.Mathlib.Omega.{arith}
use mathlib.Core.Bool.{Bool, true, false, not}
use mathlib.Core.Logic.{⊎_elim}
use lib.Dec.{eqb}
use lib.ListN.{length}
use borrow.Author.Tests.{eqb-false, ne_eqb, not-true}
use Rattle.model.specs.Lists.{all, same}
use Rattle.model.specs.Request.{Reading, unknown, Command, definitions, edits, settings, queries, commands, read_by}
use Rattle.model.proofs.Basics.{and_split, either}
use Rattle.text.proofs.Choice.{Left, chosen, next, meant, found}
use Rattle.text.proofs.Lists.{same_length}
use Rattle.request.specs.Forms.{three_letters}

-- ---- one after the other

module _ (c : Command) (cs : List Command) (w : List ℕ) (args : List (List ℕ)) where
  hit : same w c.first ≡ true → read_by (c ∷ cs) w args ≡ c.read args
  unfolding read_by
  hit e = rw (e, read_by)

  miss : same w c.first ≡ false → read_by (c ∷ cs) w args ≡ read_by cs w args
  unfolding read_by
  miss e = rw (e, read_by)

-- what a word that is no command asks
abbrev pub no_command : List (List ℕ) → Reading
no_command args = unknown

-- the commands that a word may still be
abbrev pub Tried : List Command → Type 0
Tried cs = Left (λ c. c.first) (λ c. c.read) no_command cs

read_chosen : (cs : List Command) (w : List ℕ) (args : List (List ℕ)) → chosen (λ c. c.first) (λ c. c.read) no_command cs w args ≡ read_by cs w args
unfolding chosen read_by
read_chosen [] w args = refl
read_chosen (c ∷ cs) w args =
    ⊎_elim (λ (e : same w c.first ≡ true). rw e (sym (hit c cs w args e)))
    (λ (e : same w c.first ≡ false). rw e (read_chosen cs w args ∙ sym (miss c cs w args e)))
    (either (same w c.first))

module _ {cs : List Command} (t : Tried cs) where
  -- the word is the next one
  pub is_command : {r : Bool} → r ≡ same t.word (next t) → r ≡ true → (args : List (List ℕ)) → meant t args ≡ read_by cs t.word args
  is_command e h args = ap (λ (f : List (List ℕ) → Reading). f args) (found t e h) ∙ read_chosen cs t.word args

  -- it is one of those that are left, or none
  pub is_left : (args : List (List ℕ)) → read_by t.rest t.word args ≡ read_by cs t.word args
  is_left args = sym (read_chosen t.rest t.word args) ∙ ap (λ (f : List (List ℕ) → Reading). f args) t.alike ∙ read_chosen cs t.word args

-- ---- by the length of their words

-- words of another length
abbrev other : ℕ → Command → Bool
other n c = not (eqb n (length c.first))

module _ (w : List ℕ) (args : List (List ℕ)) where
  -- such commands are passed over
  passed : (cs ds : List Command) → all (other (length w)) cs ≡ true → read_by (cs ++ ds) w args ≡ read_by ds w args
  unfolding all
  passed [] ds e = refl
  passed (c ∷ cs) ds e =
      let s = and_split (other (length w) c) (all (other (length w)) cs) e in
      miss c (cs ++ ds) w args (same_length w c.first (eqb-false _ _ (not-true _ s.0))) ∙ passed cs ds s.1

  -- and may go from the end
  cut : (cs ds : List Command) → read_by ds w args ≡ unknown → read_by (cs ++ ds) w args ≡ read_by cs w args
  unfolding read_by
  cut [] ds e = e
  cut (c ∷ cs) ds e =
      ⊎_elim (λ h. hit c (cs ++ ds) w args h ∙ sym (hit c cs w args h))
      (λ h. miss c (cs ++ ds) w args h ∙ cut cs ds e ∙ sym (miss c cs w args h))
      (either (same w c.first))

  by_length : read_by commands w args ≡ read_by (three_letters ++ queries) w args
  unfolding commands
  by_length = simp append_assoc

  pub by_four : length w ≡ 4 → read_by commands w args ≡ read_by queries w args
  unfolding definitions edits settings all
  by_four e = by_length ∙ passed three_letters queries (rw e)

  pub by_three : length w ≡ 3 → read_by commands w args ≡ read_by three_letters w args
  unfolding queries all read_by
  by_three e = by_length ∙ cut three_letters queries (passed queries [] (rw e))

  pub by_other : (length w ≡ 4 → ⊥) → (length w ≡ 3 → ⊥) → read_by commands w args ≡ unknown
  unfolding commands definitions edits settings queries all read_by
  by_other f t = passed commands [] (rw (ne_eqb (length w) 3 t, ne_eqb (length w) 4 f))

-- no word is no command
pub by_none : (args : List (List ℕ)) → read_by commands [] args ≡ unknown
by_none args = by_other [] args (λ e. omega arith) (λ e. omega arith)
