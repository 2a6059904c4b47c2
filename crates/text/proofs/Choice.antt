-- A word compared with one text after the other: it stands for what belongs to the first text that it is.
use Prim.Native.Nat.{ℕ}
use mathlib.Core.Path.{◌≡◌, refl, sym, ◌∙◌}
use mathlib.Core.List.{List, [], ◌∷◌}
use mathlib.Core.Bool.{Bool, true, false, cond}
use Rattle.model.specs.Lists.{same}

-- what belongs to the first of a list, and the others
abbrev pub of_first : {C A : Type 0} → (C → A) → A → List C → A
of_first f a [] = a
of_first f a (c ∷ cs) = f c

abbrev pub others : {C : Type 0} → List C → List C
others [] = []
others (c ∷ cs) = cs

-- choices, each with its text and its meaning; any other word has a meaning of its own
module _ {C A : Type 0} (text : C → List ℕ) (mean : C → A) (other : A) where
  unfoldable pub chosen : List C → List ℕ → A
  chosen [] w = other
  chosen (c ∷ cs) w = cond (same w (text c)) (mean c) (chosen cs w)

  first_hit : (cs : List C) (w : List ℕ) → same w (of_first text [] cs) ≡ true → of_first mean other cs ≡ chosen cs w
  unfolding chosen
  first_hit [] w e = refl
  first_hit (c ∷ cs) w e = rw e

  pub first_miss : (cs : List C) (w : List ℕ) → same w (of_first text [] cs) ≡ false → chosen (others cs) w ≡ chosen cs w
  unfolding chosen
  first_miss [] w e = refl
  first_miss (c ∷ cs) w e = rw e

  -- a word on its way: what it may still be
  pub record Left (all : List C) : Type 0 where
    pub word : List ℕ
    pub rest : List C
    pub alike : chosen rest word ≡ chosen all word

module _ {C A : Type 0} {text : C → List ℕ} {mean : C → A} {other : A} where
  -- before the first test
  abbrev pub untried : (all : List C) (w : List ℕ) → Left text mean other all
  untried all w = record { word = w; rest = all; alike = refl }

  module _ {all : List C} (t : Left text mean other all) where
    -- the text that is tested next, and its meaning
    abbrev pub next : List ℕ
    next = of_first text [] t.rest

    abbrev pub meant : A
    meant = of_first mean other t.rest

    -- the test was answered r
    module _ {r : Bool} (e : r ≡ same t.word next) where
      abbrev pub missed : r ≡ false → Left text mean other all
      missed f = record { word = t.word; rest = others t.rest; alike = first_miss text mean other t.rest t.word (sym e ∙ f) ∙ t.alike }

      pub found : r ≡ true → meant ≡ chosen text mean other all t.word
      found h = first_hit text mean other t.rest t.word (sym e ∙ h) ∙ t.alike
