-- Document 02 §14: the sheet holds every triple. Its lines are computed; what they show follows from the laws of shown triples.
use mathlib.Core.Path.{◌≡◌, refl, sym, subst, ◌∙◌}
use mathlib.Core.Bool.{true, beq}
use mathlib.Core.List.{List, [], ◌∷◌}
use Prim.Native.Nat.{ℕ, ◌≤◌, ◌<◌}
use native.Mathlib.Omega.{arith}
use lib.Dec.{T, ltb}
use lib.ListN.{get_or}
use Rattle.model.specs.Types.{Rot, Turns}
use Rattle.model.specs.Lists.{same}
use Rattle.model.specs.Pose.{rot_of, triple, place, shown}
use Rattle.model.specs.WellFormed.{turns_fine}
use Rattle.model.specs.Sheet.{angles, sheet_lines, shown_in, places_of, earlier, OnSheet, Sheet}
use Rattle.model.proofs.Basics.{same→≡}
use Rattle.model.proofs.Open.{definitions_open}
use Rattle.model.proofs.Upto.{upto, at, passed, alike}
use Rattle.model.proofs.Memories.Fine.{turns_of_lem}
use Rattle.model.proofs.Poses.Naming.{triple_place}
use Rattle.model.proofs.Poses.Showing.{named_turns, shown_names, shown_first, shown_fine}

-- ---- the triples of 0 to 3 quarter turns are the 64 by their places

module _ (t : Turns) (fine : turns_fine t ≡ true) where
  place_below : place t < 64
  place_below = let q = turns_of_lem t fine in omega (arith, q.u, q.v, q.w)

  placed_back : triple (place t) ≡ t
  placed_back = let q = turns_of_lem t fine in triple_place t (omega (arith, q.v)) (omega (arith, q.w))

-- two lists about a triple are one, if they are for each of the 64
lists_alike : (f g : Turns → List ℕ) → T (upto 64 (λ k. same (f (triple k)) (g (triple k)))) → (t : Turns) → turns_fine t ≡ true → f t ≡ g t
lists_alike f g all t fine =
    let e = same→≡ _ _ (passed _ (at 64 (λ k. same (f (triple k)) (g (triple k))) all (place t) (place_below t fine))) in
    subst (λ (s : Turns). f s ≡ g s) (placed_back t fine) e

one_line : (t : Turns) → turns_fine t ≡ true → places_of t ≡ place t ∷ []
unfolding definitions_open
one_line = lists_alike places_of (λ t. place t ∷ []) tt

shows : (t : Turns) → turns_fine t ≡ true → shown_in (get_or sheet_lines (place t) []) ≡ angles (shown (rot_of t))
unfolding definitions_open
shows = lists_alike (λ t. shown_in (get_or sheet_lines (place t) [])) (λ t. angles (shown (rot_of t))) tt

-- ---- places go by dictionary order

-- as it is for each two of the 64
ordered : T (upto 64 (λ j. upto 64 (λ k. beq (earlier (triple j) (triple k)) (ltb j k))))
ordered = tt

by_order : (s t : Turns) → turns_fine s ≡ true → turns_fine t ≡ true → earlier s t ≡ ltb (place s) (place t)
by_order s t f g =
    let row = at 64 (λ j. upto 64 (λ k. beq (earlier (triple j) (triple k)) (ltb j k))) ordered (place s) (place_below s f) in
    let e = at 64 (λ k. beq (earlier (triple (place s)) (triple k)) (ltb (place s) k)) row (place t) (place_below t g) in
    (λ i. earlier (sym (placed_back s f) i) (sym (placed_back t g) i)) ∙ alike _ _ e

-- ---- the claims

on_sheet : (t : Turns) → turns_fine t ≡ true → OnSheet t
on_sheet t fine =
    record {
      one_line = one_line t fine;
      order = λ s f. by_order s t f fine;
      shows = shows t fine;
      quarters = shown_fine (rot_of t);
      names = shown_names (rot_of t) (named_turns t);
      first = λ s e. subst (λ (r : Rot). place (shown r) ≤ place s) e (shown_first s);
    }

pub all_on_the_sheet : Sheet
unfolding definitions_open
all_on_the_sheet = record { each = on_sheet; ended = refl; lines = refl; shown_triples = refl; degrees = refl }
