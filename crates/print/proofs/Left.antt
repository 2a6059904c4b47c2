-- What is left to write of a text, while its parts are written straight after one another.
use Prim.Native.Nat.{ℕ, ◌+◌, ◌≤◌, ◌<◌}
use mathlib.Core.Path.{◌≡◌, refl, sym, ◌∙◌}
use mathlib.Core.List.{List, [], ◌∷◌, ◌++◌, map}
use native.Mathlib.Numerals.{add-one}
use native.Mathlib.Omega.{arith}
use lib.ListN.{length, drop, get_or, set, length-set, length-append, drop_of_length-le}
use lib.Seq.{drop-cons}
use Rattle.model.specs.Lists.{joined}
use Rattle.print.specs.Over.{over, Wrote}
use Rattle.print.proofs.Laws.{length_over, over_append}

-- of the text t, to be written at a place of b, the rest is left to write at i of a, which has room for it
pub record Left (t : List ℕ) (at : ℕ) (b rest : List ℕ) (i : ℕ) (a : List ℕ) : Type 0 where
  pub long : length a ≡ length b
  pub place : i + length rest ≡ at + length t
  pub bytes : over b at t ≡ over a i rest
  pub room : i + length rest ≤ length a

-- at first all of it, given as its parts
pub left_all : {t parts b : List ℕ} {at : ℕ} → t ≡ parts → at + length t ≤ length b → Left t at b parts at b
left_all e h = rw e (record { long = refl; place = refl; bytes = refl; room = rw e at h })

module _ {t b a : List ℕ} {at i : ℕ} where
  pub left_done : Left t at b [] i a → Wrote t b at a i
  unfolding over
  left_done l = record { place = omega (arith, l.place); bytes = sym l.bytes }

  pub left_byte : {x : ℕ} {rest : List ℕ} → Left t at b (x ∷ rest) i a → Left t at b rest (i + 1) (set a i x)
  unfolding over
  left_byte {x} l = record {
    long = length-set a i x ∙ l.long;
    place = omega (arith, l.place);
    bytes = l.bytes;
    room = omega (arith, length-set a i x, l.room);
  }

  pub left_wrote : {x rest c : List ℕ} {j : ℕ} → Left t at b (x ++ rest) i a → Wrote x a i c j → Left t at b rest j c
  left_wrote {x} {rest} {c} {j} l p =
      let n = length-append x rest in
      let k : length c ≡ length a = rw p.bytes (length_over x a i) in
      record {
        long = k ∙ l.long;
        place = omega (arith, l.place, p.place);
        bytes = l.bytes ∙ rw (p.bytes, p.place) (over_append x rest a i);
        room = omega (arith, l.room, p.place);
      }

  -- so there is room for the next part
  pub left_fits : (x rest : List ℕ) → Left t at b (x ++ rest) i a → i + length x ≤ length a
  left_fits x rest l = omega (arith, l.room, length-append x rest)

-- ---- the texts of the elements of a list, one after the other

module _ {A : Type 0} (f : A → List ℕ) (l : List A) (i : ℕ) where
  pub texts_turn : (d : A) → i < length l → joined (map f (drop i l)) ≡ f (get_or l i d) ++ joined (map f (drop (i + 1) l))
  unfolding joined
  texts_turn d h = rw (drop-cons l i d h, add-one)

  pub texts_end : length l ≤ i → joined (map f (drop i l)) ≡ []
  unfolding joined
  texts_end h = rw (drop_of_length-le l h)
