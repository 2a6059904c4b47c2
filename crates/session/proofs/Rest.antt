-- The rest of a buffer: lent from a place on, and put back.
use Prim.Native.Nat.{ℕ, ◌+◌, ◌-◌, ◌≤◌}
use mathlib.Core.Path.{◌≡◌, refl, sym, ap, ◌∙◌}
use mathlib.Core.List.{List, [], ◌++◌, append_assoc, append-nil}
use native.Mathlib.Omega.{arith}
use lib.ListN.{length, take, drop, length-append, length-drop, drop_of_length-le}
use lib.Seq.{drop-drop, drop_at, take_all, take-append_seam, drop-append_seam, length-take-le}
use borrow.Rule.Slice.PartMut.{put_mid, take_put}
use Rattle.model.specs.Machine.{written}
use Rattle.reply.specs.Lines.{Replied}
use Rattle.lines.proofs.Places.{rest}

-- the buffer once y is put back at place w, from which on it was lent
abbrev pub with_rest : List ℕ → ℕ → List ℕ → List ℕ
with_rest out w y = put_mid w (length out - w) out y

rest_is : (out : List ℕ) (w : ℕ) → rest out w ≡ drop w out
rest_is out w = take_all (length out - w) (drop w out) (rw (length-drop w out) (omega arith))

-- nothing stands behind it
put_rest : (out y : List ℕ) (w : ℕ) → with_rest out w y ≡ take w out ++ y
put_rest out y w =
    let none : drop (length out - w) (drop w out) ≡ [] = drop_of_length-le (drop w out) {i = length out - w} (rw (length-drop w out) (omega arith)) in
    rw (none, append-nil y)

-- ---- lent twice

module _ (out c : List ℕ) (w : ℕ) (inside : w ≤ length out) where
  -- the second time it holds what was put back the first time
  pub rest_again : rest (with_rest out w c) w ≡ c
  rest_again =
      rest_is (with_rest out w c) w ∙ ap (drop w) (put_rest out c w) ∙ drop_at (take w out) c w (length-take-le w out inside)

  -- and nothing is left of that
  pub put_again : (y : List ℕ) → with_rest (with_rest out w c) w y ≡ with_rest out w y
  put_again y =
      put_rest (with_rest out w c) y w ∙ ap (λ (t : List ℕ). t ++ y) (take_put w (length out - w) out c inside) ∙ sym (put_rest out y w)

-- ---- one text behind another

-- the text of a reply stands first in the buffer
pub replied_first : {text before after : List ℕ} {n : ℕ} → Replied text before after n → take n after ≡ text
replied_first {text} {before} p = rw (p.bytes, p.count_is) (take-append_seam text (drop (length text) before))

pub replied_more : (T t out₀ out y : List ℕ) (w n : ℕ) → Replied T out₀ out w → w ≤ length out₀ → length out ≡ length out₀ →
    Replied t (rest out w) y n → Replied (T ++ t) out₀ (with_rest out w y) (w + n)
replied_more T t out₀ out y w n a h long b =
    let back : drop w out ≡ drop (length T) out₀ = rw (a.bytes, a.count_is) (drop-append_seam T (drop (length T) out₀)) in
    let ey : y ≡ t ++ drop (length t) (drop (length T) out₀) = b.bytes ∙ rw (rest_is out w, back) refl in
    record {
      count_is = rw (length-append T t) (omega (arith, a.count_is, b.count_is));
      bytes = rw (put_rest out y w, replied_first a, ey, length-append T t, append_assoc, drop-drop (length t) (length T) out₀) refl;
    }

pub written_long : (t b : List ℕ) → length t ≤ length b → length (written t b) ≡ length b
written_long t b h = omega (arith, length-append t (drop (length t) b), length-drop (length t) b)
