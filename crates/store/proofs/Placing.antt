-- Laws of texts placed at the front of a buffer, and of the place after the last '/'.
use Prim.Native.Nat.{ℕ, zero, suc, ◌+◌, ◌-◌, ◌≤◌, ◌<◌}
use mathlib.Core.Path.{◌≡◌, refl, sym, ap, ◌∙◌}
use mathlib.Core.List.{List, [], ◌∷◌, ◌++◌, append_assoc}
use mathlib.Core.Bool.{Bool, true, false, ◌&&◌}
use native.Mathlib.Omega.{arith}
use borrow.Author.Tests.{le-leb, lt-leb, ne_eqb}
use lib.Dec.{eqb}
use lib.ListN.{length, take, drop, get_or, length-append, length-drop}
use lib.Seq.{length-take-le, take-take, drop-append_seam}
use Rattle.std.proofs.Common.{Some, None, All, take-append-drop}
use Rattle.std.proofs.lemmas.List.{drop_more, get_or-drop}
use Rattle.std.proofs.lemmas.List.Elements.{All-head, All-tail, All-from_get_or}
use Rattle.std.specs.List.{starts_with}
use Rattle.io.specs.Counts.{IsPrefixLen}
use Rattle.io.proofs.Counting.{prefix_len_of_le}
use Rattle.model.specs.ImageClaims.{longest_image}
use Rattle.print.specs.Over.{Wrote}
use Rattle.print.proofs.Laws.{length_over, over_split, wrote_front}
use Rattle.store.specs.Place.{Placed, slash, slash_end, folder_at, is_rooted}
use Rattle.store.specs.Load.{Image}

-- ---- a text that fits, and one that does not

pub placed : {t before after : List ℕ} {r : ℕ} → length t ≤ length before → Wrote t before 0 after r → Placed t before after (Some r)
placed {t} {before} h w =
    let e = le-leb (length t) (length before) h in
    let f = wrote_front h w in
    record { count_is = rw e (ap Some f.1); bytes = rw e f.0 }

pub unplaced : (t before : List ℕ) → length before < length t → Placed t before before None
unplaced t before h = let e = lt-leb (length t) (length before) h in record { count_is = rw e; bytes = rw e }

-- what was written lies in the buffer
pub wrote_counts : {t before after : List ℕ} {at r : ℕ} → at + length t ≤ length before → Wrote t before at after r → IsPrefixLen r after
wrote_counts {t} {before} {after} {at} {r} h w =
    let e : length after ≡ length before = ap length w.bytes ∙ length_over t before at in
    prefix_len_of_le r after (omega (arith, w.place, e))

pub front_counts : {t before after : List ℕ} {r : ℕ} → length t ≤ length before → Wrote t before 0 after r → IsPrefixLen r after
front_counts h w = wrote_counts (omega arith) w

-- ---- a text behind what stands first

module _ (p t : List ℕ) (n k : ℕ) (within : n ≤ length p) (part : k ≤ n) where
  front : take k (take n p) ≡ take k p
  front = take-take k n p part

  long : length (take k (take n p) ++ t) ≡ k + length t
  long = rw (length-append, front, length-take-le k p (omega arith))

  -- from place k on, it stands behind the first k bytes
  pub placed_behind : {after : List ℕ} {r : ℕ} → k + length t ≤ length p → Wrote t p k after r → Placed (take k (take n p) ++ t) p after (Some r)
  placed_behind {after} {r} h w =
      let e = le-leb (length (take k (take n p) ++ t)) (length p) (omega (arith, long)) in
      record {
        count_is = let r_is : r ≡ length (take k (take n p) ++ t) = omega (arith, w.place, long) in rw e (ap Some r_is);
        bytes = rw (e, long) (w.bytes ∙ over_split t p k h ∙ rw (front, append_assoc));
      }

  pub unplaced_behind : length p - k < length t → Placed (take k (take n p) ++ t) p p None
  unplaced_behind h = unplaced (take k (take n p) ++ t) p (omega (arith, long))

-- ---- the last '/'

-- the byte is none
abbrev pub IsOther : ℕ → Type 0
IsOther b = b ≡ slash → ⊥

pub slash_none : (p : List ℕ) → All IsOther p → slash_end p ≡ 0
unfolding slash_end
slash_none [] none = refl
slash_none (b ∷ bs) none = rw (slash_none bs (All-tail IsOther b bs none), ne_eqb b slash (All-head IsOther b bs none))

slash_then : (xs ys : List ℕ) → All IsOther ys → slash_end (xs ++ (slash ∷ ys)) ≡ suc (length xs)
unfolding slash_end
slash_then [] ys none = rw (slash_none ys none)
slash_then (x ∷ xs) ys none = rw (slash_then xs ys none)

-- it is at this place, and at none behind it
pub slash_last : (p : List ℕ) (i : ℕ) → i < length p → get_or p i 0 ≡ slash → ((k : ℕ) → i + 1 ≤ k → k < length p → get_or p k 0 ≡ slash → ⊥) → slash_end p ≡ i + 1
slash_last p i inside here after =
    let none : All IsOther (drop (i + 1) p) = All-from_get_or IsOther (drop (i + 1) p) 0 (λ k within. rw (get_or-drop (i + 1) p k 0) (after (i + 1 + k) (omega arith) (omega (arith, length-drop (i + 1) p)))) in
    let split : p ≡ take i p ++ (slash ∷ drop (i + 1) p) = sym (take-append-drop i p) ∙ ap (λ (l : List ℕ). take i p ++ l) (drop_more p i 0 inside ∙ ap (λ (b : ℕ). b ∷ drop (i + 1) p) here) in
    ap slash_end split ∙ slash_then (take i p) (drop (i + 1) p) none ∙ omega (arith, length-take-le i p (omega arith))

-- ---- folders

-- there is a '/' behind the first byte
pub folder_deep : (p : List ℕ) (e : ℕ) → 1 < e → folder_at p e ≡ take (e - 1) p
folder_deep p zero h = absurd (omega arith)
folder_deep p (suc zero) h = absurd (omega arith)
folder_deep p (suc (suc k)) h = let e : suc k ≡ suc (suc k) - 1 = omega arith in ap (λ (n : ℕ). take n p) e

-- ---- rooted paths

pub rooted_starts : (t : List ℕ) → starts_with eqb t (slash ∷ []) ≡ is_rooted t
unfolding is_rooted
rooted_starts [] = refl
rooted_starts (b ∷ bs) = and_true (eqb slash b)
  where
    and_true : (t : Bool) → (t && true) ≡ t
    and_true true = refl
    and_true false = refl

-- ---- an image

-- it was written from byte 0 on
pub kept : {t before after : List ℕ} {n : ℕ} → length t ≤ longest_image → length t ≤ length before → Wrote t before 0 after n → Image before after n
kept {t} {before} {after} {n} few h w =
    let f = wrote_front h w in
    let long : length after ≡ length before = ap length w.bytes ∙ length_over t before 0 in
    record {
      few = omega (arith, f.1);
      within = omega (arith, f.1);
      long = long;
      later = rw (f.0, f.1) (drop-append_seam t (drop (length t) before));
    }
