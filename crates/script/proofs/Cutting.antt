-- What is held of a line: as much as fits, and of a line that is too long one byte too many tells all.
use Rattle.std.proofs.Common.{◌≡◌, ℕ, zero, suc, ◌-◌, ◌<◌, ◌≤◌, List, [], ◌∷◌, ◌++◌, length, take, sym, refl, ap, ◌∙◌, arith, length-take-le, take_all}
use native.Mathlib.Decide.{dec_lt}
use borrow.Author.Tests.{lt-leb}
use Rattle.lines.specs.Feed.{Answer, kept}
use Rattle.lines.specs.Whole.{Clips}
use Rattle.lines.proofs.Whole.{whole_input}
use Rattle.print.specs.Over.{Wrote}
use Rattle.print.proofs.Laws.{wrote_then, length_over, over_first}
use Rattle.script.specs.Directive.{Order, longest_line, unclear, order}
use Rattle.script.specs.Obey.{done, next_state, answer}
use Rattle.script.specs.Run.{Place, place, following, answering, Whole, Keeps}

-- ---- a line that is too long

too_long : (l : List ℕ) → longest_line < length l → order l ≡ unclear
unfolding order
too_long l h = rw (lt-leb (length l) longest_line h)

order_kept : (l : List ℕ) → order (kept answering l) ≡ order l
order_kept l =
    elim (dec_lt longest_line (length l)) [
      | yes h ↦ too_long (kept answering l) (rw (length-take-le (suc longest_line) l h) (omega arith)) ∙ sym (too_long l h)
      | no h ↦ ap order (take_all (suc longest_line) l (omega arith))
    ]

-- what is kept of a line tells its answer
pub clips : Clips answering
clips p l = ap {B = Answer Place ℕ} (λ (o : Order). record { state = place (next_state p.view (done p.view o)) (following p.number); text = answer p.number (done p.view o) }) (order_kept l)

-- what the blocks print, and then the end, is what all lines of the input are answered
pub whole : Whole
whole = whole_input answering clips

-- ---- what was written to the front of a buffer

pub wrote_first : {t before after : List ℕ} {n : ℕ} → Wrote t before 0 after n → n ≤ length before → take n after ≡ t
wrote_first {t} {before} {after} {n} w h =
    let e : n ≡ length t = omega (arith, w.place) in
    rw (w.bytes, e) (over_first t before (omega arith))

pub wrote_long : {t before after : List ℕ} {at n : ℕ} → Wrote t before at after n → length after ≡ length before
wrote_long {t} {before} {after} {at} w = ap length w.bytes ∙ length_over t before at

-- ---- as much as fits

pub keeps_part : {part before after : List ℕ} {n : ℕ} → Wrote (take (length before - 0) part) before 0 after n → n ≤ length before → Keeps part after n
keeps_part {part} {before} w h =
    let long = wrote_long w in
    let all : length before - 0 ≡ length before = omega arith in
    record { bytes = wrote_first w h ∙ ap (λ (k : ℕ). take k part) (all ∙ sym long); inside = omega arith }

-- first one text and then another
take_both : (n : ℕ) (h p : List ℕ) → take n h ++ take (n - length (take n h)) p ≡ take n (h ++ p)
take_both zero h p = refl
take_both (suc n) [] p = let e : suc n - 0 ≡ suc n = omega arith in ap (λ (k : ℕ). take k p) e
take_both (suc n) (x ∷ h) p =
    let e : suc n - suc (length (take n h)) ≡ n - length (take n h) = omega arith in
    ap (λ (t : List ℕ). x ∷ t) (ap (λ (k : ℕ). take n h ++ take k p) e ∙ take_both n h p)

pub keeps_join : (held part : List ℕ) {before middle after : List ℕ} {c n : ℕ} → Wrote (take (length before - 0) held) before 0 middle c →
    Wrote (take (length middle - c) part) middle c after n → n ≤ length middle → Keeps (held ++ part) after n
keeps_join held part {before} {middle} {after} {c} {n} v w h =
    let same : length middle ≡ length before = wrote_long v in
    let long : length after ≡ length middle = wrote_long w in
    let all : length before - 0 ≡ length before = omega arith in
    let first : Wrote (take (length before) held) before 0 middle c = rw all at v in
    let place : c ≡ length (take (length before) held) = omega (arith, first.place) in
    let text : take (length before) held ++ take (length middle - c) part ≡ take (length before) (held ++ part) =
    rw (same, place) (take_both (length before) held part) in
    record { bytes = wrote_first (wrote_then first w) (omega arith) ∙ text ∙ rw (long, same) refl; inside = omega arith }
