-- The bytes that are held: those that were held, and behind them as many of a part's as are enough.
use Prim.Native.Nat.{ℕ, ◌+◌, ◌-◌, ◌≤◌, min}
use mathlib.Core.Path.{◌≡◌, sym, ap, ◌∙◌}
use mathlib.Core.List.{List, ◌++◌}
use native.Mathlib.Omega.{arith}
use lib.ListN.{length, take, drop}
use lib.Seq.{take-append-add, take-append_seam, length-take-le}
use borrow.Rule.Slice.PartMut.{put_mid}
use Rattle.std.proofs.lemmas.List.{take_min}
use Rattle.session.specs.Feed.{enough}

-- so many bytes n were held; m of the part's are written behind them
pub keeps : (bytes part new : List ℕ) (n m k : ℕ) → n ≤ length bytes → n ≤ enough → m ≡ min (enough - n) (length part) → new ≡ take m part →
    take (n + m) (put_mid n k bytes new) ≡ take enough (take n bytes ++ part)
keeps bytes part new n m k inside few least copied =
    let held = take n bytes in
    let long : length held ≡ n = length-take-le n bytes inside in
    let size : length new ≡ m = ap length copied ∙ length-take-le m part (omega arith) in
    let some : new ≡ take (enough - n) part = copied ∙ ap (λ (j : ℕ). take j part) least ∙ take_min (enough - n) part in
    let all : enough ≡ length held + (enough - n) = omega arith in
    ap (λ (j : ℕ). take j (put_mid n k bytes new)) (omega arith) ∙ take-append-add held (new ++ drop k (drop n bytes)) (length new)
    ∙ ap (λ (t : List ℕ). held ++ t) (take-append_seam new (drop k (drop n bytes)) ∙ some)
    ∙ sym (ap (λ (j : ℕ). take j (held ++ part)) all ∙ take-append-add held part (enough - n))
