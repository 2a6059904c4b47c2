-- No reason of a number that fits in a byte is longer than 100 bytes: computed, number by number. So its line fits in a buffer, and stands first there.
use Prim.Native.Nat.{ℕ, ◌≤◌, ◌<◌}
use mathlib.Core.Path.{◌≡◌}
use mathlib.Core.List.{List, ◌++◌}
use mathlib.Core.Bool.{Bool}
use native.Mathlib.Omega.{arith}
use lib.Dec.{leb, leb→le}
use lib.ListN.{length, take, length-append}
use Rattle.model.specs.Ascii.{ascii}
use Rattle.model.specs.Limits.{buffer_limit}
use Rattle.model.specs.Reply.{decimal}
use Rattle.model.specs.Reasons.{later_reason, reason, reason_line}
use Rattle.model.proofs.Digits.{decimal_short}
use Rattle.model.proofs.Upto.{at}
use Rattle.print.specs.Over.{Wrote}
use Rattle.print.proofs.Laws.{wrote_first}

abbrev short : ℕ → Bool
short n = leb (length (reason n)) 100

pub reason_short : (n : ℕ) → n < 256 → length (reason n) ≤ 100
unfolding later_reason reason
reason_short n h = leb→le (length (reason n)) 100 (at 256 short tt n h)

pub line_short : (n : ℕ) → n < 256 → length (reason_line n) ≤ 106
line_short n h =
    omega (
      arith,
      reason_short n h,
      decimal_short 3 n (omega arith) (omega arith),
      length-append (decimal n) (ascii ": " ++ (reason n ++ ascii "\n")),
      length-append (ascii ": ") (reason n ++ ascii "\n"),
      length-append (reason n) (ascii "\n"),
    )

-- a line that was written from place 0 on
pub line_first : (n : ℕ) → n < 256 → (b after : List ℕ) (r : ℕ) → buffer_limit ≤ length b → Wrote (reason_line n) b 0 after r →
    (r ≤ length after) × (take r after ≡ reason_line n)
line_first n h b after r room w = wrote_first (omega (arith, line_short n h)) w
