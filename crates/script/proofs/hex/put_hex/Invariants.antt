use Rattle.std.proofs.Common.{◌≡◌, ◌+◌, ◌*◌, ◌≤◌, length, drop}
use Rattle.print.specs.Over.{over}
use Rattle.script.specs.Hex.{hexed}
use Rattle.script.proofs.hex.put_hex.Given as goal

-- so many bytes were written, and those that are left make up the rest
abbrev pub invariant-loop-i : goal.invariant-loop-i
invariant-loop-i l =
    (length l.out ≡ length l.initial.out) × (l.at + 2 * length l.bytes ≤ length l.initial.out)
    × (over l.initial.out l.at (hexed l.bytes) ≡ over l.out (l.at + 2 * l.i) (hexed (drop l.i l.bytes)))
