use Prim.Native.Nat.{◌-◌, ◌≤◌}
use mathlib.Core.Path.{◌≡◌}
use mathlib.Core.List.{◌++◌, map}
use lib.ListN.{length, take, drop, replicate}
use Rattle.model.specs.Limits.{name_limit}
use Rattle.model.specs.Lists.{all}
use Rattle.model.specs.Words.{legal_name, name_byte, upper}
use Rattle.text.proofs.names.read_name.Given as goal

abbrev pub invariant-loop-i : goal.invariant-loop-i
invariant-loop-i l =
    (length l.word ≤ name_limit) × (l.bytes ≡ take l.i (map upper l.word) ++ replicate (name_limit - l.i) 0) ×
    (legal_name (map upper l.word) ≡ all name_byte (drop l.i (map upper l.word)))
