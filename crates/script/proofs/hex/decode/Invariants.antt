use Rattle.std.proofs.Common.{◌*◌, drop}
use Rattle.script.proofs.HexLaws.{Left}
use Rattle.script.proofs.hex.decode.Given as goal

-- what the pairs that are left say, behind as many bytes as pairs were taken
abbrev pub invariant-loop-i : goal.invariant-loop-i
invariant-loop-i l = Left l.text l.initial.out (drop (2 * l.i) l.text) l.i l.out
