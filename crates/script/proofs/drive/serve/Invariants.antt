use Rattle.std.proofs.Common.{◌≡◌, ◌-◌, ◌≤◌, length, take}
use Rattle.script.specs.Run.{held_of, given}
use Rattle.script.proofs.drive.serve.Given as goal

-- what the script holds
abbrev pub invariant-loop-at : goal.invariant-loop-at
invariant-loop-at l =
    (l.at ≤ length l.block) × (l.script.held ≤ length l.held) × (held_of l.script l.held ≡ (given l.initial.script l.initial.held (take l.at l.block)).held)

abbrev pub decreases-loop-at : goal.decreases-loop-at
decreases-loop-at l = length l.block - l.at
