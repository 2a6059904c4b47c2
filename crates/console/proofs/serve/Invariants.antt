use Prim.Native.Nat.{◌-◌, ◌≤◌}
use mathlib.Core.Path.{◌≡◌}
use lib.ListN.{length, take}
use Rattle.model.specs.Stored.{FineState}
use Rattle.model.specs.Tally.{counted_all}
use Rattle.tally.specs.Counts.{tally_of}
use Rattle.session.specs.Blocks.{held_of}
use Rattle.console.specs.Serve.{given, outcomes_given}
use Rattle.console.proofs.serve.Given as goal

abbrev pub invariant-loop-at : goal.invariant-loop-at
invariant-loop-at l = record {
  within : l.at ≤ length l.block;
  fine : FineState l.session.state;
  long : length l.out ≡ length l.initial.out;
  held : held_of l.session ≡ (given l.initial.session (take l.at l.block)).held;
  tally : tally_of l.session.tally ≡ counted_all (tally_of l.initial.session.tally) (outcomes_given l.initial.session (take l.at l.block));
}

abbrev pub decreases-loop-at : goal.decreases-loop-at
decreases-loop-at l = length l.block - l.at
