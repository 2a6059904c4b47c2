use Prim.Native.Nat.{◌-◌, ◌≤◌}
use mathlib.Core.Path.{◌≡◌}
use lib.ListN.{length, take}
use Rattle.model.specs.Stored.{FineState}
use Rattle.session.specs.Blocks.{held_of}
use Rattle.bench.specs.Serve.{given}
use Rattle.bench.proofs.serve.serve.Given as goal

abbrev pub invariant-loop-at : goal.invariant-loop-at
invariant-loop-at l = record {
  within : l.at ≤ length l.block;
  fine : FineState l.session.state;
  answers_long : length l.out ≡ length l.initial.out;
  image_long : length l.image ≡ length l.initial.image;
  held : held_of l.session ≡ (given l.k l.s (take l.at l.block)).held;
  handed : l.receipt.at ≡ l.at;
}

abbrev pub decreases-loop-at : goal.decreases-loop-at
decreases-loop-at l = length l.block - l.at
