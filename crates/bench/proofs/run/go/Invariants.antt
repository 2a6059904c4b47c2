use mathlib.Core.Path.{◌≡◌}
use mathlib.Core.Bool.{true}
use lib.ListN.{length}
use Rattle.model.specs.Stored.{FineState}
use Rattle.bench.proofs.run.go.Given as goal

abbrev pub invariant-loop : goal.invariant-loop
invariant-loop l = record {
  input_long : 65536 ≡ length l.input;
  output_long : 65536 ≡ length l.output;
  image_long : 4096 ≡ length l.image;
  fine : FineState l.session.state;
  storing : l.k.storing ≡ true;
}
