use mathlib.Core.Path.{◌≡◌}
use lib.ListN.{length}
use Rattle.model.specs.Stored.{FineState}
use Rattle.console.proofs.serve_all.Given as goal

abbrev pub invariant-loop : goal.invariant-loop
invariant-loop l = record {
  input_long : 65536 ≡ length l.input;
  output_long : 65536 ≡ length l.output;
  fine : FineState l.session.state;
}
