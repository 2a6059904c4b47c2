-- `beside`: both texts fit, or they do not.
use Prim.Native.Nat.{◌≤◌}
use mathlib.Core.List.{◌++◌}
use native.Mathlib.Omega.{arith}
use lib.ListN.{length, length-append}
use Rattle.print.proofs.Laws.{wrote_then}
use Rattle.store.proofs.Placing.{placed, front_counts}
use Rattle.store.proofs.place.beside.Goals as goal

pub returns : goal.returns
returns c =
    let h : length (c.args.path.now ++ c.args.suffix.now) ≤ length c.args.out.now = rw length-append (omega arith) in
    let w = wrote_then c.put_text-n.ensures c.put_text.ensures in record {
      placed = placed h w;
      prefix_len = front_counts h w;
    }
