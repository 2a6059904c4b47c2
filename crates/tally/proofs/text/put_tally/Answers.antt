-- `put_tally`: the first line, and the lines of the numbers behind it.
use Prim.Native.Nat.{◌^◌, ◌≤◌, ◌<◌}
use mathlib.Core.Path.{◌≡◌, ap}
use native.Mathlib.Omega.{arith}
use borrow.Author.Rules.{rules}
use lib.ListN.{length}
use Rattle.model.specs.Tally.{tally_text}
use Rattle.print.proofs.Laws.{wrote_then}
use Rattle.tally.specs.Counts.{numbers, tally_of, longest_tally}
use Rattle.tally.proofs.Parts.{text_parts, length_text, text_short}
use Rattle.tally.proofs.text.put_tally.Goals.{Start}
use Rattle.tally.proofs.text.put_tally.Goals as goal

-- there is room for it
short : (c : Start) → length (tally_text (tally_of c.args.t)) ≤ longest_tally
short c =
    let small : c.args.t.total < 2 ^ 64 = search rules in
    let long : length c.args.t.counts ≡ numbers = search rules in
    text_short c.args.t c.args.t.sums small long

pub put_line-end-requires : goal.put_line-end-requires
put_line-end-requires c = omega (arith, length_text c.args.t, short (goal.at.put_line-end-requires c).Start, c.requires)

pub put_all_refused-requires : goal.put_all_refused-requires
put_all_refused-requires c =
    omega (arith, length_text c.args.t, short (goal.at.put_all_refused-requires c).Start, c.requires, c.put_line-end.ensures.place)

pub returns : goal.returns
returns c =
    let w = wrote_then c.put_line-end.ensures c.put_all_refused.ensures in record {
      wrote = rw (text_parts c.args.t) w;
      upper_bound = omega (arith, w.place, ap length (text_parts c.args.t), short (goal.at.returns c).Start);
    }
