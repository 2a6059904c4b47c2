-- `put_shown`: four texts, one after the other.
use mathlib.Core.Path.{◌≡◌}
use native.Mathlib.Omega.{arith}
use borrow.Author.Rules.{rules}
use lib.ListN.{length}
use Rattle.io.proofs.Counting.{prefix_len_of_le}
use Rattle.model.specs.Lists.{joined}
use Rattle.print.proofs.Laws.{wrote_then, wrote_end}
use Rattle.store.specs.Mark.{shown_as}
use Rattle.store.proofs.mark.put_shown.Goals as goal

pub returns : goal.returns
unfolding shown_as joined
returns c =
    let short = c.requires in
    let e : 64 ≡ length c.put_text.new.out = search rules in
    let r = c.put_text.result in record {
      wrote = wrote_then c.put_text-i.ensures (wrote_then c.put_text-j.ensures (wrote_then c.put_text-k.ensures (wrote_end c.put_text.ensures)));
      prefix_len = prefix_len_of_le r c.put_text.new.out (omega (arith, e, short.process_short, short.number_short, c.put_text-i.ensures.place, c.put_text-j.ensures.place, c.put_text-k.ensures.place, c.put_text.ensures.place));
    }
