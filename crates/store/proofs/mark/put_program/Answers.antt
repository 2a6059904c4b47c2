-- `put_program`: three texts, one after the other.
use mathlib.Core.Path.{◌≡◌}
use native.Mathlib.Omega.{arith}
use borrow.Author.Rules.{rules}
use lib.ListN.{length}
use Rattle.io.proofs.Counting.{prefix_len_of_le}
use Rattle.model.specs.Lists.{joined}
use Rattle.print.proofs.Laws.{wrote_then}
use Rattle.store.specs.Mark.{program_of}
use Rattle.store.proofs.mark.put_program.Goals as goal

pub returns : goal.returns
unfolding program_of joined
returns c =
    let short = c.requires in
    let e : 64 ≡ length c.put_text.new.out = search rules in record {
      wrote = wrote_then c.put_text-i.ensures (wrote_then c.put_text-j.ensures c.put_text.ensures);
      prefix_len = prefix_len_of_le _ _ (omega (arith, e, short, c.put_text-i.ensures.place, c.put_text-j.ensures.place, c.put_text.ensures.place));
    }
