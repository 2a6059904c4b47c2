use Rattle.std.proofs.Common.{refl, sym, ◌∙◌, add-zero, arith}
use Rattle.print.proofs.Laws.{over_turn, over_done}
use Rattle.print.proofs.put_text.Goals as goal

pub loop-i-init : goal.loop-i-init
loop-i-init c = rw add-zero

pub loop-i-preserved : goal.loop-i-preserved
loop-i-preserved c = c.loop-i.invariant ∙ over_turn c.args.text.now c.loop-i.out c.args.at c.loop-i.i (omega arith)

pub returns : goal.returns
returns c =
    record {
      place = refl;
      bytes = sym (c.loop-i.invariant ∙ over_done c.args.text.now c.loop-i.out c.args.at c.loop-i.i (omega arith));
    }
