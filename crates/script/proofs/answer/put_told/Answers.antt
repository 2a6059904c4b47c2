use Rattle.std.proofs.Common.{◌<◌, sym, ◌∙◌, arith, rules}
use Rattle.model.specs.Lists.{joined}
use Rattle.print.proofs.Laws.{wrote_then, wrote_end}
use Rattle.script.specs.Answer.{said}
use Rattle.script.proofs.AnswerLaws.{head_short, usage_number}
use Rattle.script.proofs.answer.put_told.Goals.{After-number_told-number}
use Rattle.script.proofs.answer.put_told.Goals as goal

byte : (c : After-number_told-number) → c.number_told-number.result < 256
byte c = search rules

pub put_head-i-requires : goal.put_head-i-requires
put_head-i-requires c = omega (arith, head_short _ (byte (goal.at.put_head-i-requires c).After-number_told-number), c.requires)

pub put_usage-k-requires : goal.put_usage-k-requires
put_usage-k-requires c = omega (arith, head_short _ (byte (goal.at.put_usage-k-requires c).After-number_told-number), c.put_head-i.ensures.place, c.requires)

pub put_byte-requires : goal.put_byte-requires
put_byte-requires c =
    omega (arith, head_short _ (byte (goal.at.put_byte-requires c).After-number_told-number), c.put_head-i.ensures.place, c.put_usage-k.ensures.short, c.requires)

pub returns : goal.returns
unfolding said joined
returns c =
    record {
      wrote =
          rw (usage_number c.args.told ∙ sym c.number_told-number.ensures)
          (wrote_then c.put_head-i.ensures (wrote_then c.put_usage-k.ensures.wrote (wrote_end c.put_byte.ensures)));
      within =
          omega (
            arith,
            head_short _ (byte (goal.at.returns c).After-number_told-number),
            c.put_head-i.ensures.place,
            c.put_usage-k.ensures.short,
            c.put_byte.ensures.place,
            c.requires,
          );
    }
