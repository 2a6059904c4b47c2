use Rattle.std.proofs.Common.{◌^◌, ◌<◌, arith, rules}
use Rattle.model.specs.Lists.{joined}
use Rattle.model.proofs.Digits.{decimal_short}
use Rattle.print.proofs.Laws.{wrote_none, wrote_then, wrote_end}
use Rattle.script.proofs.AnswerLaws.{usage_refused, usage_told}
use Rattle.script.proofs.answer.put_usage.Goals.{In-Ok}
use Rattle.script.proofs.answer.put_usage.Goals as goal

pub returns-in_default : goal.returns-in_default
returns-in_default c = record { wrote = rw (c.in_default.is, usage_refused c.in_default.field-0) (wrote_none _ _); short = omega arith }

-- a count has 64 bits
count : (c : In-Ok) → c.in-Ok.search.looked < 2 ^ 64
count c = search rules

pub put_decimal-requires : goal.put_decimal-requires
put_decimal-requires c =
    let few = decimal_short 20 c.in-Ok.search.looked (omega arith) (omega (arith, count (goal.at.put_decimal-requires c).In-Ok)) in
    omega (arith, few, c.put_byte-i.ensures.place, c.put_byte-j.ensures.place, c.requires)

pub returns : goal.returns
unfolding joined
returns c =
    let few = decimal_short 20 c.in-Ok.search.looked (omega arith) (omega (arith, count (goal.at.returns c).In-Ok)) in
    record {
      wrote =
          rw (c.in-Ok.is, usage_told c.in-Ok.search)
          (wrote_then (rw c.from.ensures at c.put_byte-i.ensures) (wrote_then c.put_byte-j.ensures (wrote_end c.put_decimal.ensures)));
      short = omega (arith, few, c.put_byte-i.ensures.place, c.put_byte-j.ensures.place, c.put_decimal.ensures.place);
    }
