use Rattle.std.proofs.Common.{[], refl, arith, rules}
use Rattle.script.specs.Hex.{hexed}
use Rattle.script.proofs.AnswerLaws.{said_short}
use Rattle.script.proofs.obey.say_begun.Goals as goal

pub put_said-end-requires : goal.put_said-end-requires
put_said-end-requires c = omega (arith, said_short c.number_told-number.result [] (search rules), c.requires)

pub returns : goal.returns
unfolding hexed
returns c =
    record {
      state = refl;
      text = rw c.number_told-number.ensures at c.put_said-end.ensures;
      inside = omega (arith, said_short c.number_told-number.result [] (search rules), c.requires, c.put_said-end.ensures.place);
    }
