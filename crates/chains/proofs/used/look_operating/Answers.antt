use mathlib.Core.Path.{◌∙◌}
use native.Mathlib.Omega.{arith}
use borrow.Author.Rules.{rules}
use lib.Dec.{eqb}
use Rattle.model.proofs.Searches.{after_none, ended_there, goes_on}
use Rattle.chains.specs.Searches.{search_of}
use Rattle.chains.proofs.used.look_operating.Goals as goal

-- the work half turned up, and the tool half is not looked at
pub returns-then-work : goal.returns-then-work
returns-then-work c =
    let s = c.args in
    let work = c.look_along-work.ensures in record {
      search_value = rw c.in-Pair.is
          (ended_there (eqb s.k) _ _ 0 (search_of c.look_along-work.result) work.search_value c.if-work.true ∙ after_none _);
      looked_bound = omega (arith, work.looked_bound);
    }

pub look_along-requires-in-Pair : goal.look_along-requires-in-Pair
look_along-requires-in-Pair c = (search rules, omega (arith, c.look_along-work.ensures.looked_bound))

pub returns-in-Single : goal.returns-in-Single
returns-in-Single c =
    let one = c.look_along.ensures in record {
      search_value = rw c.in-Single.is (one.search_value ∙ after_none _);
      looked_bound = omega (arith, one.looked_bound);
    }

pub returns-else-work : goal.returns-else-work
returns-else-work c =
    let s = c.args in
    let work = c.look_along-work.ensures in
    let tool = c.look_along-in-Pair.ensures in record {
      search_value = rw c.in-Pair.is
          (tool.search_value ∙ goes_on (eqb s.k) _ _ 0 (search_of c.look_along-work.result) work.search_value c.if-work.false ∙ after_none _);
      looked_bound = omega (arith, work.looked_bound, tool.looked_bound);
    }
