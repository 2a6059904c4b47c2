use mathlib.Core.Path.{ap, ◌∙◌}
use mathlib.Core.List.{List}
use Prim.Native.Nat.{ℕ}
use native.Mathlib.Omega.{arith}
use lib.Dec.{eqb}
use Rattle.model.specs.Lists.{Search, search as seek, after}
use Rattle.chains.proofs.Searching.{down_along, few_along}
use Rattle.chains.proofs.used.look_along.Goals as goal

pub returns : goal.returns
returns c =
    let s = c.args in
    let found = c.look_down.ensures ∙ ap (λ (places : List ℕ). after s.before (seek (eqb s.k) places)) (down_along s.preds.now s.before s.q) in record {
      search_value = found;
      looked_bound = omega (arith, ap (λ (r : Search). r.looked) found, few_along s.preds.now s.k s.q);
    }
