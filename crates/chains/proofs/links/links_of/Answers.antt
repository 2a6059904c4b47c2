use Rattle.std.proofs.Common.{ℕ, ◌≡◌, ◌∙◌, List, length, take, map, ap, arith, rules, min, length-take}
use Rattle.std.proofs.Math.ListN.{length-set}
use Rattle.model.specs.declared.System.{System as StoredSystem}
use Rattle.model.specs.Limits.{max_systems}
use Rattle.model.specs.Stored.{system_of}
use Rattle.chains.specs.Flat.{preds_of}
use Rattle.chains.proofs.Copies.{length_mapped, take_min, one_more, fewer_laid}
use Rattle.chains.proofs.links.links_of.Goals as goal

pub loop-i-preserved : goal.loop-i-preserved
loop-i-preserved c =
    let w = c.loop-i in
    let m = c.args.m in
    let long : length m.systems ≡ max_systems = search (length_mapped, rules) in
    (simp length-set w.invariant.0, one_more m.systems w.preds w.i _ (omega arith) (omega arith) w.invariant.1)

pub returns : goal.returns
returns c =
    let w = c.loop-i in
    let m = c.args.m in
    let long : length m.systems ≡ max_systems = search (length_mapped, rules) in
    let n = length c.held-count.result.now in
    let k : n ≡ min m.count max_systems = rw c.held-count.ensures (simp length-take (omega arith)) in
    record {
      links =
          fewer_laid m.systems w.preds n w.i (omega arith) w.invariant.1 ∙
          ap (λ (l : List StoredSystem). preds_of (map system_of l)) (ap (λ (n : ℕ). take n m.systems) k ∙ take_min m.count max_systems m.systems long);
      few = omega arith;
    }
