use Rattle.std.proofs.Common.{◌≡◌, ◌≤◌, ◌∙◌, length, map, sym, ap, arith, rules, length-take}
use Rattle.std.proofs.Math.ListN.{length-set, length-map, get_or-map}
use Rattle.model.specs.Limits.{max_systems}
use Rattle.model.specs.Memory.{System}
use Rattle.model.specs.Stored.{system_of}
use Rattle.chains.proofs.Copies.{length_mapped, unset}
use Rattle.memory.specs.Keys.{key_of, keys_of}
use Rattle.memory.proofs.Laws.{mapped_at, filled_turn}
use Rattle.memory.proofs.distinct.name_keys.Goals as goal

pub loop-i-preserved : goal.loop-i-preserved
loop-i-preserved c =
    let w = c.loop-i in
    let m = c.args.m in
    let xs = c.held-s-items.result.now in
    let l = map system_of xs in
    let long : length m.systems ≡ max_systems = search (length_mapped, rules) in
    let few : length xs ≤ max_systems = omega (arith, ap length c.held-s-items.ensures, length-take m.count m.systems) in
    let many : length (keys_of l) ≡ length xs = length-map l (λ (s : System). key_of s.name) ∙ length-map xs system_of in
    let e = mapped_at (λ (s : System). key_of s.name) l w.i (omega (arith, length-map xs system_of)) ∙ ap (λ (s : System). key_of s.name) (get_or-map system_of xs w.i unset) in
    (simp length-set w.invariant.0, filled_turn w.keys (keys_of l) w.i _ 0 (omega arith) (omega arith) w.invariant.1 (c.name_key.ensures ∙ sym e))
