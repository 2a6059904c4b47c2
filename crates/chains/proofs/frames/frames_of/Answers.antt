use Rattle.std.proofs.Common.{ℕ, ◌≡◌, ◌<◌, length, get_or, sym, ap, subst, arith, rules, length-take, map}
use Rattle.std.proofs.Math.ListN.{length-set, get_or-map, length-map}
use Rattle.std.proofs.Math.IntN.{pos}
use mir.Syntax.{w64}
use mir.Val.{to_z, of_z}
use Rattle.model.specs.declared.System.{System as StoredSystem}
use Rattle.model.specs.Stored.{system_of}
use Rattle.chains.proofs.Copies.{length_mapped, three_more, unset}
use Rattle.chains.proofs.Laid.{LaidAs, frames_laid}
use Rattle.chains.proofs.frames.frames_of.Goals as goal

pub loop-i-preserved : goal.loop-i-preserved
loop-i-preserved c =
    let w = c.loop-i in
    let m = c.args.m in
    let long : length m.systems ≡ 16 = search (length_mapped, rules) in
    let few : w.i < 16 = omega (arith, ap length c.held-s-items.ensures, length-take m.count m.systems) in
    let f : ℕ → StoredSystem = λ j. get_or c.held-s-items.result.now j unset in
    let t = (f w.i).offset in
    let ex : to_z w64 (of_z w64 t.x) ≡ t.x = search rules in
    let ey : to_z w64 (of_z w64 t.y) ≡ t.y = search rules in
    let ez : to_z w64 (of_z w64 t.z) ≡ t.z = search rules in (
      simp length-set w.invariant.0,
      simp length-set w.invariant.1,
      rw (ex, ey, ez) (three_more (pos 0) (λ j. (f j).offset.x) (λ j. (f j).offset.y) (λ j. (f j).offset.z) w.offsets w.i (omega arith) w.invariant.2),
      three_more 0 (λ j. (f j).turns.u) (λ j. (f j).turns.v) (λ j. (f j).turns.w) w.turns w.i (omega arith) w.invariant.3,
    )

pub returns : goal.returns
returns c =
    let w = c.loop-i in
    let xs = c.held-s-items.result.now in
    rw (← c.held-s-items.ensures) (frames_laid w.offsets w.turns (map system_of xs)
    (λ j b.
    let k : j < w.i = omega (arith, length-map xs system_of) in
    subst (LaidAs w.offsets w.turns j) (sym (get_or-map system_of xs j unset))
    (w.invariant.2 j k, w.invariant.3 j k)))
