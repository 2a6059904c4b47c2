use mathlib.Core.Path.{◌≡◌}
use borrow.Author.Rules.{rules}
use mir.Syntax.{w64}
use mir.Val.{to_z, of_z}
use Rattle.model.specs.Stage.{aslant}
use Rattle.memory.proofs.Signed.{zero_bits}
use Rattle.memory.proofs.stage.aslant.Goals as goal

pub returns : goal.returns
unfolding aslant
returns c =
    let a = c.args.p.angles in
    let eu : to_z w64 (of_z w64 a.u) ≡ a.u = search rules in
    let ev : to_z w64 (of_z w64 a.v) ≡ a.v = search rules in
    let ew : to_z w64 (of_z w64 a.w) ≡ a.w = search rules in
    rw (zero_bits a.u eu, zero_bits a.v ev, zero_bits a.w ew)
