use Prim.Native.Nat.{◌<◌, ◌≤◌}
use mathlib.Core.Path.{sym}
use mathlib.Core.Logic.{⊎_elim}
use native.Mathlib.Omega.{arith}
use borrow.Author.Tests.{le-leb, lt-leb, le-ltb}
use Rattle.model.specs.Request.{first_axis, may_come}
use Rattle.text.proofs.PairLaws.{came_there}
use Rattle.text.proofs.pairs.may_come.Goals.{then-first_axis-i, else-first_axis-i}
use Rattle.text.proofs.pairs.may_come.Goals as goal

pub returns-then-i-lt-AXES : goal.returns-then-i-lt-AXES
unfolding may_come
returns-then-i-lt-AXES c values h =
    let t = c.if-i-lt-AXES.true in
    let b : first_axis c.args.kind ≤ c.args.i = omega (arith, t.0, c.first_axis.ensures) in
    rw (le-leb _ _ b, le-leb c.args.i 5 (omega (arith, t.1)), came_there c.args.came values c.args.i (sym h))

pub returns-else-i-lt-AXES : goal.returns-else-i-lt-AXES
unfolding may_come
returns-else-i-lt-AXES c values h =
    elim c.if-first_axis-i.branch [
      | then-first_axis-i w ↦
          let b : first_axis c.args.kind ≤ c.args.i = omega (arith, w.if-first_axis-i.true, c.first_axis.ensures) in
          let d : 6 ≤ c.args.i = ⊎_elim (λ e. e.1) (λ e. let f = w.if-first_axis-i.true in absurd (omega arith)) c.if-i-lt-AXES.either in
          rw (w.t-6-is, le-ltb _ _ d, le-leb _ _ b, lt-leb c.args.i 5 (omega arith))
      | else-first_axis-i w ↦
          let b : c.args.i < first_axis c.args.kind = omega (arith, w.if-first_axis-i.false, c.first_axis.ensures) in
          rw (w.t-6-is, lt-leb _ _ w.if-first_axis-i.false, lt-leb _ _ b)
    ]
