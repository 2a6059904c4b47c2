use Prim.Native.Nat.{◌-◌, ◌<◌}
use mathlib.Core.Path.{◌≡◌}
use native.Mathlib.Omega.{arith}
use borrow.Author.Rules.{rules}
use borrow.Author.Tests.{lt-ltb}
use lib.ListN.{length}
use Rattle.model.specs.Limits.{max_systems}
use Rattle.memory.specs.Put.{put_at}
use Rattle.chains.proofs.Copies.{length_mapped}
use Rattle.memory.proofs.Shape.{shaped_set, shaped_more}
use Rattle.memory.proofs.Edits.{stored_set, stored_last}
use Rattle.memory.proofs.edit.put_at.Goals.{Start}
use Rattle.memory.proofs.edit.put_at.Goals as goal

long : (c : Start) → length c.args.m.systems ≡ max_systems
long c = search (length_mapped, rules)

pub bounds-r-last : goal.bounds-r-last
bounds-r-last c = c.requires.1 c.if-place-eq0.true

pub overflow_add-r : goal.overflow_add-r
overflow_add-r c = omega (arith, c.requires.1 c.if-place-eq0.true)

pub returns-then-place-eq0 : goal.returns-then-place-eq0
unfolding put_at
returns-then-place-eq0 c =
    let a = c.args in
    let h = long (goal.at.returns-then-place-eq0 c).Start in
    let lt : a.m.count < length a.m.systems = omega (arith, c.requires.1 c.if-place-eq0.true) in
    let e = stored_last a.m.systems a.m.count a.s lt in record {
      stands_for = rw c.if-place-eq0.true (λ i. record { systems = e i; enabled = a.m.enabled });
      shaped = λ p q. shaped_more a.m p a.s q (omega arith) lt;
    }

pub returns : goal.returns
unfolding put_at
returns c =
    let a = c.args in
    let e = stored_set a.m.systems a.m.count (a.place - 1) a.s in record {
      stands_for = rw (lt-ltb 0 a.place (omega arith)) (λ i. record { systems = e i; enabled = a.m.enabled });
      shaped = λ p q. shaped_set a.m p a.s q (a.place - 1);
    }
