use Prim.Native.Nat.{ℕ, ◌+◌}
use mathlib.Core.Path.{◌≡◌}
use native.Mathlib.Omega.{arith}
use lib.ListN.{length, length-append}
use Rattle.model.specs.Kinds.{of_kind}
use Rattle.model.specs.Memory.{System}
use Rattle.model.specs.Stored.{system_of}
use Rattle.print.proofs.Laws.{wrote_then}
use Rattle.reply.specs.Types.{Group}
use Rattle.reply.specs.Lines.{enabled_text}
use Rattle.reply.proofs.LineLaws.{enabled_fixed_lem, enabled_user_lem}
use Rattle.reply.proofs.line.put_enabled.Goals as goal

user_long : (g : Group) (p : ℕ) (s : System) → (p ≡ 0 → ⊥) → length (enabled_text g p s) ≡ length s.name + 1 + length (of_kind s.kind).shown
user_long g p s h = rw (enabled_user_lem g p s h, length-append) (omega arith)

pub put_by_group-requires : goal.put_by_group-requires
put_by_group-requires c = rw (enabled_fixed_lem c.args.g c.args.place (system_of c.args.s) c.if-place-eq0.true) at c.requires.1

pub returns-then-place-eq0 : goal.returns-then-place-eq0
returns-then-place-eq0 c = rw (enabled_fixed_lem c.args.g c.args.place (system_of c.args.s) c.if-place-eq0.true) c.put_by_group.ensures

pub put_name-a-requires : goal.put_name-a-requires
put_name-a-requires c = (c.requires.0 (omega arith), omega (arith, user_long c.args.g c.args.place (system_of c.args.s) c.if-place-eq0.false))

pub put_text-b-requires : goal.put_text-b-requires
put_text-b-requires c = omega (arith, user_long c.args.g c.args.place (system_of c.args.s) c.if-place-eq0.false)

pub put_kind-requires : goal.put_kind-requires
put_kind-requires c = omega (arith, user_long c.args.g c.args.place (system_of c.args.s) c.if-place-eq0.false)

pub returns : goal.returns
returns c =
    rw (enabled_user_lem c.args.g c.args.place (system_of c.args.s) c.if-place-eq0.false) (wrote_then c.put_name-a.ensures (wrote_then c.put_text-b.ensures c.put_kind.ensures))
