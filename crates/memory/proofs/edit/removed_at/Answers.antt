use Rattle.std.proofs.Common.{◌≡◌, ◌-◌, ◌<◌, ◌∙◌, length, take, min, refl, sym, ap, arith, rules, length-take}
use Rattle.std.proofs.Math.ListN.{length-set}
use Rattle.std.proofs.Math.Seq.{take_all}
use mathlib.Core.List.{map}
use borrow.Author.Tests.{le-leb}
use lib.Dec.{leb}
use Rattle.model.specs.Limits.{max_systems, name_limit}
use Rattle.model.specs.declared.Name.{Name}
use Rattle.model.specs.Lists.{all}
use Rattle.model.specs.Memory.{System, system_at}
use Rattle.model.specs.Effects.{mended, mended_enabled, removed_at}
use Rattle.model.specs.Stored.{system_of, systems_of, name_shaped, memory_shaped}
use Rattle.model.proofs.Basics.{and_join}
use Rattle.model.proofs.Edits.Removal.{without}
use Rattle.model.proofs.Shape.{shaped_at, shaped_count}
use Rattle.chains.proofs.Copies.{length_mapped, unset}
use Rattle.memory.proofs.Laws.{length_systems}
use Rattle.memory.proofs.Shape.{all_more}
use Rattle.memory.proofs.Edits.{Removing, kept_within, length_without, gone_at, without_at, stored_turn, still_turn}
use Rattle.memory.proofs.edit.removed_at.Goals.{After-held}
use Rattle.memory.proofs.edit.removed_at.Goals as goal

-- the place is one of those that count
removing : (c : After-held) → Removing c.args.m (length c.held.result.now) c.args.place
removing c =
    let m = c.args.m in
    let long : length m.systems ≡ max_systems = search (length_mapped, rules) in
    let count : length c.held.result.now ≡ min m.count max_systems = omega (arith, ap length c.held.ensures, length-take m.count m.systems) in record {
      long = long;
      count = count;
      pos = c.requires.0;
      there = omega (arith, c.requires.1, length_systems m _ long count);
    }

pub loop-i-init : goal.loop-i-init
unfolding all
loop-i-init c = ((removing (goal.at.loop-i-init c).After-held).long, refl, λ h. refl, λ j h. refl, refl)

pub loop-i-preserved : goal.loop-i-preserved
loop-i-preserved c =
    let w = c.loop-i in
    let m = c.args.m in
    let g = removing (goal.at.loop-i-preserved c).After-held in
    let n = length_without g in
    let kept = kept_within (c.args.place - 1) w.i in
    let within : w.i < length w.r.systems = omega arith in
    let at : c.kept_at.result < m.count = omega arith in
    let read = w.invariant.3 c.kept_at.result (omega arith) in (
      simp length-set w.invariant.0,
      stored_turn w.r.systems (without (systems_of m) c.args.place) w.i c.mended_system.result within (omega arith) w.invariant.1
          (c.mended_system.ensures.stands_for ∙ rw (read, c.kept_at.ensures) (sym (without_at g w.i c.loop-i-test.true))),
      λ q.
          all_more name_shaped c.mended_system.result
          (ap (λ (x : Name). leb x.len name_limit) c.mended_system.ensures.name_value ∙ rw read (shaped_at m q unset c.kept_at.result at (omega (arith, shaped_count m q))))
          w.r.systems w.i within (w.invariant.2 q),
      still_turn w.r.systems m.systems w.i c.mended_system.result w.invariant.3,
      w.invariant.4,
    )

pub returns : goal.returns
unfolding removed_at memory_shaped
returns c =
    let w = c.loop-i in
    let m = c.args.m in
    let g = removing (goal.at.returns c).After-held in
    let k = length c.held.result.now in
    let n = length_without g in
    let last : k - 1 ≡ w.i = omega arith in
    let e : map system_of (take (k - 1) w.r.systems) ≡ without (systems_of m) c.args.place = rw last (w.invariant.1 ∙ take_all w.i (without (systems_of m) c.args.place) (omega arith)) in
    let f : c.mended_enabled-enabled.result ≡ mended_enabled (mended c.args.place (system_at (systems_of m) c.args.place).pred) m.enabled =
    c.mended_enabled-enabled.ensures ∙ rw (ap (λ (s : System). s.pred) (gone_at g), w.invariant.4) in record {
      stands_for = λ d. record { systems = e d; enabled = f d };
      shaped = λ q. and_join (le-leb (k - 1) max_systems (omega arith)) (rw last (w.invariant.2 q));
    }
