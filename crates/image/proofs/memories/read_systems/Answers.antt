use Rattle.std.proofs.Common.{◌<◌, ◌≡◌, refl, ◌∙◌, length, take, map, arith}
use lib.ListN.{length-set}
use lib.Seq.{length-take-le, take_at, take_all}
use Rattle.model.specs.Lists.{all}
use Rattle.model.specs.Stored.{system_of, name_shaped}
use Rattle.model.specs.Image.{read_system}
use Rattle.model.proofs.Told.{told_value, tells_some, refuses_none}
use Rattle.memory.proofs.Edits.{stored_last}
use Rattle.memory.proofs.Shape.{all_more}
use Rattle.image.proofs.Turns.{turn_first, turn_read, turn_refused, turn_last}
use Rattle.image.proofs.memories.read_systems.Goals as goal
use Rattle.image.proofs.memories.read_systems.Goals.{After-systemitems-1}

pub loop-system-init : goal.loop-system-init
unfolding all
loop-system-init c = record { long = length-take-le c.args.count _ c.requires; told = turn_first read_system c.args.count _; shaped = refl }

pub returns-in_err-system-clause-told : goal.returns-in_err-system-clause-told
returns-in_err-system-clause-told c =
    let l = c.loop-system in
    rw c.from_residual.ensures
    (refuses_none 14 (l.invariant.told ∙ turn_refused read_system c.args.count l.system-index _ (map system_of (take l.system-index l.system-items)) (omega (arith, c.loop-system-test.true, l.invariant.long)) (told_value 14 _ _ c.in_err-system.ensures.told)))

pub loop-system-preserved : goal.loop-system-preserved
loop-system-preserved c =
    let l = c.loop-system in
    let i = l.system-index in
    let v = l.system-items in
    let x = c.in_ok-system.field-0 in
    let g : i < length v = omega (arith, l.invariant.long, c.loop-system-test.true) in
    let e = told_value 14 _ _ c.in_ok-system.ensures.told in
    record {
      long = length-set v i x ∙ l.invariant.long;
      told = rw (stored_last v i x g) (l.invariant.told ∙ turn_read read_system c.args.count i _ (map system_of (take i v)) (system_of x) _ (omega (arith, g, l.invariant.long)) e);
      shaped = all_more name_shaped x c.in_ok-system.ensures.shaped v i g l.invariant.shaped;
    }

-- all were read
last : (c : After-systemitems-1) → (c.loop-system.system-index ≡ c.args.count) × (take c.loop-system.system-index c.loop-system.system-items ≡ c.loop-system.system-items)
last c =
    let l = c.loop-system in
    (omega (arith, c.loop-system-test.false, l.auto.system-index-end, l.invariant.long), take_all l.system-index l.system-items (omega (arith, c.loop-system-test.false)))

pub returns-clause-told : goal.returns-clause-told
returns-clause-told c =
    let l = c.loop-system in
    let long = l.invariant.long in
    let f = last (goal.at.returns-clause-told c).After-systemitems-1 in
    rw take_at
    (tells_some 14 (l.invariant.told ∙ turn_last read_system c.args.count l.system-index _ (map system_of (take l.system-index l.system-items)) (omega (arith, f.0)) (omega (arith, f.0)) ∙ rw f.1))

pub returns-clause-shaped : goal.returns-clause-shaped
returns-clause-shaped c =
    let long = c.loop-system.invariant.long in
    let f = last (goal.at.returns-clause-shaped c).After-systemitems-1 in
    rw take_at (rw f.1 at c.loop-system.invariant.shaped)
