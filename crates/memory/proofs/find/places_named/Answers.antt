use Rattle.std.proofs.Common.{ℕ, ◌≡◌, ◌+◌, ◌<◌, ◌≤◌, ◌∙◌, List, length, take, refl, sym, ap, arith, rules, length-take}
use Rattle.std.proofs.Math.ListN.{length-set, length-map}
use Rattle.std.proofs.Math.Seq.{take_all}
use mathlib.Core.List.{map}
use Rattle.model.specs.declared.System.{System as StoredSystem}
use Rattle.model.specs.Limits.{max_systems}
use Rattle.model.specs.Stored.{bytes_of, system_of}
use Rattle.chains.specs.Flat.{preds_of}
use Rattle.chains.proofs.Copies.{length_mapped, one_more}
use Rattle.memory.proofs.Places.{Seen, seen_none, seen_turn, seen_all}
use Rattle.memory.proofs.find.places_named.Goals.{Joined-hits, then-hits, else-hits}
use Rattle.memory.proofs.find.places_named.Goals.{Joined-hits-2, then-hits-2, else-hits-2}
use Rattle.memory.proofs.find.places_named.Goals as goal

-- one system more is seen for the first name
seen_first : (c : Joined-hits) → Seen c.held-systems.result.now (bytes_of c.args.a) (c.loop-i.i + 1) c.if-hits.first c.if-hits.one
seen_first c =
    let turn = seen_turn c.held-systems.result.now (bytes_of c.args.a) c.loop-i.i c.loop-i-test.true _ _ c.loop-i.invariant.0 _ c.hits.ensures in
    elim c.if-hits.branch [ then-hits w ↦ rw (w.first-is, w.one-is) (turn.0 w.if-hits.true) | else-hits w ↦ rw (w.first-is, w.one-is) (turn.1 w.if-hits.false) ]

-- and for the second
seen_second : (c : Joined-hits-2) → Seen c.held-systems.result.now (bytes_of c.args.b) (c.loop-i.i + 1) c.if-hits-2.second c.if-hits-2.other
seen_second c =
    let turn = seen_turn c.held-systems.result.now (bytes_of c.args.b) c.loop-i.i c.loop-i-test.true _ _ c.loop-i.invariant.1 _ c.hits-in-loop-i.ensures in
    elim c.if-hits-2.branch [ then-hits-2 w ↦ rw (w.second-is, w.other-is) (turn.0 w.if-hits-2.true) | else-hits-2 w ↦ rw (w.second-is, w.other-is) (turn.1 w.if-hits-2.false) ]

pub loop-i-init : goal.loop-i-init
loop-i-init c =
    let e = c.blank_system-one.ensures in
    (seen_none _ _ _ e.stands_for e.shaped, seen_none _ _ _ e.stands_for e.shaped, refl, refl)

pub loop-i-preserved : goal.loop-i-preserved
loop-i-preserved c =
    let m = c.args.m in
    let long : length m.systems ≡ max_systems = search (length_mapped, rules) in
    let few : c.loop-i.i < max_systems = omega (arith, ap length c.held-systems.ensures, length-take m.count m.systems) in
    (seen_first (goal.at.loop-i-preserved c).Joined-hits, seen_second (goal.at.loop-i-preserved c).Joined-hits-2, simp length-set c.loop-i.invariant.2, one_more c.held-systems.result.now c.loop-i.preds c.loop-i.i _ c.loop-i-test.true (omega arith) c.loop-i.invariant.3)

pub returns : goal.returns
returns c =
    let m = c.args.m in
    let xs = c.held-systems.result.now in
    let e : c.loop-i.i ≡ length xs = omega arith in
    let held = c.held-systems.ensures in
    let few : length xs ≤ max_systems = search rules in record {
      first_stands = seen_all xs _ m held _ _ _ e c.loop-i.invariant.0;
      second_stands = seen_all xs _ m held _ _ _ e c.loop-i.invariant.1;
      links_of = record {
        links = rw (← held) (ap (λ (n : ℕ). take n c.loop-i.preds) (sym e) ∙ c.loop-i.invariant.3 ∙ ap (λ (l : List StoredSystem). preds_of (map system_of l)) (take_all c.loop-i.i xs (omega arith)));
        few = few;
      };
      count_value = rw (← held) (sym (length-map xs system_of));
    }
