use Rattle.std.proofs.Common.{ℕ, ◌≡◌, ◌<◌, ◌∙◌, length, take, map, min, get_or, sym, ap, arith, rules, length-take, false}
use Rattle.std.proofs.Math.ListN.{length-map}
use Rattle.model.specs.Limits.{max_systems}
use Rattle.model.specs.Memory.{blank}
use Rattle.model.specs.Stored.{system_of}
use Rattle.chains.proofs.Copies.{length_mapped}
use Rattle.memory.specs.Keys.{key_of, keys_of}
use Rattle.memory.proofs.Keys.{keys_apart, key_at}
use Rattle.memory.proofs.Differ.{alike, left_from, left_hit, left_miss, left_done, differ_end, stored_alike}
use Rattle.memory.proofs.distinct.names_differ.Goals.{At-loop-j, else-keys-i-via-then-keys-i+else-same_name, else-keys-i-via-else-keys-i}
use Rattle.memory.proofs.distinct.names_differ.Goals as goal

-- the key at each index is that of the name there
keyed : (c : At-loop-j) (i : ℕ) → i < length c.held-systems.result.now → get_or c.name_keys-keys.result i 0 ≡ key_of (get_or (map system_of c.held-systems.result.now) i blank).name
keyed c i h =
    let m = c.args.m in
    let xs = c.held-systems.result.now in
    let long : length m.systems ≡ max_systems = search (length_mapped, rules) in
    let many : min m.count max_systems ≡ length xs = omega (arith, ap length c.held-systems.ensures, length-take m.count m.systems) in
    let e : take (length xs) c.name_keys-keys.result ≡ keys_of (map system_of xs) = rw (← many, c.held-systems.ensures) c.name_keys-keys.ensures in
    key_at (map system_of xs) c.name_keys-keys.result (length xs) i e (length-map xs system_of) h

pub loop-j-init : goal.loop-j-init
loop-j-init c = c.loop-i.invariant ∙ left_from _ c.loop-i.i

pub returns-then-same_name : goal.returns-then-same_name
returns-then-same_name c =
    let xs = c.held-systems.result.now in
    let n = length-map xs system_of in
    rw (← c.held-systems.ensures) (sym (c.loop-j.invariant ∙ left_hit _ c.loop-i.i c.loop-j.j (omega arith) (stored_alike xs c.loop-i.i c.loop-j.j ∙ sym c.same_name.ensures ∙ c.if-same_name.true)))

pub loop-j-preserved : goal.loop-j-preserved
loop-j-preserved c =
    let xs = c.held-systems.result.now in
    let l = map system_of xs in
    let n = length-map xs system_of in
    let i = c.loop-i.i in
    let j = c.loop-j.j in
    let miss : alike l i (get_or l j blank) ≡ false =
    elim c.else-keys-i.branch [
      | else-keys-i-via-then-keys-i+else-same_name w ↦ stored_alike xs i j ∙ sym w.same_name.ensures ∙ w.if-same_name.false
      | else-keys-i-via-else-keys-i w ↦
          keys_apart _ _ (λ q. w.if-keys-i.false (keyed (goal.at.loop-j-preserved c).At-loop-j i c.loop-i-test.true ∙ q ∙ sym (keyed (goal.at.loop-j-preserved c).At-loop-j j c.loop-j-test.true)))
    ] in
    c.loop-j.invariant ∙ left_miss l i j (omega arith) miss

pub loop-i-preserved : goal.loop-i-preserved
loop-i-preserved c =
    let n = length-map c.held-systems.result.now system_of in
    c.loop-j.invariant ∙ left_done _ c.loop-i.i c.loop-j.j (omega arith)

pub returns : goal.returns
returns c =
    let n = length-map c.held-systems.result.now system_of in
    rw (← c.held-systems.ensures) (sym (c.loop-i.invariant ∙ differ_end _ c.loop-i.i (omega arith)))
