use Rattle.std.proofs.Common.{◌≡◌, ◌∙◌, map, sym, ap, arith, below_more, add-one}
use Rattle.std.proofs.Math.ListN.{length-map, get_or-map}
use Rattle.model.specs.Lists.{same}
use Rattle.model.specs.Memory.{System}
use Rattle.model.specs.Stored.{system_of}
use Rattle.chains.proofs.Copies.{unset}
use Rattle.memory.proofs.Places.{has, place_hit, place_none}
use Rattle.memory.proofs.find.place_named.Goals.{After-has_bytes}
use Rattle.memory.proofs.find.place_named.Goals as goal

-- what the code found of the system at hand
has_here : (c : After-has_bytes) → has (map system_of c.held-s-items.result.now) c.args.t.now c.loop-i.i ≡ c.has_bytes.result
has_here c = ap (λ (s : System). same c.args.t.now s.name) (get_or-map system_of c.held-s-items.result.now c.loop-i.i unset) ∙ sym c.has_bytes.ensures

pub returns-then-has_bytes : goal.returns-then-has_bytes
returns-then-has_bytes c =
    let xs = c.held-s-items.result.now in
    rw (← c.held-s-items.ensures) (add-one c.loop-i.i
    ∙ sym (place_hit (map system_of xs) c.args.t.now c.loop-i.i (omega (arith, length-map xs system_of)) (has_here (goal.at.returns-then-has_bytes c).After-has_bytes ∙ c.if-has_bytes.true) c.loop-i.invariant))

pub loop-i-preserved : goal.loop-i-preserved
loop-i-preserved c = below_more _ _ c.loop-i.invariant (has_here (goal.at.loop-i-preserved c).After-has_bytes ∙ c.if-has_bytes.false)

pub returns : goal.returns
returns c =
    let xs = c.held-s-items.result.now in
    rw (← c.held-s-items.ensures) (sym (place_none (map system_of xs) c.args.t.now (λ j h. c.loop-i.invariant j (omega (arith, length-map xs system_of)))))
