-- A well-formed memory, and its numbers laid flat: a walk over them reaches what its own chains lead to. And the place of what is enabled.
use Prim.Native.Nat.{ℕ, ◌≤◌}
use mathlib.Core.Path.{◌≡◌, sym, ap, subst}
use mathlib.Core.List.{List}
use native.Mathlib.Omega.{arith}
use lib.IntN.{ℤ}
use lib.ListN.{length, length-map}
use Rattle.model.specs.declared.Memory.{Memory as StoredMemory}
use Rattle.model.specs.declared.OperatingPart.{OperatingPart}
use Rattle.model.specs.declared.OperatingPart.TheVariants.{Single, Pair}
use Rattle.model.specs.Memory.{System}
use Rattle.model.specs.Stage.{operating_place}
use Rattle.model.specs.Stored.{systems_of, memory_of, FineMemory}
use Rattle.model.proofs.Chains.Frames.{PartHas, enabled_within}
use Rattle.model.proofs.Memories.Fine.{fine_of}
use Rattle.model.proofs.Shape.{shaped_count, systems_of_count}
use Rattle.chains.specs.Flat.{preds_of}
use Rattle.chains.specs.Frames.{framed, frames_of}
use Rattle.chains.specs.Walk.{Walk, walked, undone_of, Walkable, Laid, Enough, Near}
use Rattle.chains.proofs.Reaching.{walked_near, walked_undone}
use Rattle.chains.proofs.Ready.{walkable, ready, ready_at, ready_walk}

-- preds are the flat links, and the offsets and turns lie beside them
pub record FlatOf (m : StoredMemory) (preds : List ℕ) (offsets : List ℤ) (turns : List ℕ) : Type 0 where
  pub good : FineMemory m
  pub long : length m.systems ≡ 16
  pub links : preds ≡ preds_of (systems_of m)
  pub frames : framed offsets turns (preds_of (systems_of m)) ≡ frames_of (systems_of m)
  pub wide : length offsets ≡ 48
  pub broad : length turns ≡ 48

module _ {m : StoredMemory} {preds : List ℕ} {offsets : List ℤ} {turns : List ℕ} (flat : FlatOf m preds offsets turns) where
  can : Walkable (systems_of m)
  can = walkable (memory_of m) flat.good.formed

  as_many : length (systems_of m) ≡ m.count
  as_many = systems_of_count m flat.good.shape flat.long

  pub held : m.count ≤ 16
  held = shaped_count m flat.good.shape

  pub taken : m.count ≡ length preds
  taken = omega (arith, as_many, ap length flat.links, length-map (systems_of m) (λ (s : System). s.pred))

  pub can_walk : Laid offsets turns preds
  can_walk =
      let f = held in
      ready (systems_of m) can offsets turns preds flat.links flat.frames (omega (arith, as_many, flat.wide)) (omega (arith, as_many, flat.broad))

  pub deep_enough : (q : ℕ) → q ≤ m.count → Enough (framed offsets turns preds) q 16
  deep_enough q h = ready_at (systems_of m) can offsets turns preds flat.links flat.frames q (omega (arith, as_many))

  -- what the flat numbers lead to is what the memory's own chains lead to
  pub flat_walk : (q : ℕ) → walked (framed offsets turns preds) q ≡ walked (systems_of m) q
  flat_walk q = ready_walk (systems_of m) can offsets turns preds flat.links flat.frames q

  -- and no farther off
  pub walk_near : (q : ℕ) → q ≤ m.count → {w : Walk} → w ≡ walked (systems_of m) q → Near w
  walk_near q h e = subst Near (sym e) (walked_near (systems_of m) can q (omega (arith, as_many)))

  pub undone_near : (q : ℕ) → q ≤ m.count → {w : Walk} → w ≡ undone_of (walked (systems_of m) q) → Near w
  undone_near q h e = subst Near (sym e) (walked_undone (systems_of m) can q (omega (arith, as_many)))

-- the enabled operating system, or the work half of a pair, stands at a place of the memory
pub operating_there : (m : StoredMemory) → FineMemory m → length m.systems ≡ 16 → operating_place m.enabled.operating ≤ m.count
operating_there m fine long =
    let places = enabled_within (memory_of m) (fine_of (memory_of m) fine.formed) in
    omega (arith, systems_of_count m fine.shape long, part m.enabled.operating places.operating)
  where
    part : (o : OperatingPart) → PartHas (λ q. q ≤ length (systems_of m)) o → operating_place o ≤ length (systems_of m)
    part (Single p) h = h
    part (Pair w t) h = h.0
