-- What a well-formed stored memory gives the writers.
use Prim.Native.Nat.{ℕ, zero, suc, ◌≤◌, ◌<◌}
use mathlib.Core.Path.{◌≡◌, refl, ap}
use mathlib.Core.Bool.{true}
use mathlib.Core.List.{List}
use native.Mathlib.Omega.{arith}
use native.Mathlib.Decide.{dec_lt}
use borrow.Author.Tests.{leb-true}
use lib.ListN.{length, take, get_or, length-take}
use Rattle.std.proofs.lemmas.List.{get_or-take}
use Rattle.model.specs.Limits.{name_limit, offset_limit}
use Rattle.model.specs.Memory.{System, system_at}
use Rattle.model.specs.Stored.{system_of, systems_of, memory_of, memory_shaped}
use Rattle.model.specs.WellFormed.{turns_fine, memory_fine}
use Rattle.model.proofs.Memories.Fine.{Systems, own_of, fine_of, preds_within, blank_beyond}
use Rattle.pose.specs.Poses.{reach}
use Rattle.pose.proofs.Bounds.{within_more}
use Rattle.chains.proofs.Copies.{unset}
use Rattle.chains.proofs.Laid.{stored_at}
use Rattle.chains.proofs.Ready.{walkable}
use Rattle.model.proofs.Shape.{shaped_count, shaped_at, systems_of_count}
use Rattle.reply.specs.Types.{StoredMemory}
use Rattle.reply.specs.Lines.{Writable}

-- ---- the turns of a system

-- where no system stands, there is no turn
pub turns_at : (l : List System) → Systems l → (k : ℕ) → turns_fine (system_at l k).turns ≡ true
unfolding system_at
turns_at l f zero = refl
turns_at l f (suc i) = go (dec_lt (length l) (suc i))
  where
    go : Dec (length l < suc i) → turns_fine (system_at l (suc i)).turns ≡ true
    go (yes h) = rw (blank_beyond l (suc i) h) refl
    go (no h) = (own_of (system_at l (suc i)) (f.own (suc i) (omega arith, omega arith))).turns

-- ---- a memory with shape that is well formed; long is what owning it tells

module _ (m : StoredMemory) (shaped : memory_shaped m ≡ true) (long : length m.systems ≡ 16) where
  -- so many systems are lent, as they stand in the array
  pub lent_count : length (take m.count m.systems) ≡ m.count
  lent_count = omega (arith, length-take m.count m.systems, shaped_count m shaped, long)

  pub lent_at : (i : ℕ) → i < m.count → get_or (take m.count m.systems) i unset ≡ get_or m.systems i unset
  lent_at i h = get_or-take m.count m.systems i unset h

  pub name_fits : (i : ℕ) → i < m.count → (get_or m.systems i unset).name.len ≤ name_limit
  name_fits i h =
      leb-true _ name_limit (shaped_at m shaped unset i h (omega (arith, shaped_count m shaped)))

  -- the system at a place is the stored one before it
  pub stands_at : (i : ℕ) → i < m.count → system_at (systems_of m) (suc i) ≡ system_of (get_or m.systems i unset)
  unfolding system_at
  stands_at i h = stored_at m.systems m.count i h

  module _ (fine : memory_fine (memory_of m) ≡ true) where
    pub pred_fits : (i : ℕ) → i < m.count → (get_or m.systems i unset).pred ≤ m.count
    pred_fits i h =
        let p = preds_within (fine_of (memory_of m) fine).systems (suc i) in
        omega (arith, p, ap (λ (s : System). s.pred) (stands_at i h), systems_of_count m shaped long)

    pub writable : (i : ℕ) → i < m.count → Writable (get_or m.systems i unset)
    writable i h =
        let s = get_or m.systems i unset in
        let f = (fine_of (memory_of m) fine).systems in
        let w = (walkable (memory_of m) fine).offsets (suc i) in
        record {
          name_fits = name_fits i h;
          offsets_fit = within_more offset_limit reach s.offset (omega arith) (rw (stands_at i h) at w);
          turns_fit = rw (stands_at i h) at (turns_at (systems_of m) f (suc i));
        }
