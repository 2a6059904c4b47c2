-- One system seen from another: the names at two places of a stored memory, and the line of the one seen from the other.
use Prim.Native.Nat.{ℕ, zero, suc, ◌+◌, ◌-◌, ◌≤◌, ◌<◌}
use mathlib.Core.Path.{◌≡◌, refl, sym, ap, subst}
use native.Mathlib.Omega.{arith}
use lib.ListN.{length, get_or}
use Rattle.model.specs.Limits.{name_limit, buffer_limit}
use Rattle.model.specs.Memory.{System, name_of}
use Rattle.model.specs.Chain.{pose_in}
use Rattle.model.specs.Use.{in_group}
use Rattle.model.specs.Reply.{pose_line, relative_line}
use Rattle.model.specs.Stored.{bytes_of, systems_of, memory_of, FineMemory}
use Rattle.model.proofs.Memories.Fine.{fine_of}
use Rattle.model.proofs.Shape.{shaped_count, systems_of_count}
use Rattle.pose.specs.Poses.{Within, reach}
use Rattle.pose.proofs.Bounds.{within_more}
use Rattle.chains.specs.Walk.{farthest_apart, Walk}
use Rattle.chains.proofs.Copies.{unset}
use Rattle.chains.proofs.Reaching.{seen_far}
use Rattle.chains.proofs.Ready.{walkable}
use Rattle.reply.specs.Types.{Group, StoredMemory}
use Rattle.reply.specs.Lines.{name_text, resultant_text}
use Rattle.reply.specs.Reached.{walk_text, seen_walk, relative_text}
use Rattle.reply.proofs.ShortLaws.{relative_short}
use Rattle.reply.proofs.StoredLaws.{name_fits, stands_at}

module _ (m : StoredMemory) (good : FineMemory m) (long : length m.systems ≡ 16) where
  -- a place, and the index at which its system is stored
  module _ (p i : ℕ) (is : i ≡ p - 1) (h : p ≤ m.count) where
    pub in_array : i < 16
    in_array = omega (arith, is, h, shaped_count m good.shape)

    pub name_room : 0 < p → (get_or m.systems i unset).name.len ≤ name_limit
    name_room some = name_fits m good.shape long i (omega (arith, is, h))

  pub name_at : (g : Group) (p i : ℕ) → i ≡ p - 1 → p ≤ m.count → name_text g p (bytes_of (get_or m.systems i unset).name) ≡ name_of (systems_of m) (in_group g p)
  unfolding name_of
  name_at g zero i is h = refl
  name_at g (suc k) i is h =
      let e : i ≡ k = omega (arith, is) in
      rw e (sym (ap (λ (s : System). s.name) (stands_at m good.shape long k (omega (arith, h)))))

  -- two places, and what was reached at the one, seen from the other
  module _ (g : Group) (a b : ℕ) {w : Walk} (ha : a ≤ m.count) (hb : b ≤ m.count) (e : w ≡ seen_walk (systems_of m) a b) where
    many : length (systems_of m) ≡ m.count
    many = systems_of_count m good.shape long

    pub seen_near : Within reach w.pose.at
    seen_near =
        let far = seen_far (systems_of m) (walkable (memory_of m) good.formed) a b (omega (arith, many)) (omega (arith, many)) in
        subst (λ (v : Walk). Within reach v.pose.at) (sym e) (within_more farthest_apart reach (pose_in (systems_of m) a b).at (omega arith) far)

    pub relative_fits : length (relative_line (systems_of m) (in_group g a) (in_group g b)) + 1 ≤ buffer_limit
    relative_fits =
        omega (arith, relative_short (systems_of m) (fine_of (memory_of m) good.formed).systems (walkable (memory_of m) good.formed) (in_group g a) (in_group g b) (omega (arith, many)) (omega (arith, many)))

    pub relative_is : (i j : ℕ) → i ≡ a - 1 → j ≡ b - 1 →
        relative_line (systems_of m) (in_group g a) (in_group g b) ≡ relative_text g a (get_or m.systems i unset).name b (get_or m.systems j unset).name w
    unfolding relative_line pose_line resultant_text
    relative_is i j is js = sym (λ d. walk_text (name_at g a i is ha d) (name_at g b j js hb d) (e d))
