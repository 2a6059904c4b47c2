-- Shape is kept where a system with shape is stored.
use Prim.Native.Nat.{ℕ, zero, suc, ◌+◌, ◌<◌}
use mathlib.Core.Path.{◌≡◌, refl}
use mathlib.Core.List.{List, [], ◌∷◌}
use mathlib.Core.Bool.{Bool, true}
use native.Mathlib.Omega.{arith}
use native.Mathlib.Decide.{dec_lt}
use native.Mathlib.Numerals.{add-one}
use borrow.Author.Tests.{le-leb}
use lib.ListN.{length, take, set}
use lib.Seq.{take-set-lt, take-set-le, take-suc-set}
use Rattle.model.specs.Limits.{max_systems}
use Rattle.model.specs.declared.System.{System as StoredSystem}
use Rattle.model.specs.declared.Memory.{Memory as StoredMemory}
use Rattle.model.specs.declared.State.{State as StoredState}
use Rattle.model.specs.Lists.{all}
use Rattle.model.specs.Stored.{name_shaped, memory_shaped, shaped}
use Rattle.model.proofs.Basics.{and_split, and_join, all_append}
use Rattle.model.proofs.Shape.{shaped_count, shaped_names}

module _ {A : Type 0} (p : A → Bool) (a : A) (pa : p a ≡ true) where
  all_set : (l : List A) (i : ℕ) → all p l ≡ true → all p (set l i a) ≡ true
  unfolding all
  all_set [] i e = refl
  all_set (x ∷ l) zero e = and_join pa (and_split (p x) (all p l) e).1
  all_set (x ∷ l) (suc i) e = let s = and_split (p x) (all p l) e in and_join s.0 (all_set l i s.1)

  all_take_set : (l : List A) (n i : ℕ) → all p (take n l) ≡ true → all p (take n (set l i a)) ≡ true
  all_take_set l n i e = go (dec_lt i n)
    where
      go : Dec (i < n) → all p (take n (set l i a)) ≡ true
      go (yes h) = rw (take-set-lt n l i a h) (all_set (take n l) i e)
      go (no h) = rw (take-set-le n l i a (omega arith)) e

  -- one more at the end of those that pass
  pub all_more : (l : List A) (n : ℕ) → n < length l → all p (take n l) ≡ true → all p (take (n + 1) (set l n a)) ≡ true
  unfolding all
  all_more l n h e = rw (add-one, take-suc-set l n a, all_append p (take n l) (a ∷ [])) (and_join e (and_join pa refl))

module _ (m : StoredMemory) (e : memory_shaped m ≡ true) (s : StoredSystem) (es : name_shaped s ≡ true) where
  pub shaped_set : (i : ℕ) → memory_shaped (record { systems = set m.systems i s; count = m.count; enabled = m.enabled }) ≡ true
  unfolding memory_shaped
  shaped_set i = and_join (le-leb m.count max_systems (shaped_count m e)) (all_take_set name_shaped s es m.systems m.count i (shaped_names m e))

  pub shaped_more : m.count < max_systems → m.count < length m.systems
      → memory_shaped (record { systems = set m.systems m.count s; count = m.count + 1; enabled = m.enabled }) ≡ true
  unfolding memory_shaped
  shaped_more h k = and_join (le-leb (m.count + 1) max_systems (omega arith)) (all_more name_shaped s es m.systems m.count k (shaped_names m e))

-- ---- a state

pub shape_both : (s : StoredState) → memory_shaped s.volatile ≡ true → memory_shaped s.permanent ≡ true → shaped s ≡ true
unfolding shaped
shape_both s v p = and_join v p

pub shape_parts : (s : StoredState) → shaped s ≡ true → (memory_shaped s.volatile ≡ true) × (memory_shaped s.permanent ≡ true)
unfolding shaped
shape_parts s e = and_split (memory_shaped s.volatile) (memory_shaped s.permanent) e
