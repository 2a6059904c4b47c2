-- The parts in which the code judges a memory make up the definition.
use Prim.Native.Nat.{◌<◌, ◌≤◌}
use mathlib.Core.Path.{◌≡◌, refl, sym}
use mathlib.Core.List.{List, [], ◌∷◌, map}
use mathlib.Core.Bool.{Bool, true, false, ◌&&◌, ◌||◌}
use native.Mathlib.Omega.{arith}
use borrow.Author.Tests.{le-leb, lt-leb}
use lib.Dec.{leb, eqb}
use lib.ListN.{length, take, length-map, length-take}
use Rattle.model.specs.Limits.{max_systems}
use Rattle.model.specs.declared.Memory.{Memory as StoredMemory}
use Rattle.model.specs.declared.State.{State as StoredState}
use Rattle.model.specs.Lists.{all}
use Rattle.model.specs.Refusals.{of_line?}
use Rattle.model.specs.Chain.{no_ring}
use Rattle.model.specs.Stage.{position_fine}
use Rattle.model.specs.WellFormed.{system_fine, names_differ, enabled_fine, memory_fine, well_formed}
use Rattle.model.specs.Stored.{system_of, systems_of, memory_of, state_of, name_shaped, memory_shaped, shaped}
use Rattle.model.proofs.Basics.{and_assoc, and_true, and_false}
use Rattle.memory.specs.Fine.{stored_fine, stored_all_fine}

and_swap : (a b c d : Bool) → (a && b) && (c && d) ≡ (a && c) && (b && d)
and_swap true true c d = refl
and_swap true false true d = refl
and_swap true false false d = refl
and_swap false b c d = refl

-- two tests, one of them of what an element stands for, in one pass
all_both : {A B : Type 0} (p : A → Bool) (q : B → Bool) (f : A → B) (l : List A) → all p l && all q (map f l) ≡ all (λ (x : A). p x && q (f x)) l
unfolding all
all_both p q f [] = refl
all_both p q f (x ∷ l) = rw (and_swap (p x) (all p l) (q (f x)) (all q (map f l)), all_both p q f l)

regroup : (s f n r e : Bool) → s && (((f && n) && r) && e) ≡ ((s && f) && e) && (n && r)
regroup true true true true e = sym (and_true e)
regroup true true true false e = sym (and_false e)
regroup true true false r e = sym (and_false e)
regroup true false n r e = refl
regroup false f n r e = refl

module _ (m : StoredMemory) where
  pub stored_all : all name_shaped (take m.count m.systems) && all (system_fine (systems_of m)) (systems_of m) ≡ stored_all_fine m
  unfolding stored_all_fine stored_fine
  stored_all = all_both name_shaped (system_fine (systems_of m)) system_of (take m.count m.systems)

  pub judged_long : max_systems < m.count → memory_shaped m && memory_fine (memory_of m) ≡ false
  unfolding memory_shaped
  judged_long h = rw (lt-leb m.count max_systems h)

  pub judged : m.count ≤ max_systems → memory_shaped m && memory_fine (memory_of m)
      ≡ (stored_all_fine m && enabled_fine (systems_of m) m.enabled) && (names_differ (systems_of m) && no_ring (systems_of m))
  unfolding memory_shaped memory_fine
  judged h =
      let few : length (systems_of m) ≤ max_systems = simp (length-map, length-take) (omega arith) in
      rw (le-leb m.count max_systems h, le-leb (length (systems_of m)) max_systems few, ← stored_all)
      (regroup (all name_shaped (take m.count m.systems)) (all (system_fine (systems_of m)) (systems_of m)) _ _ _)

rotate : (s f v : Bool) → s && (f && v) ≡ v && (s && f)
rotate true true v = sym (and_true v)
rotate true false v = sym (and_false v)
rotate false f v = sym (and_false v)

-- a stored state: its level and last error, its position, and each memory
pub state_judged : (s : StoredState) → shaped s && well_formed (state_of s)
    ≡ ((leb s.level 1 && (eqb s.error 0 || of_line? s.error)) && position_fine s.position)
    && ((memory_shaped s.volatile && memory_fine (memory_of s.volatile)) && (memory_shaped s.permanent && memory_fine (memory_of s.permanent)))
unfolding shaped well_formed
state_judged s =
    rw (and_assoc (memory_fine (memory_of s.volatile) && memory_fine (memory_of s.permanent)) (leb s.level 1) (eqb s.error 0 || of_line? s.error), and_assoc (memory_fine (memory_of s.volatile) && memory_fine (memory_of s.permanent)) (leb s.level 1 && (eqb s.error 0 || of_line? s.error)) (position_fine s.position), and_swap (memory_shaped s.volatile) (memory_fine (memory_of s.volatile)) (memory_shaped s.permanent) (memory_fine (memory_of s.permanent)))
    (rotate (memory_shaped s.volatile && memory_shaped s.permanent) (memory_fine (memory_of s.volatile) && memory_fine (memory_of s.permanent)) _)
