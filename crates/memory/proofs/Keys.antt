-- Keys of names: names with different keys differ.
use Prim.Native.Nat.{ℕ, ◌<◌}
use mathlib.Core.Path.{◌≡◌, sym, ap, ◌∙◌}
use mathlib.Core.Bool.{false}
use mathlib.Core.List.{List}
use mathlib.Core.Logic.{⊎_elim}
use native.Mathlib.Omega.{arith}
use lib.ListN.{length, take, get_or}
use lib.Seq.{get_or-take}
use Rattle.model.specs.Lists.{same}
use Rattle.model.specs.Memory.{System, blank}
use Rattle.model.proofs.Basics.{either, same→≡}
use Rattle.memory.specs.Keys.{key_of, keys_of}
use Rattle.memory.proofs.Laws.{mapped_at}

-- names with different keys differ
pub keys_apart : (s t : List ℕ) → (key_of s ≡ key_of t → ⊥) → same s t ≡ false
keys_apart s t h = ⊎_elim (λ e. absurd (h (ap key_of (same→≡ s t e)))) (λ e. e) (either (same s t))

-- the key at an index of the array
pub key_at : (l : List System) (keys : List ℕ) (k i : ℕ) → take k keys ≡ keys_of l → length l ≡ k → i < k → get_or keys i 0 ≡ key_of (get_or l i blank).name
key_at l keys k i e n h = sym (get_or-take k keys i 0 h) ∙ ap (λ (t : List ℕ). get_or t i 0) e ∙ mapped_at (λ (s : System). key_of s.name) l i (omega arith)
