use Rattle.std.proofs.Common.{ℕ, ◌≡◌, ◌≤◌, length, take, get_or, true}
use mathlib.Core.List.{map}
use Rattle.model.specs.Limits.{max_systems}
use Rattle.model.specs.Lists.{all}
use Rattle.model.specs.Stored.{system_of, systems_of, name_shaped, memory_shaped}
use Rattle.model.proofs.Edits.Removal.{without}
use Rattle.chains.proofs.Copies.{unset}
use Rattle.memory.proofs.edit.removed_at.Given as goal

-- before index i lies what is to lie there; from it on all is as it was
abbrev pub invariant-loop-i : goal.invariant-loop-i
invariant-loop-i l =
    (length l.r.systems ≡ max_systems) × (map system_of (take l.i l.r.systems) ≡ take l.i (without (systems_of l.initial.r) l.place)) ×
    (memory_shaped l.initial.r ≡ true → all name_shaped (take l.i l.r.systems) ≡ true) ×
    ((j : ℕ) → l.i ≤ j → get_or l.r.systems j unset ≡ get_or l.initial.r.systems j unset) × (l.r.enabled ≡ l.initial.r.enabled)
