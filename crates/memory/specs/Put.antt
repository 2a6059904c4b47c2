-- Edits at a place that is known, once the name has been looked up.
use Rattle.std.specs.Prelude.{◌+◌, ◌-◌, ◌∷◌, ◌++◌}
use Rattle.model.specs.Base.{ℕ, List, [], cond, ltb, set}
use Rattle.model.specs.declared.Enabled.{Enabled}
use Rattle.model.specs.Memory.{System, Memory}
use Rattle.model.specs.Effects.{with_systems}

-- place 0 is that of a new name, which goes last
unfoldable pub put_at : Memory → ℕ → System → Memory
put_at m place s = cond (ltb 0 place) (with_systems m (set m.systems (place - 1) s)) (with_systems m (m.systems ++ (s ∷ [])))

-- the memory of these systems, where this is enabled
abbrev pub holding : List System → Enabled → Memory
holding l e = record { systems = l; enabled = e }

-- the index of the system that comes to index i once the one at the hole is gone
abbrev pub kept_at : ℕ → ℕ → ℕ
kept_at hole i = cond (ltb i hole) i (i + 1)
