-- The parts in which the code judges a memory.
use Rattle.std.specs.Prelude.{◌&&◌}
use Rattle.model.specs.Base.{List, Bool, take}
use Rattle.model.specs.declared.System.{System as StoredSystem}
use Rattle.model.specs.declared.Memory.{Memory as StoredMemory}
use Rattle.model.specs.Lists.{all}
use Rattle.model.specs.Memory.{System}
use Rattle.model.specs.WellFormed.{system_fine}
use Rattle.model.specs.Stored.{system_of, systems_of, name_shaped}

-- a stored system of a memory: its shape, and what it stands for
unfoldable pub stored_fine : List System → StoredSystem → Bool
stored_fine l s = name_shaped s && system_fine l (system_of s)

-- every stored system of a memory
unfoldable pub stored_all_fine : StoredMemory → Bool
stored_all_fine m = all (stored_fine (systems_of m)) (take m.count m.systems)
