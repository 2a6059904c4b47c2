-- A number that names with the same bytes share: the length, the first byte and the last.
use Rattle.std.specs.Prelude.{◌+◌, ◌*◌, ◌-◌}
use Rattle.model.specs.Base.{ℕ, List, map, length, get_or}
use Rattle.model.specs.Memory.{System}

abbrev pub key_of : List ℕ → ℕ
key_of t = length t + 256 * get_or t 0 0 + 65536 * get_or t (length t - 1) 0

abbrev pub keys_of : List System → List ℕ
keys_of l = map (λ (s : System). key_of s.name) l
