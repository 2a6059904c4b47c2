-- The bytes of a stored system, part after part as they are written.
use Prim.Native.Nat.{◌≤◌}
use mathlib.Core.Path.{◌≡◌}
use mathlib.Core.List.{[], ◌∷◌, ◌++◌}
use native.Mathlib.Omega.{arith}
use lib.ListN.{length}
use lib.Seq.{length-take-le}
use Rattle.model.specs.Limits.{name_limit}
use Rattle.model.specs.declared.System.{System as StoredSystem}
use Rattle.model.specs.Lists.{joined}
use Rattle.model.specs.Kinds.{of_kind}
use Rattle.model.specs.Image.{signed_code, numbers, system_bytes}
use Rattle.model.specs.Stored.{bytes_of, system_of}

pub system_parts : (s : StoredSystem) → length s.name.bytes ≡ name_limit → s.name.len ≤ name_limit
    → system_bytes (system_of s)
    ≡ numbers ((of_kind s.kind).code ∷ s.name.len ∷ [])
    ++ (bytes_of s.name
    ++ (numbers (signed_code s.offset.x ∷ signed_code s.offset.y ∷ signed_code s.offset.z ∷ [])
    ++ (numbers (s.turns.u ∷ s.turns.v ∷ s.turns.w ∷ s.pred ∷ []) ++ [])))
unfolding system_bytes joined
system_parts s l g =
    let n : length (bytes_of s.name) ≡ s.name.len = length-take-le s.name.len s.name.bytes (omega arith) in
    rw n
