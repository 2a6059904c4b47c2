-- Own offsets and turns laid flat, three numbers to a system, and the systems that flat numbers stand for.
use Rattle.std.specs.Prelude.{ℕ, ◌+◌, ◌*◌, List, [], map, ℤ, pos, length, get_or}
use Rattle.model.specs.declared.Kind.TheVariants.{Ksd}
use Rattle.model.specs.declared.Vec3.{Vec3}
use Rattle.model.specs.declared.Turns.{Turns}
use Rattle.model.specs.Lists.{table}
use Rattle.model.specs.Memory.{System}

-- the offsets and the turns of system i, counted from 0
abbrev pub offset_at : List ℤ → ℕ → Vec3
offset_at xs i = record { x = get_or xs (i * 3) (pos 0); y = get_or xs (i * 3 + 1) (pos 0); z = get_or xs (i * 3 + 2) (pos 0) }

abbrev pub turns_at : List ℕ → ℕ → Turns
turns_at ts i = record { u = get_or ts (i * 3) 0; v = get_or ts (i * 3 + 1) 0; w = get_or ts (i * 3 + 2) 0 }

-- a system of which no more is told than its frame: offsets, turns, predecessor
abbrev pub frame : Vec3 → Turns → ℕ → System
frame t u p = record { kind = Ksd; name = []; offset = t; turns = u; pred = p }

abbrev pub frame_of : System → System
frame_of s = frame s.offset s.turns s.pred

abbrev pub frames_of : List System → List System
frames_of l = map frame_of l

-- as many systems as there are predecessors
unfoldable pub framed : List ℤ → List ℕ → List ℕ → List System
framed xs ts ps = table (length ps) (λ i. frame (offset_at xs i) (turns_at ts i) (get_or ps i 0))
