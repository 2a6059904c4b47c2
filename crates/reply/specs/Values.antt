-- Own values and resultants as text, by parts.
use Rattle.std.specs.Prelude.{◌++◌}
use Rattle.model.specs.Base.{ℕ, List}
use Rattle.reply.specs.Types.{Vec3, Turns, Group, Operating, Orientational, Levelling}
use Rattle.model.specs.Ascii.{ascii}
use Rattle.model.specs.Reply.{value, degrees}

-- one of three, by the group
abbrev pub by_group : Group → List ℕ → List ℕ → List ℕ → List ℕ
by_group Operating a b c = a
by_group Orientational a b c = b
by_group Levelling a b c = c

-- X= to Z=, each after a space
unfoldable pub offsets_text : Vec3 → List ℕ
offsets_text t = (ascii " X=" ++ value t.x) ++ ((ascii " Y=" ++ value t.y) ++ (ascii " Z=" ++ value t.z))

-- U= to W=
unfoldable pub turns_text : Turns → List ℕ
turns_text r = (ascii " U=" ++ degrees r.u) ++ ((ascii " V=" ++ degrees r.v) ++ (ascii " W=" ++ degrees r.w))
