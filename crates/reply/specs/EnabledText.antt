-- KEN? by its parts: the first line, the tool's if there is one, and the other two groups'.
use Rattle.model.specs.Base.{ℕ, List, []}
use Rattle.std.specs.Prelude.{◌≤◌, ◌<◌, ◌++◌}
use Rattle.model.specs.Ascii.{ascii}
use Rattle.model.specs.Limits.{name_limit}
use Rattle.model.specs.Memory.{System}
use Rattle.reply.specs.Types.{Operating, Orientational, Levelling, Enabled, OperatingPart, Single, Pair, StoredSystem}
use Rattle.reply.specs.Lines.{further, enabled_text}

-- the tool's line, where a pair is enabled; s is the tool if it is a user system
unfoldable pub tool_text : OperatingPart → System → List ℕ
tool_text (Single p) s = []
tool_text (Pair w t) s = further (enabled_text Operating t s)

-- the lines of the other two groups and the end of the last
unfoldable pub groups_text : Enabled → System → System → List ℕ
groups_text e o l =
    further (enabled_text Orientational e.orientational o) ++ (further (enabled_text Levelling e.levelling l) ++ ascii "\n")

-- the names of those that are user systems can be written
pub record GroupsFit (e : Enabled) (o l : StoredSystem) : Type 0 where
  pub orientational_fits : 0 < e.orientational → o.name.len ≤ name_limit
  pub levelling_fits : 0 < e.levelling → l.name.len ≤ name_limit
