-- Document 02 §2 by examples: the systems looked at, and the answers to the question of use, in states that a few lines lead to.
use Prim.Native.String.{String}
use Rattle.std.specs.Prelude.{◌≡◌, ◌∷◌}
use Rattle.model.specs.Base.{ℕ, List, [], map, true, false}
use Rattle.model.specs.Ascii.{ascii}
use Rattle.model.specs.Memory.{State}
use Rattle.model.specs.Use.{names_looked_at}
use Rattle.model.specs.Machine.{Usage, ask_use, start_factory}
use Rattle.model.specs.Sessions.{run}

-- an answer
abbrev pub used : ℕ → Usage
used k = record { number = 0; used = true; looked = k }

abbrev pub unused : ℕ → Usage
unused k = record { number = 0; used = false; looked = k }

-- the answers for some names
abbrev pub answers : State → List String → List Usage
answers st names = map (λ (n : String). ask_use st (ascii n)) names

-- W on V is the work half and T on S the tool, with O on N and L on K in the other groups; F hangs on W and is not in use
abbrev pub every_group : State
every_group = run start_factory
    ("CCL 1 ADVANCED" ∷ "KSW V" ∷ "KSW W" ∷ "KLN W V" ∷ "KST S" ∷ "KST T" ∷ "KLN T S" ∷ "KSB N" ∷ "KSB O" ∷ "KLN O N" ∷ "KLD K" ∷ "KLD L" ∷ "KLN L K"
    ∷ "KSW F" ∷ "KLN F W" ∷ "KEN T" ∷ "KEN W" ∷ "KEN O" ∷ "KEN L" ∷ [])

-- T is the tool, with the substitute ZERO for a work half
abbrev pub tool_alone : State
tool_alone = run start_factory ("KST T" ∷ "KSW W" ∷ "KEN T" ∷ [])

-- A was saved while it was enabled, and is no longer
abbrev pub enabled_when_saved : State
enabled_when_saved = run start_factory ("KSD A" ∷ "KEN A" ∷ "WPA SKS" ∷ "KEN ZERO" ∷ [])

pub record OfUse : Type 0 where
  -- [02 §2] in the factory state three are looked at; HEXAPOD is no system, and bytes count as they are
  pub factory_state : answers start_factory ("ZERO" ∷ "PI_BASE" ∷ "PI_LEVELLING" ∷ "A" ∷ "HEXAPOD" ∷ "zero" ∷ "" ∷ [])
      ≡ used 1 ∷ used 2 ∷ used 3 ∷ unused 3 ∷ unused 3 ∷ unused 3 ∷ unused 3 ∷ []
  -- [02 §2] work before tool, each with its chain; the second ZERO is looked at again
  pub looks : names_looked_at every_group.volatile
      ≡ map ascii ("W" ∷ "V" ∷ "ZERO" ∷ "T" ∷ "S" ∷ "ZERO" ∷ "O" ∷ "N" ∷ "PI_BASE" ∷ "L" ∷ "K" ∷ "PI_LEVELLING" ∷ [])
  -- [02 §2] up to and with the first place, or all
  pub stops : answers every_group ("W" ∷ "V" ∷ "ZERO" ∷ "T" ∷ "S" ∷ "O" ∷ "N" ∷ "PI_BASE" ∷ "L" ∷ "K" ∷ "PI_LEVELLING" ∷ "F" ∷ "v" ∷ [])
      ≡ used 1 ∷ used 2 ∷ used 3 ∷ used 4 ∷ used 5 ∷ used 7 ∷ used 8 ∷ used 9 ∷ used 10 ∷ used 11 ∷ used 12 ∷ unused 12 ∷ unused 12 ∷ []
  -- [02 §2] a substitute counts as one
  pub substitute : answers tool_alone ("ZERO" ∷ "T" ∷ "PI_BASE" ∷ "W" ∷ []) ≡ used 1 ∷ used 2 ∷ used 4 ∷ unused 5 ∷ []
  -- [02 §2] the volatile memory is asked
  pub volatile : answers enabled_when_saved ("A" ∷ []) ≡ unused 3 ∷ []
