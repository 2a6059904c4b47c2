-- Document 01, "Empty programs": stored values, by examples.
use Rattle.std.specs.Prelude.{◌≡◌, ◌∷◌}
use Rattle.model.specs.Base.{ℕ, [], pos, negsuc, replicate, false}
use Rattle.model.specs.Types.{Ksd, Kst, Enabled, Pair, Position, Name, StoredSystem, StoredMemory, StoredState}
use Rattle.model.specs.Ascii.{ascii}
use Rattle.model.specs.Pose.{origin}
use Rattle.model.specs.Memory.{System, Memory, factory, started, zero_position, no_turn}
use Rattle.model.specs.Machine.{answered}
use Rattle.model.specs.Stored.{shapeless, holds, view_of, of_outcome, line_answer, image_answer, restart_answer, use_answer}
use Rattle.model.specs.Sessions.{lent, at}

-- A as it is stored, with this byte behind its name
abbrev pub stored_name : ℕ → Name
stored_name free = record { bytes = 65 ∷ replicate 15 free; len = 1 }

-- all places taken by systems of one name, so many of them counted
abbrev pub stored_memory : Name → ℕ → StoredMemory
stored_memory n count =
    record { systems = replicate 16 (record { kind = Ksd; name = n; offset = origin; turns = no_turn; pred = 0 }); count = count; enabled = factory.enabled }

abbrev pub stored_state : StoredMemory → StoredMemory → StoredState
stored_state v p = record { volatile = v; permanent = p; position = zero_position; level = 0; error = 0 }

-- a memory with A alone; one whose count and one whose name goes beyond its array
abbrev pub fit : StoredMemory
fit = stored_memory (stored_name 66) 1

abbrev pub miscounted : StoredMemory
miscounted = stored_memory (stored_name 66) 17

abbrev pub overnamed : StoredMemory
overnamed = stored_memory (record { bytes = replicate 16 65; len = 17 }) 1

-- A alone
abbrev pub only_a : Memory
only_a = record { systems = record { kind = Ksd; name = ascii "A"; offset = origin; turns = no_turn; pred = 0 } ∷ []; enabled = factory.enabled }

-- T with values that all differ, as it is stored and as it is; and places of which no two are the same
abbrev pub stored_t : StoredSystem
stored_t =
    record {
      kind = Kst;
      name = record { bytes = 84 ∷ replicate 15 66; len = 1 };
      offset = record { x = pos 10; y = pos 20; z = negsuc 30 };
      turns = record { u = 1; v = 2; w = 3 };
      pred = 4;
    }

abbrev pub only_t : System
only_t = record { kind = Kst; name = ascii "T"; offset = record { x = pos 10; y = pos 20; z = negsuc 30 }; turns = record { u = 1; v = 2; w = 3 }; pred = 4 }

abbrev pub pair_of : Enabled
pair_of = record { operating = Pair 5 6; orientational = 7; levelling = 8 }

-- a position of which no two values are the same
abbrev pub somewhere : Position
somewhere = at (pos 11) (pos 12) (negsuc 13) (pos 14) (negsuc 15) (pos 16)

pub record OfStorage : Type 0 where
  -- [Memory 2, 4] a stored state stands for its parts
  pub parts : view_of (record { volatile = stored_memory (stored_name 66) 0; permanent = record { systems = replicate 16 stored_t; count = 1; enabled = pair_of }; position = somewhere; level = 1; error = 5 })
      ≡ holds (record { volatile = factory; permanent = record { systems = only_t ∷ []; enabled = pair_of }; position = somewhere; level = 1; error = 5 })
  -- [Empty programs, end] what lies behind a name or behind the last system is free
  pub free : view_of (stored_state fit fit) ≡ holds (started only_a)
  pub free_zero : view_of (stored_state (stored_memory (stored_name 0) 1) fit) ≡ holds (started only_a)
  pub answered_as : line_answer (holds (started only_a)) (ascii "KLN?") (lent 4096)
      ≡ of_outcome (answered (started only_a) (ascii "ZERO=ZERO \nPI_BASE=HEXAPOD \nPI_LEVELLING=HEXAPOD \nA=ZERO\n") (lent 4096))
  -- [Error 1] a count or a length beyond its array, in either memory: the state and the buffer come back as they were, from every call; the question of use has no answer
  pub count_beyond : line_answer (view_of (stored_state miscounted fit)) (ascii "KLN?") (lent 4096)
      ≡ record { state = shapeless (stored_state miscounted fit); number = 1; count = 0; buffer = lent 4096 }
  pub length_beyond : line_answer (view_of (stored_state fit overnamed)) (ascii "KLN?") (lent 4096)
      ≡ record { state = shapeless (stored_state fit overnamed); number = 1; count = 0; buffer = lent 4096 }
  pub no_image : image_answer (view_of (stored_state fit miscounted)) (lent 4096)
      ≡ record { state = shapeless (stored_state fit miscounted); number = 1; count = 0; buffer = lent 4096 }
  pub no_restart : restart_answer (view_of (stored_state overnamed fit)) ≡ record { state = shapeless (stored_state overnamed fit); number = 1 }
  pub no_answer : use_answer (view_of (stored_state miscounted fit)) (ascii "ZERO") ≡ record { number = 1; used = false; looked = 0 }
