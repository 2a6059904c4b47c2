-- Document 01, "Error numbers", by examples.
use Rattle.std.specs.Prelude.{◌≡◌, ◌∷◌, ◌++◌}
use Rattle.model.specs.Base.{ℕ, [], map}
use Rattle.model.specs.Types.{Single}
use Rattle.model.specs.Ascii.{ascii}
use Rattle.model.specs.Memory.{Memory, State, factory, zero_position}
use Rattle.model.specs.Machine.{refused, began, stepped, restart, write_image, start_factory, refuses_use, ask_use}
use Rattle.model.specs.Sessions.{answer, replies, taken, number, lent, sent, sixteen, ◌⇒◌, Session}

-- a memory with an enabled KLD that is not there
abbrev pub broken : Memory
broken = record { systems = []; enabled = record { operating = Single 0; orientational = 0; levelling = 1 } }

abbrev pub state_with : Memory → Memory → ℕ → ℕ → State
state_with v p n e = record { volatile = v; permanent = p; position = zero_position; level = n; error = e }

pub record OfNumbers : Type 0 where
  -- [Error 1] a level or an error that cannot be, a memory that is not well formed: all comes back as it was, whatever the line and the buffer
  pub one_level : sent (state_with factory factory 2 5) (ascii "KEN?") ≡ refused (state_with factory factory 2 5) 1 (lent 4096)
  pub one_error : answer (sent (state_with factory factory 0 1) (ascii "KEN?")) ≡ number 1
  pub one_other_error : answer (sent (state_with factory factory 0 14) (ascii "KEN?")) ≡ number 1
  pub one_between : answer (sent (state_with factory factory 0 19) (ascii "KEN?")) ≡ number 1
  pub one_beyond : answer (sent (state_with factory factory 0 21) (ascii "KEN?")) ≡ number 1
  pub one_volatile : stepped (state_with broken factory 0 0) (127 ∷ []) [] ≡ refused (state_with broken factory 0 0) 1 []
  pub one_permanent : answer (sent (state_with factory broken 0 0) (ascii "KEN?")) ≡ number 1
  pub one_restart : restart (state_with broken factory 0 3) ≡ began (state_with broken factory 0 3) 1
  pub one_image : write_image (state_with broken factory 0 3) [] ≡ refused (state_with broken factory 0 3) 1 []
  pub one_use : ask_use (state_with factory broken 0 0) (ascii "ZERO") ≡ refuses_use
  pub last_errors : answer (sent (state_with factory factory 1 13) (ascii "ERR?")) ≡ replies "13\n"
  pub last_fifteen : answer (sent (state_with factory factory 0 15) (ascii "ERR?")) ≡ replies "15\n"
  pub last_twenty : answer (sent (state_with factory factory 1 20) (ascii "ERR?")) ≡ replies "20\n"
  -- [Error 2] 4,095 bytes are too few, for a line and for an image; it comes before 3
  pub two : stepped start_factory (ascii "KEN?") (lent 4095) ≡ refused (state_with factory factory 0 2) 2 (lent 4095)
  pub two_image : write_image start_factory (lent 4095) ≡ refused start_factory 2 (lent 4095)
  pub two_first : answer (stepped start_factory (127 ∷ []) (lent 4095)) ≡ number 2
  -- [Error 7] who must exist
  pub seven : Session (
      "KSD A" ⇒ taken ∷ "KLN A N" ⇒ number 7 ∷ "KLN N A" ⇒ number 7 ∷ "KCP N A" ⇒ number 7 ∷ "KRM N" ⇒ number 7 ∷ "KEN N" ⇒ number 7 ∷ "KLT? N" ⇒ number 7
      ∷ "KCP A N" ⇒ taken ∷ [])
  -- [Error 8] who must be a user system, and who may be a fixed one
  pub eight : Session (
      "KSD A" ⇒ taken ∷ "KSD ZERO" ⇒ number 8 ∷ "KLN ZERO A" ⇒ number 8 ∷ "KCP ZERO A" ⇒ number 8 ∷ "KCP A ZERO" ⇒ number 8 ∷ "KCP A HEXAPOD" ⇒ number 8
      ∷ "KRM ZERO" ⇒ number 8 ∷ "KLN A ZERO" ⇒ taken ∷ "KEN ZERO" ⇒ taken ∷ [])
  -- [Error 9] what level 0 shuts, and what it does not
  pub nine : Session (
      "CCL 1 ADVANCED" ⇒ taken ∷ "KSB B" ⇒ taken ∷ "KLD L" ⇒ taken ∷ "CCL 0" ⇒ taken ∷ "KSB N" ⇒ number 9 ∷ "KLD N" ⇒ number 9
      ∷ "KLN B PI_BASE" ⇒ number 9 ∷ "KLN L PI_LEVELLING" ⇒ number 9 ∷ "KCP B N" ⇒ number 9 ∷ "KCP L N" ⇒ number 9 ∷ "KRM B" ⇒ number 9 ∷ "KRM L" ⇒ number 9
      ∷ "KEN B" ⇒ number 9 ∷ "KEN L" ⇒ number 9 ∷ "KEN PI_BASE" ⇒ number 9 ∷ "KEN PI_LEVELLING" ⇒ number 9 ∷ "RPA SKS" ⇒ number 9 ∷ "DPA SKS" ⇒ number 9
      ∷ "WPA SKS" ⇒ taken ∷ "KSD A" ⇒ taken ∷ "KST T" ⇒ taken ∷ "KSW W" ⇒ taken ∷ "KCP A A2" ⇒ taken ∷ "KLN A A2" ⇒ taken ∷ "KRM A2" ⇒ taken ∷ "KEN A" ⇒ taken ∷ [])
  -- [Error 10] a name that is there keeps its type
  pub ten : Session (
      "KSD D" ⇒ taken ∷ "KSW W" ⇒ taken ∷ "KSW D" ⇒ number 10 ∷ "KCP D W" ⇒ number 10 ∷ "KLN D W" ⇒ number 10 ∷ "KLN D PI_BASE" ⇒ number 10 ∷ [])
  -- [Error 11] A under the enabled B: not overwritten, linked, copied over or removed; but linked to, and copied from
  pub eleven : Session (
      "KSD A" ⇒ taken ∷ "KSD B" ⇒ taken ∷ "KSD C" ⇒ taken ∷ "KLN B A" ⇒ taken ∷ "KEN B" ⇒ taken ∷ "KSD A" ⇒ number 11 ∷ "KLN A C" ⇒ number 11
      ∷ "KCP C A" ⇒ number 11 ∷ "KRM A" ⇒ number 11 ∷ "KLN C A" ⇒ taken ∷ "KCP A C" ⇒ taken ∷ "KCP B N" ⇒ taken ∷ [])
  -- [02 §9] saved in use and in use no longer: not removed, but overwritten, linked and copied over
  pub twenty : Session (
      "KSD A" ⇒ taken ∷ "KSD B" ⇒ taken ∷ "KLN B A" ⇒ taken ∷ "KEN B" ⇒ taken ∷ "WPA SKS" ⇒ taken ∷ "KEN ZERO" ⇒ taken ∷ "KRM B" ⇒ number 20 ∷ "KRM A" ⇒ number 20
      ∷ "KSD A X 1" ⇒ taken ∷ "KLN B ZERO" ⇒ taken ∷ "KCP A B" ⇒ taken ∷ "KCP A N" ⇒ taken ∷ "KRM N" ⇒ taken ∷ [])
  -- [Error 12] no ring by KLN, no copy over S or its chain by KCP
  pub twelve : Session (
      "KSD A" ⇒ taken ∷ "KSD B" ⇒ taken ∷ "KSD C" ⇒ taken ∷ "KLN B A" ⇒ taken ∷ "KLN C B" ⇒ taken ∷ "KLN A B" ⇒ number 12 ∷ "KLN A C" ⇒ number 12
      ∷ "KLN A A" ⇒ number 12 ∷ "KCP C B" ⇒ number 12 ∷ "KCP C A" ⇒ number 12 ∷ "KCP C C" ⇒ number 12 ∷ "KCP A C" ⇒ taken ∷ "KLN C A" ⇒ taken ∷ [])
  -- [Error 13] a seventeenth system, by a definition or by a copy; a name that is there needs no room
  pub thirteen : Session (
      map (◌⇒ taken) sixteen ++ ("KSD Q" ⇒ number 13 ∷ "KCP A Q" ⇒ number 13 ∷ "KSD A X 1" ⇒ taken ∷ "KCP A B" ⇒ taken ∷ "KRM A" ⇒ taken ∷ "KSD Q" ⇒ taken ∷ []))
  -- [Errors, end] where two numbers apply the first is given: 3 before 4, 6 before 8, 7 before 8 and 9, 8 before 9, 9 before 10 and 11, 10 before 11, 11 before 12 and 20
  pub three_first : answer (sent start_factory (127 ∷ [])) ≡ number 3
  pub first : Session (
      "CCL 1 ADVANCED" ⇒ taken ∷ "KSB B" ⇒ taken ∷ "KEN B" ⇒ taken ∷ "KSD A" ⇒ taken ∷ "KEN A" ⇒ taken ∷ "KSW W" ⇒ taken ∷ "WPA SKS" ⇒ taken ∷ "CCL 0" ⇒ taken
      ∷ "KSD ZERO X 2001" ⇒ number 6 ∷ "KRM HEXAPOD" ⇒ number 7 ∷ "KCP N ZERO" ⇒ number 7 ∷ "KLN ZERO N" ⇒ number 7 ∷ "KLN B N" ⇒ number 7
      ∷ "KSB PI_BASE" ⇒ number 8 ∷ "KRM PI_BASE" ⇒ number 8 ∷ "KLN PI_BASE B" ⇒ number 8 ∷ "KCP PI_BASE B" ⇒ number 8 ∷ "KCP B ZERO" ⇒ number 8
      ∷ "KSB A" ⇒ number 9 ∷ "KLN B A" ⇒ number 9 ∷ "KCP B A" ⇒ number 9 ∷ "KSB B" ⇒ number 9 ∷ "KRM B" ⇒ number 9
      ∷ "KSW A" ⇒ number 10 ∷ "KLN A W" ⇒ number 10 ∷ "KCP W A" ⇒ number 10 ∷ "KLN A A" ⇒ number 11 ∷ "KCP A A" ⇒ number 11
      ∷ "KRM A" ⇒ number 11 ∷ [])
  -- [Errors, end] a refusal sets the last error and nothing else; a reply is written from byte 0 on, and later bytes stay
  pub refusal : stepped start_factory (ascii "KSB K") (lent 4100) ≡ refused (state_with factory factory 0 9) 9 (lent 4100)
  pub reply : stepped (state_with factory factory 1 9) (ascii "ERR?") (lent 4096)
      ≡ record { state = state_with factory factory 1 0; number = 0; count = 2; buffer = ascii "9\n" ++ lent 4094 }
  pub no_reply : stepped start_factory (ascii "CCL 1 ADVANCED") (lent 4096) ≡ record { state = state_with factory factory 1 0; number = 0; count = 0; buffer = lent 4096 }
