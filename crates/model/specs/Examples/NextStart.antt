-- Document 02 §9 by examples.
use Prim.Native.String.{String}
use Rattle.std.specs.Prelude.{◌≡◌, ◌∷◌}
use Rattle.model.specs.Base.{List, [], map, true, false}
use Rattle.model.specs.Ascii.{ascii}
use Rattle.model.specs.Machine.{start_factory}
use Rattle.model.specs.Trace.{Call, line, entering}
use Rattle.model.specs.NextStart.{never_saved_in_use}
use Rattle.model.specs.Sessions.{replies, taken, number, hex, lent, ◌⇒◌, restarts, starts, Session}

abbrev pub a_enabled : String
a_enabled = "A=KSD \nPI_BASE=KSB(PI) \nPI_LEVELLING=KLD(PI)\n"

-- lines as calls
abbrev pub calls_of : List String → List Call
calls_of ts = map (λ (t : String). entering (line (ascii t) (lent 4096))) ts

pub record OfNextStart : Type 0 where
  -- [02 §9] what the operator did: A was saved while it was enabled. It can no longer be removed, and so the next start has nothing in use that was removed
  pub operator : Session (
      "KSD A X 1" ⇒ taken ∷ "KEN A" ⇒ taken ∷ "WPA SKS" ⇒ taken ∷ "KEN ZERO" ⇒ taken ∷ "KRM A" ⇒ number 20 ∷ "ERR?" ⇒ replies "20\n"
      ∷ "KLN?" ⇒ replies "ZERO=ZERO \nPI_BASE=HEXAPOD \nPI_LEVELLING=HEXAPOD \nA=ZERO\n" ∷ restarts ∷ "KEN?" ⇒ replies a_enabled ∷ "KRM A" ⇒ number 11 ∷ [])
  -- [02 §9] saved while it is not in use, it is free
  pub freed : Session (
      "KSD A" ⇒ taken ∷ "KEN A" ⇒ taken ∷ "WPA SKS" ⇒ taken ∷ "KRM A" ⇒ number 11 ∷ "KEN ZERO" ⇒ taken ∷ "KRM A" ⇒ number 20 ∷ "WPA SKS" ⇒ taken ∷ "KRM A" ⇒ taken
      ∷ restarts ∷ "KEN?" ⇒ replies "ZERO=ZERO \nPI_BASE=KSB(PI) \nPI_LEVELLING=KLD(PI)\n" ∷ "KLN?" ⇒ replies "ZERO=ZERO \nPI_BASE=HEXAPOD \nPI_LEVELLING=HEXAPOD \nA=ZERO\n"
      ∷ "KRM A" ⇒ taken ∷ [])
  -- [02 §9] on a chain counts, as it was when it was saved: V under W, though W hangs on ZERO now; F is saved, and not in use
  pub chain : Session (
      "KSW V" ⇒ taken ∷ "KSW W" ⇒ taken ∷ "KLN W V" ⇒ taken ∷ "KST T" ⇒ taken ∷ "KSD F" ⇒ taken ∷ "KEN W" ⇒ taken ∷ "KEN T" ⇒ taken ∷ "WPA SKS" ⇒ taken
      ∷ "KEN ZERO" ⇒ taken ∷ "KLN W ZERO" ⇒ taken ∷ "KRM V" ⇒ number 20 ∷ "KRM W" ⇒ number 20 ∷ "KRM T" ⇒ number 20 ∷ "KRM F" ⇒ taken ∷ [])
  -- [02 §9] the name counts, and neither the place nor the type that it has in the volatile memory: X stands where A stood, and A is a KSW behind it
  pub by_name : Session (
      "CCL 1 ADVANCED" ⇒ taken ∷ "KSD A" ⇒ taken ∷ "KEN A" ⇒ taken ∷ "WPA SKS" ⇒ taken ∷ "DPA SKS" ⇒ taken ∷ "KRM A" ⇒ number 7
      ∷ "KSD X" ⇒ taken ∷ "KSW A" ⇒ taken ∷ "KRM A" ⇒ number 20 ∷ "KRM X" ⇒ taken ∷ "KRM A" ⇒ number 20 ∷ [])
  -- [02 §9] it may be defined anew, copied over and linked
  pub free : Session (
      "KSD A" ⇒ taken ∷ "KSD B" ⇒ taken ∷ "KEN A" ⇒ taken ∷ "WPA SKS" ⇒ taken ∷ "KEN ZERO" ⇒ taken ∷ "KSD A X 5" ⇒ taken ∷ "KCP B A" ⇒ taken ∷ "KLN A B" ⇒ taken
      ∷ "KEN A" ⇒ taken ∷ "KEN ZERO" ⇒ taken ∷ "KRM A" ⇒ number 20 ∷ [])
  -- [02 §9] 9 and 11 come before it
  pub before : Session (
      "CCL 1 ADVANCED" ⇒ taken ∷ "KSB K" ⇒ taken ∷ "KLD L" ⇒ taken ∷ "KEN K" ⇒ taken ∷ "KEN L" ⇒ taken ∷ "WPA SKS" ⇒ taken ∷ "KRM K" ⇒ number 11 ∷ "KEN PI_BASE" ⇒ taken
      ∷ "KRM K" ⇒ number 20 ∷ "CCL 0" ⇒ taken ∷ "KRM K" ⇒ number 9 ∷ "KRM L" ⇒ number 9 ∷ [])
  -- [02 §9] the permanent memory may come from an image: one KSD, A, enabled
  pub from_image : Session (
      starts (hex "01 01 01 01 41 00 00 00 00 00 00 00 00 01 00 00") 0 ∷ "KEN?" ⇒ replies a_enabled ∷ "KEN ZERO" ⇒ taken ∷ "KRM A" ⇒ number 20
      ∷ "WPA SKS" ⇒ taken ∷ "KRM A" ⇒ taken ∷ [])
  -- [02 §9] A is saved, first while it is not in use, then while it is; a WPA that is refused does not count
  pub saved_unused : never_saved_in_use (ascii "A") start_factory (calls_of ("KSD A" ∷ "WPA SKS" ∷ "KEN A" ∷ "WPA" ∷ "KEN ZERO" ∷ "WPA SKS" ∷ [])) ≡ true
  pub saved_used : never_saved_in_use (ascii "A") start_factory (calls_of ("KSD A" ∷ "KEN A" ∷ "WPA SKS" ∷ "KEN ZERO" ∷ [])) ≡ false
