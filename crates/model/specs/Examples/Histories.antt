-- Document 01, "The two lists of demand 3" and "ksrun", and document 02 §7, by examples.
use Prim.Native.String.{String}
use Rattle.std.specs.Prelude.{◌≡◌, ◌∷◌}
use Rattle.model.specs.Base.{ℕ, List, [], map, true, false}
use Rattle.model.specs.Ascii.{ascii}
use Rattle.model.specs.Machine.{start_factory}
use Rattle.model.specs.Trace.{Input, line, ksrun}
use Rattle.model.specs.Demand.{steady}
use Rattle.model.specs.Histories.{steady_by}
use Rattle.model.specs.Sessions.{replies, taken, number, hex, lent, ◌⇒◌, restarts, writes, starts, Session}

-- lines of a second list
abbrev pub lines_of : List String → List Input
lines_of ts = map (λ (t : String). line (ascii t) (lent 4096)) ts

-- without an accepted KEN, RPA or DPA, and with one
abbrev pub holding_still : List Input
holding_still = lines_of ("KSD A" ∷ "KEN B" ∷ "RPA SKS" ∷ "KEN?" ∷ [])

abbrev pub enabling_a : List Input
enabling_a = lines_of ("KSD A" ∷ "KEN A" ∷ [])

-- V, W on V, and T, with W and T enabled: the image, and what KEN? and KLN? show
abbrev pub saved_pair : List ℕ
saved_pair = hex "01 03 03 01 56 80 89 7A 00 00 00 00 00 00 03 01 57 80 92 F4 01 00 00 00 00 00 01 02 01 54 00 00 00 00 00 00 00 01 02 03 00 00"

abbrev pub pair_enabled : String
pair_enabled = "W=KSW \nT=KST \nPI_BASE=KSB(PI) \nPI_LEVELLING=KLD(PI)\n"

abbrev pub pair_links : String
pair_links = "ZERO=ZERO \nPI_BASE=HEXAPOD \nPI_LEVELLING=HEXAPOD \nV=ZERO \nW=V \nT=ZERO\n"

pub record OfHistories : Type 0 where
  -- [Two lists] B on A is enabled: whatever is sent but an accepted KEN, RPA or DPA, KLT? B has the same bytes, before and after a save
  pub still : Session (
      "KSD A X 10 W 90" ⇒ taken ∷ "KSD B X 2 Y -0.5" ⇒ taken ∷ "KLN B A" ⇒ taken ∷ "KSD F" ⇒ taken ∷ "KEN B" ⇒ taken ∷ "KRM F" ⇒ taken ∷ "KSD A" ⇒ number 11
      ∷ "KRM A" ⇒ number 11 ∷ "KLN B ZERO" ⇒ number 11 ∷ "KCP A C" ⇒ taken ∷ "KLN C B" ⇒ taken ∷ "KEN PI_BASE" ⇒ number 9 ∷ "RPA SKS" ⇒ number 9
      ∷ "WPA SKS" ⇒ taken ∷ "KEN?" ⇒ replies "B=KSD \nPI_BASE=KSB(PI) \nPI_LEVELLING=KLD(PI)\n"
      ∷ "KLT? B" ⇒ replies "Name=B EndCoordinateSystem=ZERO X=10.500000 Y=2.000000 Z=0.000000 U=0.000000 V=0.000000 W=90.000000 Steps=2\n"
      ∷ restarts ∷ "KLT? B" ⇒ replies "Name=B EndCoordinateSystem=ZERO X=10.500000 Y=2.000000 Z=0.000000 U=0.000000 V=0.000000 W=90.000000 Steps=2\n" ∷ [])
  -- [Two lists 1] a refused KEN or RPA may stand in the second list, and KEN? too; an accepted KEN is noticed, by the machine's number and by a returned one
  pub steady_lines : steady start_factory holding_still ≡ true
  pub steady_not : steady start_factory enabling_a ≡ false
  pub steady_numbers : steady_by holding_still (0 ∷ 7 ∷ 9 ∷ 0 ∷ []) ≡ true
  pub steady_numbers_not : steady_by enabling_a (0 ∷ 0 ∷ []) ≡ false
  -- [ksrun] replies and refusals in the order of the lines; an LF ends a line, and a CR is a byte of it; the tally behind them
  pub prints : ksrun (ascii "KSD A\nKSW A\nKEN A\nKEN?\nKEN?\r\nERR?\nERR?\n")
      ≡ ascii "E 10\nA=KSD \nPI_BASE=KSB(PI) \nPI_LEVELLING=KLD(PI)\nE 3\n3\n0\nT 5 7\nR 3 1\nR 10 1\n"
  -- [02 §7] a pair is saved, W on V its work half; whatever is done to it afterwards without a save, the switch brings it back, and again the next time
  pub switched : Session (
      "CCL 1 ADVANCED" ⇒ taken ∷ "KSW V X 1" ⇒ taken ∷ "KSW W X 2" ⇒ taken ∷ "KLN W V" ⇒ taken ∷ "KST T" ⇒ taken ∷ "KEN W" ⇒ taken ∷ "KEN T" ⇒ taken
      ∷ writes (hex "01 00 00 00 00 00") ∷ "WPA SKS" ⇒ taken ∷ writes saved_pair
      ∷ "KEN ZERO" ⇒ taken ∷ "KLN W ZERO" ⇒ taken ∷ "KRM V" ⇒ number 20 ∷ "WPA" ⇒ number 5 ∷ "DPA SKS" ⇒ taken ∷ "KLD L" ⇒ taken ∷ "KEN L" ⇒ taken ∷ writes saved_pair
      ∷ restarts ∷ "ERR?" ⇒ replies "0\n" ∷ "DPA SKS" ⇒ number 9 ∷ "KEN?" ⇒ replies pair_enabled ∷ "KLN?" ⇒ replies pair_links ∷ "KRM T" ⇒ number 11 ∷ writes saved_pair
      ∷ "KEN ZERO" ⇒ taken ∷ "KRM T" ⇒ number 20 ∷ "KST T X 5" ⇒ taken ∷ restarts ∷ "KEN?" ⇒ replies pair_enabled ∷ "KLN?" ⇒ replies pair_links ∷ writes saved_pair
      ∷ starts saved_pair 0 ∷ "ERR?" ⇒ replies "0\n" ∷ "KSB B" ⇒ number 9 ∷ "KEN?" ⇒ replies pair_enabled ∷ "KLN?" ⇒ replies pair_links ∷ [])
  -- [02 §7] the last save counts, also where the switch follows it at once; RPA fetches what was saved and leaves it there
  pub saved_again : Session (
      "KSD A" ⇒ taken ∷ "WPA SKS" ⇒ taken ∷ restarts ∷ "KEN A" ⇒ taken ∷ "KSD B" ⇒ taken ∷ "WPA SKS" ⇒ taken ∷ restarts ∷ "KEN?" ⇒ replies "A=KSD \nPI_BASE=KSB(PI) \nPI_LEVELLING=KLD(PI)\n"
      ∷ "KEN ZERO" ⇒ taken ∷ "KLN A B" ⇒ taken ∷ "CCL 1 ADVANCED" ⇒ taken ∷ "RPA SKS" ⇒ taken ∷ "KEN?" ⇒ replies "A=KSD \nPI_BASE=KSB(PI) \nPI_LEVELLING=KLD(PI)\n"
      ∷ "KRM B" ⇒ taken ∷ restarts ∷ "KLN?" ⇒ replies "ZERO=ZERO \nPI_BASE=HEXAPOD \nPI_LEVELLING=HEXAPOD \nA=ZERO \nB=ZERO\n" ∷ [])
