-- Document 01, "Commands" and the lists, by examples.
use Rattle.std.specs.Prelude.{◌∷◌}
use Rattle.model.specs.Base.{[]}
use Rattle.model.specs.Sessions.{replies, lists, taken, number, hex, ◌⇒◌, writes, Session}

-- ---- "Commands"

pub record OfCommands : Type 0 where
  -- [Commands, KSD] a name that is there keeps its place and its successors, and its predecessor becomes ZERO
  pub define : Session (
      "KSD A" ⇒ taken ∷ "KSD B" ⇒ taken ∷ "KSD C" ⇒ taken ∷ "KLN B A" ⇒ taken ∷ "KLN C B" ⇒ taken ∷ "KSD B Y 1" ⇒ taken
      ∷ "KLN?" ⇒ replies "ZERO=ZERO \nPI_BASE=HEXAPOD \nPI_LEVELLING=HEXAPOD \nA=ZERO \nB=ZERO \nC=B\n"
      ∷ "KLT? C" ⇒ replies "Name=C EndCoordinateSystem=ZERO X=0.000000 Y=1.000000 Z=0.000000 U=0.000000 V=0.000000 W=0.000000 Steps=2\n" ∷ [])
  -- [Commands, KSD] a KSB and a KLD go on the enabled one of their group, a KST and a KSW on ZERO
  pub define_on_enabled : Session (
      "CCL 1 ADVANCED" ⇒ taken ∷ "KSB B" ⇒ taken ∷ "KLD L" ⇒ taken ∷ "KST T" ⇒ taken ∷ "KEN B" ⇒ taken ∷ "KEN L" ⇒ taken ∷ "KEN T" ⇒ taken
      ∷ "KSB B2" ⇒ taken ∷ "KLD L2" ⇒ taken ∷ "KST T2" ⇒ taken ∷ "KSW W" ⇒ taken
      ∷ "KLN?" ⇒ replies "ZERO=ZERO \nPI_BASE=HEXAPOD \nPI_LEVELLING=HEXAPOD \nB=PI_BASE \nL=PI_LEVELLING \nT=ZERO \nB2=B \nL2=L \nT2=ZERO \nW=ZERO\n" ∷ [])
  -- [Commands, KLN] A goes on B, and back to the fixed system
  pub link : Session (
      "KST A X 1" ⇒ taken ∷ "KST B X 2" ⇒ taken ∷ "KLN A B" ⇒ taken
      ∷ "KLT? A" ⇒ replies "Name=A EndCoordinateSystem=ZERO X=3.000000 Y=0.000000 Z=0.000000 U=0.000000 V=0.000000 W=0.000000 Steps=2\n"
      ∷ "KLN A ZERO" ⇒ taken
      ∷ "KLT? A" ⇒ replies "Name=A EndCoordinateSystem=ZERO X=1.000000 Y=0.000000 Z=0.000000 U=0.000000 V=0.000000 W=0.000000 Steps=1\n"
      ∷ "KLN A" ⇒ number 5 ∷ "KLN A B A" ⇒ number 5 ∷ [])
  -- [Commands, KCP] D gets all of S but its name: here one D that is there, with a successor, and a new one, which comes last
  pub copy : Session (
      "KSW A X 1" ⇒ taken ∷ "KSW D" ⇒ taken ∷ "KSW S Y 2 W 90" ⇒ taken ∷ "KSW E" ⇒ taken ∷ "KLN S A" ⇒ taken ∷ "KLN E D" ⇒ taken
      ∷ "KCP S D" ⇒ taken ∷ "KCP S N" ⇒ taken
      ∷ "KLN?" ⇒ replies "ZERO=ZERO \nPI_BASE=HEXAPOD \nPI_LEVELLING=HEXAPOD \nA=ZERO \nD=A \nS=A \nE=D \nN=A\n"
      ∷ "KLT? N" ⇒ replies "Name=N EndCoordinateSystem=ZERO X=1.000000 Y=2.000000 Z=0.000000 U=0.000000 V=0.000000 W=90.000000 Steps=2\n"
      ∷ "KEN N" ⇒ taken ∷ "KEN?" ⇒ replies "N=KSW \nZERO=ZERO \nPI_BASE=KSB(PI) \nPI_LEVELLING=KLD(PI)\n" ∷ [])
  -- [Commands, KRM] the systems behind move up, and links and what is enabled go with them
  pub remove : Session (
      "CCL 1 ADVANCED" ⇒ taken ∷ "KSW A" ⇒ taken ∷ "KSW B" ⇒ taken ∷ "KSW C" ⇒ taken ∷ "KST T" ⇒ taken ∷ "KSB O" ⇒ taken ∷ "KLD L" ⇒ taken ∷ "KLN B A" ⇒ taken
      ∷ "KEN C" ⇒ taken ∷ "KEN T" ⇒ taken ∷ "KEN O" ⇒ taken ∷ "KEN L" ⇒ taken ∷ "KRM A" ⇒ taken
      ∷ "KLN?" ⇒ replies "ZERO=ZERO \nPI_BASE=HEXAPOD \nPI_LEVELLING=HEXAPOD \nB=ZERO \nC=ZERO \nT=ZERO \nO=PI_BASE \nL=PI_LEVELLING\n"
      ∷ "KEN?" ⇒ replies "C=KSW \nT=KST \nO=KSB(USER) \nL=KLD(USER)\n" ∷ "KRM A" ⇒ number 7 ∷ [])
  -- [Commands, KEN] ZERO takes the place of a pair; at level 1, and only there, it brings PI_LEVELLING with it
  pub enable_zero : Session (
      "CCL 1 ADVANCED" ⇒ taken ∷ "KSW W" ⇒ taken ∷ "KSB B" ⇒ taken ∷ "KLD L" ⇒ taken ∷ "KEN W" ⇒ taken ∷ "KEN B" ⇒ taken ∷ "KEN L" ⇒ taken
      ∷ "CCL 0" ⇒ taken ∷ "KEN ZERO" ⇒ taken ∷ "KEN?" ⇒ replies "ZERO=ZERO \nB=KSB(USER) \nL=KLD(USER)\n"
      ∷ "CCL 1 ADVANCED" ⇒ taken ∷ "KEN ZERO" ⇒ taken ∷ "KEN?" ⇒ replies "ZERO=ZERO \nB=KSB(USER) \nPI_LEVELLING=KLD(PI)\n" ∷ [])
  -- [Commands, KEN] the fixed systems of the other groups replace theirs alone
  pub enable_fixed : Session (
      "CCL 1 ADVANCED" ⇒ taken ∷ "KSD D" ⇒ taken ∷ "KSB B" ⇒ taken ∷ "KLD L" ⇒ taken ∷ "KEN D" ⇒ taken ∷ "KEN B" ⇒ taken ∷ "KEN L" ⇒ taken
      ∷ "KEN PI_BASE" ⇒ taken ∷ "KEN?" ⇒ replies "D=KSD \nPI_BASE=KSB(PI) \nL=KLD(USER)\n"
      ∷ "KEN B" ⇒ taken ∷ "KEN PI_LEVELLING" ⇒ taken ∷ "KEN?" ⇒ replies "D=KSD \nB=KSB(USER) \nPI_LEVELLING=KLD(PI)\n" ∷ [])
  -- [Commands, CCL] the level opens KSB and KLD, and shuts them again
  pub level : Session (
      "KLD L" ⇒ number 9 ∷ "CCL 1 ADVANCED" ⇒ taken ∷ "KLD L" ⇒ taken ∷ "CCL 0" ⇒ taken ∷ "KLD L" ⇒ number 9 ∷ "CCL" ⇒ number 5 ∷ [])
  -- [Commands, WPA] only WPA writes the permanent memory; RPA brings it back, with what was enabled; DPA leaves it as it is
  pub memories : Session (
      "CCL 1 ADVANCED" ⇒ taken ∷ "KSD A" ⇒ taken ∷ "KEN A" ⇒ taken ∷ writes (hex "01 00 00 00 00 00")
      ∷ "WPA SKS" ⇒ taken ∷ "KSD B" ⇒ taken ∷ "KEN B" ⇒ taken ∷ "KSD A X 1" ⇒ taken ∷ "KCP A C" ⇒ taken ∷ "RPA SKS" ⇒ taken
      ∷ "KLN?" ⇒ replies "ZERO=ZERO \nPI_BASE=HEXAPOD \nPI_LEVELLING=HEXAPOD \nA=ZERO\n"
      ∷ "KEN?" ⇒ replies "A=KSD \nPI_BASE=KSB(PI) \nPI_LEVELLING=KLD(PI)\n"
      ∷ "DPA SKS" ⇒ taken ∷ "KLN?" ⇒ replies "ZERO=ZERO \nPI_BASE=HEXAPOD \nPI_LEVELLING=HEXAPOD\n"
      ∷ "KEN?" ⇒ replies "ZERO=ZERO \nPI_BASE=KSB(PI) \nPI_LEVELLING=KLD(PI)\n" ∷ "KLD L" ⇒ taken ∷ "RPA SKS" ⇒ taken
      ∷ "KLN?" ⇒ replies "ZERO=ZERO \nPI_BASE=HEXAPOD \nPI_LEVELLING=HEXAPOD \nA=ZERO\n" ∷ [])
  -- [Commands, ERR?] the last error stays until ERR? is sent, whatever is accepted meanwhile
  pub last_error_lem : Session (
      "FOO" ⇒ number 4 ∷ "KSD A" ⇒ taken ∷ "KSW A" ⇒ number 10 ∷ "KSD B" ⇒ taken ∷ "KCP A C" ⇒ taken ∷ "KLN B A" ⇒ taken ∷ "KRM C" ⇒ taken ∷ "KEN B" ⇒ taken
      ∷ "KEN?" ⇒ replies "B=KSD \nPI_BASE=KSB(PI) \nPI_LEVELLING=KLD(PI)\n" ∷ "CCL 1 ADVANCED" ⇒ taken ∷ "WPA SKS" ⇒ taken ∷ "RPA SKS" ⇒ taken ∷ "DPA SKS" ⇒ taken ∷ "CCL 0" ⇒ taken
      ∷ "ERR?" ⇒ replies "10\n" ∷ "ERR?" ⇒ replies "0\n" ∷ "ERR? 1" ⇒ number 5 ∷ "ERR?" ⇒ replies "5\n" ∷ [])

-- ---- "Lists run .."

pub record OfLists : Type 0 where
  -- [lists, KLS?] own values of every type: six decimals, a minus below zero
  pub own_values : Session (
      "CCL 1 ADVANCED" ⇒ taken ∷ "KSD D X 2000 Y -2000 Z 0.1" ⇒ taken ∷ "KST T Z -0.5 U 90" ⇒ taken ∷ "KSW W V 180" ⇒ taken ∷ "KSB B W -90" ⇒ taken ∷ "KLD L X 12.34" ⇒ taken
      ∷ "KLS?" ⇒ lists (
      "Name=ZERO Type=ZERO X=0.000000 Y=0.000000 Z=0.000000 U=0.000000 V=0.000000 W=0.000000 \n"
      ∷ "Name=PI_BASE Type=KSB(PI) X=0.000000 Y=0.000000 Z=0.000000 U=0.000000 V=0.000000 W=0.000000 \n"
      ∷ "Name=PI_LEVELLING Type=KLD(PI) X=0.000000 Y=0.000000 Z=0.000000 U=0.000000 V=0.000000 W=0.000000 \n"
      ∷ "Name=D Type=KSD X=2000.000000 Y=-2000.000000 Z=0.100000 U=0.000000 V=0.000000 W=0.000000 \n"
      ∷ "Name=T Type=KST X=0.000000 Y=0.000000 Z=-0.500000 U=90.000000 V=0.000000 W=0.000000 \n"
      ∷ "Name=W Type=KSW X=0.000000 Y=0.000000 Z=0.000000 U=0.000000 V=180.000000 W=0.000000 \n"
      ∷ "Name=B Type=KSB(USER) X=0.000000 Y=0.000000 Z=0.000000 U=0.000000 V=0.000000 W=270.000000 \n"
      ∷ "Name=L Type=KLD(USER) X=12.340000 Y=0.000000 Z=0.000000 U=0.000000 V=0.000000 W=0.000000\n" ∷ []) ∷ [])
  -- [lists, KLT?] resultants of every system, or of one
  pub resultants : Session (
      "CCL 1 ADVANCED" ⇒ taken ∷ "KSB B U 90" ⇒ taken
      ∷ "KLT?" ⇒ lists (
      "Name=ZERO EndCoordinateSystem=ZERO X=0.000000 Y=0.000000 Z=0.000000 U=0.000000 V=0.000000 W=0.000000 Steps=0 \n"
      ∷ "Name=PI_BASE EndCoordinateSystem=HEXAPOD X=0.000000 Y=0.000000 Z=0.000000 U=0.000000 V=0.000000 W=0.000000 Steps=0 \n"
      ∷ "Name=PI_LEVELLING EndCoordinateSystem=HEXAPOD X=0.000000 Y=0.000000 Z=0.000000 U=0.000000 V=0.000000 W=0.000000 Steps=0 \n"
      ∷ "Name=B EndCoordinateSystem=HEXAPOD X=0.000000 Y=0.000000 Z=0.000000 U=90.000000 V=0.000000 W=0.000000 Steps=1\n" ∷ [])
      ∷ "KLT? B" ⇒ replies "Name=B EndCoordinateSystem=HEXAPOD X=0.000000 Y=0.000000 Z=0.000000 U=90.000000 V=0.000000 W=0.000000 Steps=1\n" ∷ [])
