-- Document 02 §1 by examples: the position, and frames where the stage is.
use Rattle.std.specs.Prelude.{◌≡◌, ◌∷◌, ◌++◌}
use Rattle.model.specs.Base.{[], map, true, false, pos, negsuc}
use Rattle.model.specs.Types.{Position}
use Rattle.model.specs.Ascii.{ascii}
use Rattle.model.specs.Memory.{factory}
use Rattle.model.specs.Effects.{with_position}
use Rattle.model.specs.Machine.{start_factory, began, restart, positioned}
use Rattle.model.specs.Trace.{line, moved}
use Rattle.model.specs.Demand.{steady}
use Rattle.model.specs.Sessions.{answer, replies, taken, number, hex, lent, sent, at, sixteen, ◌⇒◌, restarts, stands, writes, starts, Session}
use Rattle.model.specs.Examples.Numbers.{broken, state_with}

-- two millimetres along X and half a one back along Y; the same a little turned; a corner of the range, and one millionth past it on V; three millimetres up
abbrev pub corner : Position
corner = at (pos 2000000) (negsuc 499999) (pos 0) (pos 0) (pos 0) (pos 0)

abbrev pub corner_turned : Position
corner_turned = at (pos 2000000) (negsuc 499999) (pos 0) (pos 0) (pos 0) (pos 1)

abbrev pub farthest : Position
farthest = at (pos 2000000000) (negsuc 1999999999) (pos 2000000000) (negsuc 359999999) (pos 360000000) (negsuc 359999999)

abbrev pub farther : Position
farther = at (pos 2000000000) (negsuc 1999999999) (pos 2000000000) (negsuc 359999999) (pos 360000001) (negsuc 359999999)

abbrev pub up : Position
up = at (pos 0) (pos 0) (pos 3000000) (pos 0) (pos 0) (pos 0)

pub record OfStage : Type 0 where
  -- [02 §1] the enabled frame hangs on another, both are turned, and so is the step from it; the new frame hangs on ZERO, stands where the stage is, and is enabled alone
  pub here : Session (
      "KSD O Y 5 U 180" ⇒ taken ∷ "KSD A X 10 W 90" ⇒ taken ∷ "KLN A O" ⇒ taken ∷ "KEN A" ⇒ taken ∷ stands corner 0 ∷ "KSF C" ⇒ taken
      ∷ "KLT? C" ⇒ replies "Name=C EndCoordinateSystem=ZERO X=10.500000 Y=3.000000 Z=0.000000 U=0.000000 V=180.000000 W=270.000000 Steps=1\n"
      ∷ "KLT? C A" ⇒ replies "Name=C EndCoordinateSystem=A X=2.000000 Y=-0.500000 Z=0.000000 U=0.000000 V=0.000000 W=0.000000 Steps=3\n"
      ∷ "KLN?" ⇒ replies "ZERO=ZERO \nPI_BASE=HEXAPOD \nPI_LEVELLING=HEXAPOD \nO=ZERO \nA=O \nC=ZERO\n"
      ∷ "KEN C" ⇒ taken ∷ "KEN?" ⇒ replies "C=KSF \nPI_BASE=KSB(PI) \nPI_LEVELLING=KLD(PI)\n"
      ∷ "KLT? C" ⇒ replies "Name=C EndCoordinateSystem=ZERO X=10.500000 Y=3.000000 Z=0.000000 U=0.000000 V=180.000000 W=270.000000 Steps=1\n" ∷ [])
  -- [02 §1] of a pair the work half counts, of a lone tool the substitute ZERO; the turns are the shown triple, not the typed one
  pub halves : Session (
      "KSW W X 1 U 270 V 180 W 180" ⇒ taken ∷ "KST T Y 5 W 90" ⇒ taken ∷ "KEN W" ⇒ taken ∷ "KEN T" ⇒ taken ∷ stands up 0 ∷ "KSF P" ⇒ taken
      ∷ "KLT? P" ⇒ replies "Name=P EndCoordinateSystem=ZERO X=1.000000 Y=-3.000000 Z=0.000000 U=90.000000 V=0.000000 W=0.000000 Steps=1\n"
      ∷ "KEN ZERO" ⇒ taken ∷ "KEN T" ⇒ taken ∷ "KSF S" ⇒ taken
      ∷ "KLT? S" ⇒ replies "Name=S EndCoordinateSystem=ZERO X=0.000000 Y=0.000000 Z=3.000000 U=0.000000 V=0.000000 W=0.000000 Steps=1\n" ∷ [])
  -- [02 §1] the position comes back to zero with a restart and a start; WPA, RPA, DPA and refused positions leave it
  pub kept : Session (
      "CCL 1 ADVANCED" ⇒ taken ∷ stands up 0 ∷ "WPA SKS" ⇒ taken ∷ "RPA SKS" ⇒ taken ∷ "DPA SKS" ⇒ taken
      ∷ stands (at (pos 2000000001) (pos 0) (pos 0) (pos 0) (pos 0) (pos 0)) 6 ∷ stands (at (pos 0) (pos 0) (pos 0) (pos 0) (pos 0) (negsuc 360000000)) 6 ∷ "KSF A" ⇒ taken
      ∷ "KLT? A" ⇒ replies "Name=A EndCoordinateSystem=ZERO X=0.000000 Y=0.000000 Z=3.000000 U=0.000000 V=0.000000 W=0.000000 Steps=1\n"
      ∷ restarts ∷ "KSF B" ⇒ taken
      ∷ "KLT? B" ⇒ replies "Name=B EndCoordinateSystem=ZERO X=0.000000 Y=0.000000 Z=0.000000 U=0.000000 V=0.000000 W=0.000000 Steps=1\n"
      ∷ stands up 0 ∷ starts (hex "01 00 00 00 00 00") 0 ∷ "KSF B" ⇒ taken
      ∷ "KLT? B" ⇒ replies "Name=B EndCoordinateSystem=ZERO X=0.000000 Y=0.000000 Z=0.000000 U=0.000000 V=0.000000 W=0.000000 Steps=1\n" ∷ [])
  -- [02 §1] the whole range is taken; past it on any axis, either way, is 6, and leaves the last error
  pub range : Session (
      "FOO" ⇒ number 4 ∷ stands farthest 0 ∷ stands (at (pos 0) (negsuc 2000000000) (pos 0) (pos 0) (pos 0) (pos 0)) 6 ∷ stands (at (pos 0) (pos 0) (pos 2000000001) (pos 0) (pos 0) (pos 0)) 6
      ∷ stands (at (pos 0) (pos 0) (pos 0) (pos 360000001) (pos 0) (pos 0)) 6 ∷ stands (at (pos 0) (pos 0) (pos 0) (pos 0) (negsuc 360000000) (pos 0)) 6
      ∷ stands (at (negsuc 2000000000) (pos 0) (pos 0) (pos 0) (pos 0) (pos 0)) 6 ∷ stands (at (pos 0) (pos 2000000001) (pos 0) (pos 0) (pos 0) (pos 0)) 6 ∷ stands (at (pos 0) (pos 0) (negsuc 2000000000) (pos 0) (pos 0) (pos 0)) 6
      ∷ stands (at (pos 0) (pos 0) (pos 0) (negsuc 360000000) (pos 0) (pos 0)) 6 ∷ stands (at (pos 0) (pos 0) (pos 0) (pos 0) (pos 360000001) (pos 0)) 6 ∷ stands (at (pos 0) (pos 0) (pos 0) (pos 0) (pos 0) (pos 360000001)) 6
      ∷ "ERR?" ⇒ replies "4\n" ∷ [])
  -- [Error 1] a state that is not well formed comes back with 1, before 6; so does any call where the position itself is past its range
  pub one : positioned (state_with broken factory 0 3) farther ≡ began (state_with broken factory 0 3) 1
  pub one_position : positioned (with_position start_factory farther) corner ≡ began (with_position start_factory farther) 1
  pub one_line : answer (sent (with_position start_factory farther) (ascii "KEN?")) ≡ number 1
  pub one_restart : restart (with_position start_factory farther) ≡ began (with_position start_factory farther) 1
  -- [02 §1] 5 for the form, then 6 for where the frame would be, 8, 10, 11, 15 and 13
  pub numbers : Session (
      "KSF" ⇒ number 5 ∷ "KSF A X 1" ⇒ number 5 ∷ "KSF A B" ⇒ number 5 ∷ "KSF 1" ⇒ number 5 ∷ "KSD D X -2000" ⇒ taken ∷ "KSF F" ⇒ taken ∷ "KSF HEXAPOD" ⇒ number 8
      ∷ "KSF D" ⇒ number 10 ∷ "KSD F" ⇒ number 10 ∷ "KEN F" ⇒ taken ∷ "KSF F" ⇒ number 11 ∷ stands corner_turned 0 ∷ "KSF F" ⇒ number 11 ∷ "KSF D" ⇒ number 10
      ∷ "KSF G" ⇒ number 15 ∷ "ERR?" ⇒ replies "15\n" ∷ stands (at (pos 0) (pos 0) (pos 0) (pos 360000000) (pos 0) (pos 0)) 0 ∷ "KSF G" ⇒ number 15
      ∷ stands (at (pos 0) (pos 0) (pos 0) (pos 0) (negsuc 89999999) (pos 0)) 0 ∷ "KSF G" ⇒ number 15 ∷ stands (at (pos 0) (pos 0) (pos 0) (pos 0) (pos 0) (negsuc 359999999)) 0 ∷ "KSF G" ⇒ number 15
      ∷ "KEN D" ⇒ taken ∷ stands (at (negsuc 0) (pos 0) (pos 0) (pos 0) (pos 90000000) (pos 0)) 0 ∷ "KSF G" ⇒ number 6 ∷ "KSF ZERO" ⇒ number 6 ∷ "KSF D" ⇒ number 6 ∷ [])
  pub full : Session (
      map (◌⇒ taken) sixteen ++ ("KSF Q" ⇒ number 13 ∷ stands corner_turned 0 ∷ "KSF Q" ⇒ number 15 ∷ stands corner 0 ∷ "KRM A" ⇒ taken ∷ "KSF Q" ⇒ taken ∷ "KSF Q" ⇒ taken ∷ []))
  -- [02 §1] links go to KSF and ZERO; copies and removals are as for any type; code 6 in an image
  pub as_others : Session (
      stands up 0 ∷ "KSF A" ⇒ taken ∷ "KSF B" ⇒ taken ∷ "KSD D" ⇒ taken ∷ "KLN A B" ⇒ taken ∷ "KLN B D" ⇒ number 10 ∷ "KLN D A" ⇒ number 10 ∷ "KLN B A" ⇒ number 12
      ∷ "KLT? A" ⇒ replies "Name=A EndCoordinateSystem=ZERO X=0.000000 Y=0.000000 Z=6.000000 U=0.000000 V=0.000000 W=0.000000 Steps=2\n"
      ∷ "KCP A C" ⇒ taken ∷ "KCP D C" ⇒ number 10 ∷ "KSF A" ⇒ taken ∷ "KRM B" ⇒ taken ∷ "KRM D" ⇒ taken ∷ "KRM C" ⇒ taken ∷ "KEN A" ⇒ taken ∷ "WPA SKS" ⇒ taken
      ∷ writes (hex "01 01 06 01 41 00 00 80 9B EE 02 00 00 00 00 00 01 00 00") ∷ restarts ∷ "KEN?" ⇒ replies "A=KSF \nPI_BASE=KSB(PI) \nPI_LEVELLING=KLD(PI)\n" ∷ [])
  -- [Two lists 1] a position may stand in the second list, wherever it is, and takes nothing from what the lines are asked
  pub steady_moved : steady start_factory (moved corner ∷ line (ascii "KSF A") (lent 4096) ∷ moved farthest ∷ []) ≡ true
  pub steady_not : steady start_factory (moved corner ∷ line (ascii "KSF A") (lent 4096) ∷ line (ascii "KEN A") (lent 4096) ∷ []) ≡ false
