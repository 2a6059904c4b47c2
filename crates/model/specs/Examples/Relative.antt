-- Document 02 §3 by examples: one frame seen from another.
use Rattle.std.specs.Prelude.{◌∷◌}
use Rattle.model.specs.Base.{[]}
use Rattle.model.specs.Sessions.{replies, taken, number, ◌⇒◌, Session}

pub record OfRelative : Type 0 where
  -- [02 §3] B on A: in A it stands as it was typed, and A in B is that undone
  pub each_way : Session (
      "KSD A X 10 W 90" ⇒ taken ∷ "KSD B X 2 Y -0.5 U 90" ⇒ taken ∷ "KLN B A" ⇒ taken
      ∷ "KLT? B A" ⇒ replies "Name=B EndCoordinateSystem=A X=2.000000 Y=-0.500000 Z=0.000000 U=90.000000 V=0.000000 W=0.000000 Steps=3\n"
      ∷ "KLT? A B" ⇒ replies "Name=A EndCoordinateSystem=B X=-2.000000 Y=0.000000 Z=-0.500000 U=90.000000 V=180.000000 W=180.000000 Steps=3\n" ∷ [])
  -- [02 §3] C on B, D by itself: C in B, then B in D, and C in D, which has the two joined; lower case as upper
  pub joined : Session (
      "KSD B X 1 Y 2 W 90" ⇒ taken ∷ "KSD C Z 3 U 180" ⇒ taken ∷ "KLN C B" ⇒ taken ∷ "KSD D X 5 V 90" ⇒ taken
      ∷ "KLT? C B" ⇒ replies "Name=C EndCoordinateSystem=B X=0.000000 Y=0.000000 Z=3.000000 U=0.000000 V=180.000000 W=180.000000 Steps=3\n"
      ∷ "KLT? B D" ⇒ replies "Name=B EndCoordinateSystem=D X=0.000000 Y=2.000000 Z=-4.000000 U=0.000000 V=270.000000 W=90.000000 Steps=2\n"
      ∷ " klt?  c  d " ⇒ replies "Name=C EndCoordinateSystem=D X=-3.000000 Y=2.000000 Z=-4.000000 U=0.000000 V=90.000000 W=90.000000 Steps=3\n" ∷ [])
  -- [02 §3] from itself no pose and twice the steps; from the fixed system the resultant, and the fixed system from it
  pub fixed : Session (
      "KSD A X 10 W 90" ⇒ taken
      ∷ "KLT? A A" ⇒ replies "Name=A EndCoordinateSystem=A X=0.000000 Y=0.000000 Z=0.000000 U=0.000000 V=0.000000 W=0.000000 Steps=2\n"
      ∷ "KLT? A ZERO" ⇒ replies "Name=A EndCoordinateSystem=ZERO X=10.000000 Y=0.000000 Z=0.000000 U=0.000000 V=0.000000 W=90.000000 Steps=1\n"
      ∷ "KLT? ZERO A" ⇒ replies "Name=ZERO EndCoordinateSystem=A X=0.000000 Y=10.000000 Z=0.000000 U=0.000000 V=0.000000 W=270.000000 Steps=1\n"
      ∷ "KLT? PI_LEVELLING PI_LEVELLING" ⇒ replies "Name=PI_LEVELLING EndCoordinateSystem=PI_LEVELLING X=0.000000 Y=0.000000 Z=0.000000 U=0.000000 V=0.000000 W=0.000000 Steps=0\n" ∷ [])
  -- [02 §3] types may differ within a group, and no level is needed
  pub groups : Session (
      "CCL 1 ADVANCED" ⇒ taken ∷ "KSW W X 1" ⇒ taken ∷ "KST T Y 1" ⇒ taken ∷ "KSB B U 90" ⇒ taken ∷ "KLD L Z 1" ⇒ taken ∷ "CCL 0" ⇒ taken
      ∷ "KLT? W T" ⇒ replies "Name=W EndCoordinateSystem=T X=1.000000 Y=-1.000000 Z=0.000000 U=0.000000 V=0.000000 W=0.000000 Steps=2\n"
      ∷ "KLT? B PI_BASE" ⇒ replies "Name=B EndCoordinateSystem=PI_BASE X=0.000000 Y=0.000000 Z=0.000000 U=90.000000 V=0.000000 W=0.000000 Steps=1\n"
      ∷ "KLT? W B" ⇒ number 10 ∷ "KLT? B L" ⇒ number 10 ∷ "KLT? L W" ⇒ number 10 ∷ "KLT? T PI_BASE" ⇒ number 10 ∷ "KLT? ZERO PI_LEVELLING" ⇒ number 10 ∷ [])
  -- [02 §3] names as long as they may be, and one byte more
  pub long_names : Session (
      "KSD ABCDEFGHIJKLMNOP X 1" ⇒ taken ∷ "KSD ABCDEFGHIJKLMNO_" ⇒ taken
      ∷ "KLT? ABCDEFGHIJKLMNOP abcdefghijklmno_" ⇒ replies "Name=ABCDEFGHIJKLMNOP EndCoordinateSystem=ABCDEFGHIJKLMNO_ X=1.000000 Y=0.000000 Z=0.000000 U=0.000000 V=0.000000 W=0.000000 Steps=2\n"
      ∷ "KLT? ABCDEFGHIJKLMNOP ABCDEFGHIJKLMNOPQ" ⇒ number 5 ∷ [])
  -- [02 §3] 5 for the form, then 7 for either name, then 10; the last error is the number
  pub numbers : Session (
      "KSD A" ⇒ taken ∷ "KLT? A A A" ⇒ number 5 ∷ "KLT? A A 1" ⇒ number 5 ∷ "KLT? A A A A" ⇒ number 5 ∷ "KLT? A 1" ⇒ number 5 ∷ "KLT? 1 A" ⇒ number 5 ∷ "KLT? 1 1" ⇒ number 5
      ∷ "KLT? N 1" ⇒ number 5
      ∷ "KLT? A N" ⇒ number 7 ∷ "KLT? N A" ⇒ number 7 ∷ "KLT? N N" ⇒ number 7 ∷ "KLT? A HEXAPOD" ⇒ number 7 ∷ "KLT? HEXAPOD PI_BASE" ⇒ number 7
      ∷ "KLT? N PI_BASE" ⇒ number 7 ∷ "KLT? PI_BASE N" ⇒ number 7 ∷ "KLT? A PI_BASE" ⇒ number 10 ∷ "ERR?" ⇒ replies "10\n" ∷ [])
