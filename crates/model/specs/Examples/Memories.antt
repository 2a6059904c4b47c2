-- Document 01, "Memory and state" and "Poses and chains", by examples; among poses those of document 02 §5 and §14.
use Rattle.std.specs.Prelude.{◌≡◌, ◌∷◌}
use Rattle.model.specs.Base.{[], pos, neg_ℤ, get_or}
use Rattle.model.specs.Ascii.{ascii}
use Rattle.model.specs.Pose.{rot_of, inverse}
use Rattle.model.specs.Sheet.{sheet_lines}
use Rattle.model.specs.Sessions.{replies, lists, taken, number, ◌⇒◌, restarts, Session}

-- ---- "Memory and state"

pub record OfMemories : Type 0 where
  -- [Memory 1] user systems in the order of their definition, behind the fixed ones; no system is called HEXAPOD
  pub systems : Session (
      "KLN?" ⇒ replies "ZERO=ZERO \nPI_BASE=HEXAPOD \nPI_LEVELLING=HEXAPOD\n" ∷ "KSD B" ⇒ taken ∷ "KSD A" ⇒ taken
      ∷ "KLN?" ⇒ replies "ZERO=ZERO \nPI_BASE=HEXAPOD \nPI_LEVELLING=HEXAPOD \nB=ZERO \nA=ZERO\n"
      ∷ "KEN HEXAPOD" ⇒ number 7 ∷ "KLT? HEXAPOD" ⇒ number 7 ∷ "KLN A HEXAPOD" ⇒ number 7 ∷ [])
  -- [Memory 2] which predecessors a system may have: one of its type, the fixed one of its group
  pub predecessors : Session (
      "KSD D" ⇒ taken ∷ "KST T" ⇒ taken ∷ "KST S" ⇒ taken ∷ "KSW W" ⇒ taken ∷ "KLN W T" ⇒ number 10 ∷ "KLN T D" ⇒ number 10 ∷ "KLN T S" ⇒ taken
      ∷ "KLN T ZERO" ⇒ taken ∷ "KLN W PI_BASE" ⇒ number 10 ∷ "CCL 1 ADVANCED" ⇒ taken ∷ "KSB B" ⇒ taken ∷ "KLD L" ⇒ taken
      ∷ "KLN B ZERO" ⇒ number 10 ∷ "KLN B PI_LEVELLING" ⇒ number 10 ∷ "KLN B L" ⇒ number 10 ∷ "KLN B PI_BASE" ⇒ taken ∷ "KLN L PI_LEVELLING" ⇒ taken ∷ [])
  -- [Memory 2] a KSB has no offsets, a KLD may have some
  pub offsets : Session (
      "CCL 1 ADVANCED" ⇒ taken ∷ "KSB B X 0" ⇒ number 5 ∷ "KSB B U 90 V 180 W 270" ⇒ taken ∷ "KLD L X 1 Y 2 Z 3 U 90" ⇒ taken
      ∷ "KLT? L" ⇒ replies "Name=L EndCoordinateSystem=HEXAPOD X=1.000000 Y=2.000000 Z=3.000000 U=90.000000 V=0.000000 W=0.000000 Steps=1\n" ∷ [])
  -- [Memory 3] what is enabled: ZERO or a KSD, or a work and a tool with ZERO for the one that is not there; a KSB and a KLD
  pub enabled : Session (
      "KEN?" ⇒ replies "ZERO=ZERO \nPI_BASE=KSB(PI) \nPI_LEVELLING=KLD(PI)\n" ∷ "CCL 1 ADVANCED" ⇒ taken
      ∷ "KST T" ⇒ taken ∷ "KSW W" ⇒ taken ∷ "KSD D" ⇒ taken ∷ "KSB B" ⇒ taken ∷ "KLD L" ⇒ taken
      ∷ "KEN T" ⇒ taken ∷ "KEN?" ⇒ replies "ZERO=ZERO \nT=KST \nPI_BASE=KSB(PI) \nPI_LEVELLING=KLD(PI)\n"
      ∷ "KEN B" ⇒ taken ∷ "KEN W" ⇒ taken ∷ "KEN L" ⇒ taken ∷ "KEN?" ⇒ replies "W=KSW \nT=KST \nB=KSB(USER) \nL=KLD(USER)\n"
      ∷ "KEN D" ⇒ taken ∷ "KEN?" ⇒ replies "D=KSD \nB=KSB(USER) \nL=KLD(USER)\n"
      ∷ "KEN W" ⇒ taken ∷ "KEN?" ⇒ replies "W=KSW \nZERO=ZERO \nB=KSB(USER) \nL=KLD(USER)\n" ∷ [])
  -- [Memory 3] in use are the enabled systems and those on their chains: here C on B on A
  pub in_use : Session (
      "KSD A" ⇒ taken ∷ "KSD B" ⇒ taken ∷ "KSD C" ⇒ taken ∷ "KLN B A" ⇒ taken ∷ "KLN C B" ⇒ taken ∷ "KEN B" ⇒ taken
      ∷ "KSD A X 1" ⇒ number 11 ∷ "KRM B" ⇒ number 11 ∷ "KRM C" ⇒ taken ∷ [])
  -- [Memory 4] after a restart the permanent memory is back, and level and error are 0
  pub restart : Session (
      "CCL 1 ADVANCED" ⇒ taken ∷ "KSD A" ⇒ taken ∷ "KEN A" ⇒ taken ∷ "WPA SKS" ⇒ taken ∷ "KSD B" ⇒ taken ∷ "KEN ZERO" ⇒ taken ∷ "FOO" ⇒ number 4
      ∷ restarts ∷ "ERR?" ⇒ replies "0\n" ∷ "KEN?" ⇒ replies "A=KSD \nPI_BASE=KSB(PI) \nPI_LEVELLING=KLD(PI)\n"
      ∷ "KLN?" ⇒ replies "ZERO=ZERO \nPI_BASE=HEXAPOD \nPI_LEVELLING=HEXAPOD \nA=ZERO\n" ∷ "KSB K" ⇒ number 9 ∷ [])
  -- [Memory 4] the factory state has level 0 and error 0, and every query has its reply
  pub factory_state : Session (
      "KEN PI_BASE" ⇒ number 9 ∷ restarts ∷ "ERR?" ⇒ replies "0\n"
      ∷ "KLS?" ⇒ lists (
      "Name=ZERO Type=ZERO X=0.000000 Y=0.000000 Z=0.000000 U=0.000000 V=0.000000 W=0.000000 \n"
      ∷ "Name=PI_BASE Type=KSB(PI) X=0.000000 Y=0.000000 Z=0.000000 U=0.000000 V=0.000000 W=0.000000 \n"
      ∷ "Name=PI_LEVELLING Type=KLD(PI) X=0.000000 Y=0.000000 Z=0.000000 U=0.000000 V=0.000000 W=0.000000\n" ∷ []) ∷ [])

-- ---- "Poses and chains"

pub record OfPoses : Type 0 where
  -- [Poses] the quarter turns about X, Y and Z of 1, 2, 3, and all three: first W, then V, then U
  pub turns : Session (
      "KSD A U 90" ⇒ taken ∷ "KSD B X 1 Y 2 Z 3" ⇒ taken ∷ "KLN B A" ⇒ taken
      ∷ "KLT? B" ⇒ replies "Name=B EndCoordinateSystem=ZERO X=1.000000 Y=-3.000000 Z=2.000000 U=90.000000 V=0.000000 W=0.000000 Steps=2\n"
      ∷ "KSD A V 90" ⇒ taken
      ∷ "KLT? B" ⇒ replies "Name=B EndCoordinateSystem=ZERO X=3.000000 Y=2.000000 Z=-1.000000 U=0.000000 V=90.000000 W=0.000000 Steps=2\n"
      ∷ "KSD A W 90" ⇒ taken
      ∷ "KLT? B" ⇒ replies "Name=B EndCoordinateSystem=ZERO X=-2.000000 Y=1.000000 Z=3.000000 U=0.000000 V=0.000000 W=90.000000 Steps=2\n"
      ∷ "KSD A U 90 V 180 W 90" ⇒ taken
      ∷ "KLT? B" ⇒ replies "Name=B EndCoordinateSystem=ZERO X=2.000000 Y=3.000000 Z=1.000000 U=90.000000 V=180.000000 W=90.000000 Steps=2\n" ∷ [])
  -- [Poses] R·S: the predecessor's rotation stands first
  pub product : Session (
      "KSD A U 90" ⇒ taken ∷ "KSD B W 90" ⇒ taken ∷ "KLN B A" ⇒ taken
      ∷ "KLT? B" ⇒ replies "Name=B EndCoordinateSystem=ZERO X=0.000000 Y=0.000000 Z=0.000000 U=90.000000 V=0.000000 W=90.000000 Steps=2\n"
      ∷ "KLN B ZERO" ⇒ taken ∷ "KLN A B" ⇒ taken
      ∷ "KLT? A" ⇒ replies "Name=A EndCoordinateSystem=ZERO X=0.000000 Y=0.000000 Z=0.000000 U=0.000000 V=90.000000 W=90.000000 Steps=2\n" ∷ [])
  -- [Poses] offsets and steps add up along the chain; fixed systems have the pose that changes nothing and no steps
  pub chains : Session (
      "KSD A X 1" ⇒ taken ∷ "KSD B Y -2" ⇒ taken ∷ "KSD C Z 0.5" ⇒ taken ∷ "KLN B A" ⇒ taken ∷ "KLN C B" ⇒ taken
      ∷ "KLT? C" ⇒ replies "Name=C EndCoordinateSystem=ZERO X=1.000000 Y=-2.000000 Z=0.500000 U=0.000000 V=0.000000 W=0.000000 Steps=3\n"
      ∷ "KLT? PI_BASE" ⇒ replies "Name=PI_BASE EndCoordinateSystem=HEXAPOD X=0.000000 Y=0.000000 Z=0.000000 U=0.000000 V=0.000000 W=0.000000 Steps=0\n" ∷ [])
  -- [02 §5] the inverse of X 1 Y 2 Z 3 U 90 W 90; and at the bench, typed as B, behind A and before it
  pub undone : inverse (record { at = record { x = pos 1; y = pos 2; z = pos 3 }; rot = rot_of (record { u = 1; v = 0; w = 1 }) })
      ≡ record { at = record { x = neg_ℤ (pos 3); y = pos 1; z = pos 2 }; rot = rot_of (record { u = 0; v = 1; w = 3 }) }
  pub undoing : Session (
      "KSD A X 1 Y 2 Z 3 U 90 W 90" ⇒ taken ∷ "KSD B X -3 Y 1 Z 2 V 90 W 270" ⇒ taken ∷ "KLN B A" ⇒ taken
      ∷ "KLT? B" ⇒ replies "Name=B EndCoordinateSystem=ZERO X=0.000000 Y=0.000000 Z=0.000000 U=0.000000 V=0.000000 W=0.000000 Steps=2\n"
      ∷ "KLN B ZERO" ⇒ taken ∷ "KLN A B" ⇒ taken
      ∷ "KLT? A" ⇒ replies "Name=A EndCoordinateSystem=ZERO X=0.000000 Y=0.000000 Z=0.000000 U=0.000000 V=0.000000 W=0.000000 Steps=2\n" ∷ [])
  -- [02 §5] C on B on A; then the two last joined, as E on A, and the two first, as C on D: each is typed as KLT? showed the two
  pub regrouped : Session (
      "KSD A X 1 U 90" ⇒ taken ∷ "KSD B Y 2 W 90" ⇒ taken ∷ "KSD C Z 3 V 90" ⇒ taken ∷ "KLN C B" ⇒ taken
      ∷ "KLT? C" ⇒ replies "Name=C EndCoordinateSystem=ZERO X=0.000000 Y=2.000000 Z=3.000000 U=90.000000 V=180.000000 W=270.000000 Steps=2\n"
      ∷ "KLN B A" ⇒ taken
      ∷ "KLT? B" ⇒ replies "Name=B EndCoordinateSystem=ZERO X=1.000000 Y=0.000000 Z=2.000000 U=90.000000 V=0.000000 W=90.000000 Steps=2\n"
      ∷ "KLT? C" ⇒ replies "Name=C EndCoordinateSystem=ZERO X=1.000000 Y=-3.000000 Z=2.000000 U=0.000000 V=0.000000 W=90.000000 Steps=3\n"
      ∷ "KSD E Y 2 Z 3 U 90 V 180 W 270" ⇒ taken ∷ "KLN E A" ⇒ taken
      ∷ "KLT? E" ⇒ replies "Name=E EndCoordinateSystem=ZERO X=1.000000 Y=-3.000000 Z=2.000000 U=0.000000 V=0.000000 W=90.000000 Steps=2\n"
      ∷ "KSD D X 1 Z 2 U 90 W 90" ⇒ taken ∷ "KLN C D" ⇒ taken
      ∷ "KLT? C" ⇒ replies "Name=C EndCoordinateSystem=ZERO X=1.000000 Y=-3.000000 Z=2.000000 U=0.000000 V=0.000000 W=90.000000 Steps=2\n" ∷ [])
  -- [02 §14] the line that the request has; one with three different angles; the last
  pub sheet_request : get_or sheet_lines 40 [] ≡ ascii "180 180 0 0 0 180"
  pub sheet_other : get_or sheet_lines 28 [] ≡ ascii "90 270 0 0 270 270"
  pub sheet_last : get_or sheet_lines 63 [] ≡ ascii "270 270 270 0 270 0"
