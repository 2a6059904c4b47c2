-- Document 01, "A line", by examples.
use Rattle.std.specs.Prelude.{◌≡◌, ◌∷◌, ◌++◌}
use Rattle.model.specs.Base.{[], replicate}
use Rattle.model.specs.Ascii.{ascii}
use Rattle.model.specs.Machine.{start_factory}
use Rattle.model.specs.Sessions.{answer, replies, taken, number, sent, ◌⇒◌, Session}

pub record OfLines : Type 0 where
  -- [A line] words between any spaces, in capitals or not
  pub words : Session (
      "  ksd   Zaza  z 1  X  -2 " ⇒ taken ∷ "Klt? zAZA"
      ⇒ replies "Name=ZAZA EndCoordinateSystem=ZERO X=-2.000000 Y=0.000000 Z=1.000000 U=0.000000 V=0.000000 W=0.000000 Steps=1\n"
      ∷ "" ⇒ number 4 ∷ "   " ⇒ number 4 ∷ "KSDA" ⇒ number 4 ∷ "KSD? A" ⇒ number 4 ∷ "KEN ?" ⇒ number 5 ∷ [])
  -- [A line] fixed words must match exactly
  pub fixed_words_lem : Session (
      "ccl 1 advanced" ⇒ taken ∷ "CCL 1" ⇒ number 5 ∷ "CCL 1 ADVANCE" ⇒ number 5 ∷ "CCL 2 ADVANCED" ⇒ number 5 ∷ "CCL 0 ADVANCED" ⇒ number 5
      ∷ "CCL 00" ⇒ number 5 ∷ "WPA" ⇒ number 5 ∷ "WPA SKS SKS" ⇒ number 5 ∷ "RPA SKSX" ⇒ number 5 ∷ "KSD A XX 1" ⇒ number 5 ∷ "KEN? A" ⇒ number 5 ∷ [])
  -- [Error 5] as many words as the command has, no fewer and no more
  pub counts : Session (
      "KSD A" ⇒ taken ∷ "KRM" ⇒ number 5 ∷ "KRM A A" ⇒ number 5 ∷ "KEN" ⇒ number 5 ∷ "KEN A A" ⇒ number 5 ∷ "KCP A" ⇒ number 5 ∷ "KCP A B C" ⇒ number 5
      ∷ "KLN A" ⇒ number 5 ∷ "KLN A ZERO ZERO" ⇒ number 5 ∷ "KLS? A" ⇒ number 5 ∷ "KLN? A" ⇒ number 5 ∷ "KLT? A A A" ⇒ number 5 ∷ "ERR? 0" ⇒ number 5
      ∷ "RPA" ⇒ number 5 ∷ "DPA" ⇒ number 5 ∷ "DPA SKS SKS" ⇒ number 5 ∷ "CCL" ⇒ number 5 ∷ "CCL 1 ADVANCED 1" ⇒ number 5 ∷ [])
  -- [A line] names: 1 to 16 bytes, letters, digits and underscore, a letter first
  pub names : Session (
      "KSD AZ09_" ⇒ taken ∷ "KSD A_B_C_D_E_F_G_16" ⇒ taken ∷ "KSD A_B_C_D_E_F_G_167" ⇒ number 5 ∷ "KSD 1A" ⇒ number 5 ∷ "KSD _A" ⇒ number 5
      ∷ "KSD A-B" ⇒ number 5 ∷ "KSD A/" ⇒ number 5 ∷ "KSD A:" ⇒ number 5 ∷ "KSD A@" ⇒ number 5 ∷ "KSD A[" ⇒ number 5 ∷ "KSD A`" ⇒ number 5
      ∷ "KSD A{" ⇒ number 5 ∷ "KSD" ⇒ number 5 ∷ [])
  -- [A line] reserved names
  pub reserved_names_lem : Session (
      "KSD ZERO" ⇒ number 8 ∷ "KSD PI_BASE" ⇒ number 8 ∷ "KSD PI_LEVELLING" ⇒ number 8 ∷ "KSD hexapod" ⇒ number 8 ∷ "KSD HEXAPOD1" ⇒ taken ∷ [])
  -- [A line] numbers: 1 to 4 digits, and a point with 1 to 6
  pub numbers : Session (
      "KSD A X 0001 Y -12.5 Z 0.000001" ⇒ taken
      ∷ "KLT? A" ⇒ replies "Name=A EndCoordinateSystem=ZERO X=1.000000 Y=-12.500000 Z=0.000001 U=0.000000 V=0.000000 W=0.000000 Steps=1\n"
      ∷ "KSD A X 00001" ⇒ number 5 ∷ "KSD A X 1." ⇒ number 5 ∷ "KSD A X .5" ⇒ number 5 ∷ "KSD A X 1.0000000" ⇒ number 5 ∷ "KSD A X 1.2.3" ⇒ number 5
      ∷ "KSD A X -" ⇒ number 5 ∷ "KSD A X --1" ⇒ number 5 ∷ "KSD A X +1" ⇒ number 5 ∷ "KSD A X 1E1" ⇒ number 5 ∷ "KSD A X -2000.000001" ⇒ number 6
      ∷ "KSD A Y 2001" ⇒ number 6 ∷ "KSD A Z 2000.000001" ⇒ number 6
      ∷ "KSD A X -2000 Y 2000.000000" ⇒ taken ∷ "KSD A X -0 Y -0.000001" ⇒ taken
      ∷ "KLT? A" ⇒ replies "Name=A EndCoordinateSystem=ZERO X=0.000000 Y=-0.000001 Z=0.000000 U=0.000000 V=0.000000 W=0.000000 Steps=1\n" ∷ [])
  -- [A line] pairs in any order, no axis twice; a malformed word gives 5 even after a value that is too large
  pub pairs : Session (
      "KSD A W 90 Z 3 V 180 Y 2 U 270 X 1" ⇒ taken
      ∷ "KLT? A" ⇒ replies "Name=A EndCoordinateSystem=ZERO X=1.000000 Y=2.000000 Z=3.000000 U=90.000000 V=0.000000 W=270.000000 Steps=1\n"
      ∷ "KSD A X" ⇒ number 5 ∷ "KSD A X 1 X 1" ⇒ number 5 ∷ "KSD A Q 1" ⇒ number 5 ∷ "KSD A 1 X" ⇒ number 5
      ∷ "KSD A X 9999 Y" ⇒ number 5 ∷ "KSD A X 9999 Y 1x" ⇒ number 5 ∷ "KSD A X 9999 U 45" ⇒ number 6 ∷ [])
  -- [A line] angles, however they are written; below zero a full turn is added
  pub angles : Session (
      "KSD A U 0 V 90.000000 W 180" ⇒ taken ∷ "KSD A U 270 V 180 W -180" ⇒ taken ∷ "KSD A V -90.0 W -270" ⇒ taken
      ∷ "KLT? A" ⇒ replies "Name=A EndCoordinateSystem=ZERO X=0.000000 Y=0.000000 Z=0.000000 U=0.000000 V=270.000000 W=90.000000 Steps=1\n"
      ∷ "KSD A U 45" ⇒ number 6 ∷ "KSD A U 90.000001" ⇒ number 6 ∷ "KSD A V 360" ⇒ number 6 ∷ "KSD A W -360" ⇒ number 6 ∷ "KSD A W 1" ⇒ number 6 ∷ [])
  -- [Error 3] 120 bytes are taken and 121 are not; bytes 32 and 126 can be read, 31 and 127 cannot
  pub longest : answer (sent start_factory (ascii "KSD A" ++ replicate 115 32)) ≡ taken
  pub too_long : answer (sent start_factory (ascii "KSD A" ++ replicate 116 32)) ≡ number 3
  pub last_byte : answer (sent start_factory (ascii "KSD A" ++ (126 ∷ []))) ≡ number 5
  pub outside : answer (sent start_factory (ascii "KSD A" ++ (127 ∷ []))) ≡ number 3
  pub control : answer (sent start_factory (ascii "KSD A" ++ (31 ∷ []))) ≡ number 3
