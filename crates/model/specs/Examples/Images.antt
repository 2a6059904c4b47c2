-- Document 01, "Image", by examples.
use Rattle.std.specs.Prelude.{◌∷◌, ◌++◌}
use Rattle.model.specs.Base.{ℕ, List, []}
use Rattle.model.specs.Sessions.{replies, taken, number, hex, ◌⇒◌, restarts, writes, starts, Session}

-- an image of every type, of links, and of a pair and the others enabled
abbrev pub image_of_all : List ℕ
image_of_all =
    hex "01 06" ++ (hex "01 01 41 80 DA C4 09 01 FF A7 D6 B9 07 01 02 03 00" ++ (hex "02 02 54 31 00 00 00 00 00 00 00"
    ++ (hex "03 01 57 7E 7F 80 01 00 00 00 00" ++ (hex "04 01 42 00 00 00 00 00 01 00" ++ (hex "05 01 4C C0 84 3D 00 00 00 00 00 00"
    ++ (hex "01 01 43 00 00 00 00 00 00 01" ++ hex "01 03 02 04 05"))))))

pub record OfImages : Type 0 where
  -- [Image] the permanent memory is written to the byte: types 1 to 5, A, T1, W, B, L, and C on A; then the pair W and T1, B and L
  pub writing : Session (
      "KSD A X 10 Y -0.000001 Z -1000 U 90 V 180 W 270" ⇒ taken ∷ "KST T1" ⇒ taken ∷ "KSW W X 0.000063 Y -0.000064 Z 0.000064" ⇒ taken
      ∷ "CCL 1 ADVANCED" ⇒ taken ∷ "KSB B W 90" ⇒ taken ∷ "KLD L X 0.5" ⇒ taken ∷ "KSD C" ⇒ taken ∷ "KLN C A" ⇒ taken ∷ "KEN T1" ⇒ taken ∷ "KEN W" ⇒ taken
      ∷ "KEN B" ⇒ taken ∷ "KEN L" ⇒ taken ∷ writes (hex "01 00 00 00 00 00") ∷ "WPA SKS" ⇒ taken ∷ writes image_of_all ∷ writes image_of_all ∷ [])
  -- [Image] a start from these bytes sets both memories, level 0 and error 0
  pub starting : Session (
      "CCL 1 ADVANCED" ⇒ taken ∷ "FOO" ⇒ number 4 ∷ starts image_of_all 0 ∷ "ERR?" ⇒ replies "0\n" ∷ "KSB K" ⇒ number 9
      ∷ "KEN?" ⇒ replies "W=KSW \nT1=KST \nB=KSB(USER) \nL=KLD(USER)\n"
      ∷ "KLN?" ⇒ replies "ZERO=ZERO \nPI_BASE=HEXAPOD \nPI_LEVELLING=HEXAPOD \nA=ZERO \nT1=ZERO \nW=ZERO \nB=PI_BASE \nL=PI_LEVELLING \nC=A\n"
      ∷ "KLT? C" ⇒ replies "Name=C EndCoordinateSystem=ZERO X=10.000000 Y=-0.000001 Z=-1000.000000 U=90.000000 V=180.000000 W=270.000000 Steps=2\n"
      ∷ "CCL 1 ADVANCED" ⇒ taken ∷ "DPA SKS" ⇒ taken ∷ writes image_of_all ∷ restarts
      ∷ "KEN?" ⇒ replies "W=KSW \nT1=KST \nB=KSB(USER) \nL=KLD(USER)\n" ∷ [])
  -- [Error 14] refused bytes give the factory state: none, too few, too many, another edition, a number in a longer form
  pub refused_forms : Session (
      "KSD A" ⇒ taken ∷ "WPA SKS" ⇒ taken ∷ "FOO" ⇒ number 4 ∷ starts [] 14 ∷ "ERR?" ⇒ replies "0\n"
      ∷ "KLN?" ⇒ replies "ZERO=ZERO \nPI_BASE=HEXAPOD \nPI_LEVELLING=HEXAPOD\n" ∷ writes (hex "01 00 00 00 00 00")
      ∷ starts (hex "01 00 00 00 00") 14 ∷ starts (hex "01 00 00 00 00 00 00") 14 ∷ starts (hex "02 00 00 00 00 00") 14 ∷ starts (hex "00 00 00 00 00 00") 14
      ∷ starts (hex "01 80 00 00 00 00 00") 14 ∷ starts (hex "01 00 02 00 00 00 00") 14 ∷ starts (hex "01 00 00 00 00 00") 0 ∷ [])
  -- [Error 14; Memory 4] an image of A that is accepted; then one thing wrong with the memory each time
  pub refused_systems : Session (
      starts (hex "01 01 01 01 41 00 00 00 00 00 00 00 00 01 00 00") 0
      -- the type
      ∷ starts (hex "01 01 00 01 41 00 00 00 00 00 00 00 00 01 00 00") 14 ∷ starts (hex "01 01 07 01 41 00 00 00 00 00 00 00 00 01 00 00") 14
      -- the name: in small letters, none, reserved
      ∷ starts (hex "01 01 01 01 61 00 00 00 00 00 00 00 00 01 00 00") 14 ∷ starts (hex "01 01 01 00 00 00 00 00 00 00 00 00 01 00 00") 14
      ∷ starts (hex "01 01 01 04 5A 45 52 4F 00 00 00 00 00 00 00 00 01 00 00") 14
      -- X, Y, Z beyond the limit
      ∷ starts (hex "01 01 01 01 41 82 D0 AC F3 0E 00 00 00 00 00 00 00 01 00 00") 14 ∷ starts (hex "01 01 01 01 41 00 82 D0 AC F3 0E 00 00 00 00 00 00 01 00 00") 14
      ∷ starts (hex "01 01 01 01 41 00 00 82 D0 AC F3 0E 00 00 00 00 00 01 00 00") 14
      -- four quarter turns of U, V, W
      ∷ starts (hex "01 01 01 01 41 00 00 00 04 00 00 00 00 01 00 00") 14 ∷ starts (hex "01 01 01 01 41 00 00 00 00 04 00 00 00 01 00 00") 14
      ∷ starts (hex "01 01 01 01 41 00 00 00 00 00 04 00 00 01 00 00") 14
      -- the predecessor: A itself, and none there
      ∷ starts (hex "01 01 01 01 41 00 00 00 00 00 00 01 00 01 00 00") 14 ∷ starts (hex "01 01 01 01 41 00 00 00 00 00 00 02 00 01 00 00") 14
      -- a KSB, and with an X, a Y, a Z
      ∷ starts (hex "01 01 04 01 41 00 00 00 00 00 00 00 00 00 00 00") 0 ∷ starts (hex "01 01 04 01 41 02 00 00 00 00 00 00 00 00 00 00") 14 ∷ starts (hex "01 01 04 01 41 00 02 00 00 00 00 00 00 00 00 00") 14
      ∷ starts (hex "01 01 04 01 41 00 00 02 00 00 00 00 00 00 00 00") 14
      -- B on A; then two of one name, a KSW on a KSD, a ring of two
      ∷ starts (hex "01 02 01 01 41 00 00 00 00 00 00 00 01 01 42 00 00 00 00 00 00 01 00 01 00 00") 0
      ∷ starts (hex "01 02 01 01 41 00 00 00 00 00 00 00 01 01 41 00 00 00 00 00 00 00 00 01 00 00") 14
      ∷ starts (hex "01 02 01 01 41 00 00 00 00 00 00 00 03 01 42 00 00 00 00 00 00 01 00 01 00 00") 14
      ∷ starts (hex "01 02 01 01 41 00 00 00 00 00 00 02 01 01 42 00 00 00 00 00 00 01 00 01 00 00") 14 ∷ [])
  -- [Error 14; Memory 3] what may not be enabled: a tool alone, a pair of two ZEROs, a KSD as work, a KSD as KSB, a system that is not there
  pub refused_enabled : Session (
      starts (hex "01 01 02 01 41 00 00 00 00 00 00 00 01 00 01 00 00") 0 ∷ starts (hex "01 01 02 01 41 00 00 00 00 00 00 00 00 01 00 00") 14
      ∷ starts (hex "01 00 01 00 00 00 00") 14 ∷ starts (hex "01 01 01 01 41 00 00 00 00 00 00 00 01 01 00 00 00") 14
      ∷ starts (hex "01 01 01 01 41 00 00 00 00 00 00 00 00 00 01 00") 14 ∷ starts (hex "01 01 01 01 41 00 00 00 00 00 00 00 00 00 00 01") 14
      ∷ starts (hex "01 00 00 01 00 00") 14 ∷ [])
