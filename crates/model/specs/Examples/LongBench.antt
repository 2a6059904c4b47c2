-- Document 02 §4 by examples.
use Prim.Native.String.{String}
use Rattle.std.specs.Prelude.{◌≡◌, ◌∷◌, ◌++◌}
use Rattle.model.specs.Base.{ℕ, List, [], map, Bool, true, false, none, some}
use Rattle.model.specs.Image.{accepted}
use Rattle.model.specs.LongBench.{former_limit, memory_within}
use Rattle.model.specs.Sessions.{replies, taken, number, hex, Turn, ◌⇒◌, restarts, writes, starts, Session}
use Rattle.model.specs.Examples.Images.{image_of_all}

-- lines that are all taken, without a reply
abbrev pub all_taken : List String → List Turn
all_taken lines = map (λ (l : String). l ⇒ taken) lines

-- sixteen systems at the limit, each on the one before it; the first turns those behind it over, and the last is turned by itself
abbrev pub sixteen_long : List String
sixteen_long =
    "KSD A X 2000 Z -2000 U 180" ∷ "KSD B X 2000 Z -2000" ∷ "KSD C X 2000 Z -2000" ∷ "KSD D X 2000 Z -2000" ∷ "KSD E X 2000 Z -2000"
    ∷ "KSD F X 2000 Z -2000" ∷ "KSD G X 2000 Z -2000" ∷ "KSD H X 2000 Z -2000" ∷ "KSD I X 2000 Z -2000" ∷ "KSD J X 2000 Z -2000"
    ∷ "KSD K X 2000 Z -2000" ∷ "KSD L X 2000 Z -2000" ∷ "KSD M X 2000 Z -2000" ∷ "KSD N X 2000 Z -2000" ∷ "KSD O X 2000 Z -2000" ∷ "KSD P X 2000 Z -2000 W 180"
    ∷ "KLN B A" ∷ "KLN C B" ∷ "KLN D C" ∷ "KLN E D" ∷ "KLN F E" ∷ "KLN G F" ∷ "KLN H G" ∷ "KLN I H" ∷ "KLN J I" ∷ "KLN K J" ∷ "KLN L K" ∷ "KLN M L"
    ∷ "KLN N M" ∷ "KLN O N" ∷ "KLN P O" ∷ []

-- A enabled, at document 01's limit in each axis, as the machine of document 01 saved it; and at today's
abbrev pub saved_before : List ℕ
saved_before = hex "01 01 01 01 41 80 A8 D6 B9 07 FF A7 D6 B9 07 80 A8 D6 B9 07 00 00 00 00 00 01 00 00"

abbrev pub saved_today : List ℕ
saved_today = hex "01 01 01 01 41 80 D0 AC F3 0E FF CF AC F3 0E 82 A8 D6 B9 07 00 00 00 00 00 01 00 00"

-- A alone, with this X
abbrev pub saved_x : List ℕ → List ℕ
saved_x x = hex "01 01 01 01 41" ++ (x ++ hex "00 00 00 00 00 00 00 01 00 00")

-- the memory that is read was well formed under document 01's limit
abbrev pub read_formerly : List ℕ → Bool
read_formerly bytes = elim (accepted bytes) [ none ↦ false | some m ↦ memory_within former_limit m ]

pub record OfLongBench : Type 0 where
  -- [02 §4; Error 6] two metres either way, whatever the axis, for each type that has offsets; one millionth more is 6
  pub either_way : Session (
      "CCL 1 ADVANCED" ⇒ taken ∷ "KSD A X 2000.000000 Y -2000 Z 2000" ⇒ taken ∷ "KST T X -2000.0 Y 1999.999999 Z -2000.000000" ⇒ taken
      ∷ "KSW W X 1500.5 Y -1000.000001" ⇒ taken ∷ "KLD L Z 2000" ⇒ taken ∷ "KSD A X 2000.000001" ⇒ number 6 ∷ "KSD A Y -2000.000001" ⇒ number 6
      ∷ "KST T Z 2000.1" ⇒ number 6 ∷ "KSW W X -2001" ⇒ number 6 ∷ "KLD L Y 9999.999999" ⇒ number 6 ∷ "KSB B X 2000" ⇒ number 5
      ∷ "KLT? A" ⇒ replies "Name=A EndCoordinateSystem=ZERO X=2000.000000 Y=-2000.000000 Z=2000.000000 U=0.000000 V=0.000000 W=0.000000 Steps=1\n" ∷ [])
  -- [02 §4, §3; demand 3] sixteen deep: 32 metres along X, and ZERO as far off seen from P; P is enabled, and nothing under it can be moved
  pub sixteen_deep : Session (
      all_taken sixteen_long
      ++ ("KLT? P" ⇒ replies "Name=P EndCoordinateSystem=ZERO X=32000.000000 Y=0.000000 Z=28000.000000 U=0.000000 V=180.000000 W=0.000000 Steps=16\n"
      ∷ "KLT? ZERO P" ⇒ replies "Name=ZERO EndCoordinateSystem=P X=32000.000000 Y=0.000000 Z=28000.000000 U=0.000000 V=180.000000 W=0.000000 Steps=16\n"
      ∷ "KEN P" ⇒ taken ∷ "KSD A" ⇒ number 11 ∷ "KSD H X -2000" ⇒ number 11 ∷ "KLN I ZERO" ⇒ number 11 ∷ "KRM O" ⇒ number 11 ∷ "WPA SKS" ⇒ taken
      ∷ "KLT? P" ⇒ replies "Name=P EndCoordinateSystem=ZERO X=32000.000000 Y=0.000000 Z=28000.000000 U=0.000000 V=180.000000 W=0.000000 Steps=16\n"
      ∷ restarts
      ∷ "KLT? P" ⇒ replies "Name=P EndCoordinateSystem=ZERO X=32000.000000 Y=0.000000 Z=28000.000000 U=0.000000 V=180.000000 W=0.000000 Steps=16\n" ∷ []))
  -- [02 §4; Image] an old image starts, shows what it showed, and is written again to the byte
  pub old_image : Session (
      starts saved_before 0 ∷ "KEN?" ⇒ replies "A=KSD \nPI_BASE=KSB(PI) \nPI_LEVELLING=KLD(PI)\n"
      ∷ "KLT? A" ⇒ replies "Name=A EndCoordinateSystem=ZERO X=1000.000000 Y=-1000.000000 Z=1000.000000 U=0.000000 V=0.000000 W=0.000000 Steps=1\n"
      ∷ writes saved_before ∷ "WPA SKS" ⇒ taken ∷ writes saved_before ∷ [])
  -- [02 §4; Memory 2] which images are old ones: these are, and not those with one millionth more than document 01's limit, above or below
  pub old : read_formerly saved_before ≡ true
  pub old_of_all : read_formerly image_of_all ≡ true
  pub old_factory : read_formerly (hex "01 00 00 00 00 00") ≡ true
  pub not_old_above : read_formerly (saved_x (hex "82 A8 D6 B9 07")) ≡ false
  pub not_old_below : read_formerly (saved_x (hex "81 A8 D6 B9 07")) ≡ false
  -- [02 §4; Error 14] an image of today holds what is longer; one millionth past the limit, above and below, is no image
  pub new_image : Session (
      "KSD A X 2000 Y -2000 Z 1000.000001" ⇒ taken ∷ "KEN A" ⇒ taken ∷ "WPA SKS" ⇒ taken ∷ writes saved_today ∷ starts saved_today 0
      ∷ "KLT? A" ⇒ replies "Name=A EndCoordinateSystem=ZERO X=2000.000000 Y=-2000.000000 Z=1000.000001 U=0.000000 V=0.000000 W=0.000000 Steps=1\n"
      ∷ starts (saved_x (hex "82 A8 D6 B9 07")) 0 ∷ starts (saved_x (hex "81 A8 D6 B9 07")) 0
      ∷ starts (saved_x (hex "80 D0 AC F3 0E")) 0 ∷ starts (saved_x (hex "FF CF AC F3 0E")) 0
      ∷ starts (saved_x (hex "82 D0 AC F3 0E")) 14 ∷ starts (saved_x (hex "81 D0 AC F3 0E")) 14 ∷ [])
