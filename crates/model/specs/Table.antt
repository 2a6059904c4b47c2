-- Document 01, "ksrun, and a table to hold": its cases as one statement, the worked example to the byte, and the five tempting points.
-- Every case goes through the machine's own step, from lines of bytes. The statements only; they are proved in proofs/Table.
use Rattle.std.specs.Prelude.{◌≡◌, ◌∷◌, ◌++◌}
use Rattle.model.specs.Base.{[]}
use Rattle.model.specs.Ascii.{ascii}
use Rattle.model.specs.Machine.{write_image, start_factory}
use Rattle.model.specs.Trace.{ksrun}
use Rattle.model.specs.Sessions.{answer, gives, replies, lists, taken, number, lent, fifteen, sixteen, then}

-- [ksrun, the table] one statement of all its cases
pub record Table : Type 0 where
  -- B of the worked example
  pub worked : then ("KSD A X 10 W 90" ∷ "KSD B X 2 Y -0.5" ∷ "KLN B A" ∷ []) "KLT? B"
      ≡ replies "Name=B EndCoordinateSystem=ZERO X=10.500000 Y=2.000000 Z=0.000000 U=0.000000 V=0.000000 W=90.000000 Steps=2\n"
  -- turns 180, 180, 0 are shown as 0, 0, 180, and 90, 90, 0 as 0, 90, 90
  pub half_turns : then ("KSD A U 180 V 180 W 0" ∷ []) "KLT? A"
      ≡ replies "Name=A EndCoordinateSystem=ZERO X=0.000000 Y=0.000000 Z=0.000000 U=0.000000 V=0.000000 W=180.000000 Steps=1\n"
  pub quarter_turns : then ("KSD A U 90 V 90 W 0" ∷ []) "KLT? A"
      ≡ replies "Name=A EndCoordinateSystem=ZERO X=0.000000 Y=0.000000 Z=0.000000 U=0.000000 V=90.000000 W=90.000000 Steps=1\n"
  -- −90 is kept and shown as 270
  pub negative_angle_kept : then ("KSD A W -90" ∷ []) "KLS?"
      ≡ lists (
      "Name=ZERO Type=ZERO X=0.000000 Y=0.000000 Z=0.000000 U=0.000000 V=0.000000 W=0.000000 \n"
      ∷ "Name=PI_BASE Type=KSB(PI) X=0.000000 Y=0.000000 Z=0.000000 U=0.000000 V=0.000000 W=0.000000 \n"
      ∷ "Name=PI_LEVELLING Type=KLD(PI) X=0.000000 Y=0.000000 Z=0.000000 U=0.000000 V=0.000000 W=0.000000 \n"
      ∷ "Name=A Type=KSD X=0.000000 Y=0.000000 Z=0.000000 U=0.000000 V=0.000000 W=270.000000\n" ∷ [])
  pub negative_angle_shown : then ("KSD A W -90" ∷ []) "KLT? A"
      ≡ replies "Name=A EndCoordinateSystem=ZERO X=0.000000 Y=0.000000 Z=0.000000 U=0.000000 V=0.000000 W=270.000000 Steps=1\n"
  -- the offset limit, as document 02 §4 has it, and the digits of a number
  pub limit_taken : then [] "KSD A X 2000.000000" ≡ taken
  pub beyond_limit : then [] "KSD A X 2000.000001" ≡ number 6
  pub four_digits : then [] "KSD A X 9999" ≡ number 6
  pub five_digits : then [] "KSD A X 10000" ≡ number 5
  -- the sixteenth system is taken, the seventeenth is not
  pub sixteenth : then fifteen "KSD P" ≡ taken
  pub seventeenth : then sixteen "KSD Q" ≡ number 13
  -- a link to itself, of a system that is not in use
  pub link_to_itself : then ("KSD A" ∷ []) "KLN A A" ≡ number 12
  -- C on B on A: when B goes, C is on A
  pub removed_between : then ("KSD A" ∷ "KSD B" ∷ "KSD C" ∷ "KLN B A" ∷ "KLN C B" ∷ "KRM B" ∷ []) "KLN?"
      ≡ replies "ZERO=ZERO \nPI_BASE=HEXAPOD \nPI_LEVELLING=HEXAPOD \nA=ZERO \nC=A\n"
  pub factory_image : answer (write_image start_factory (lent 4096)) ≡ gives (0x01 ∷ 0x00 ∷ 0x00 ∷ 0x00 ∷ 0x00 ∷ 0x00 ∷ [])

-- [ksrun, Tempting] the five mistakes, each with what the machine answers instead
pub record Tempting : Type 0 where
  -- t is turned by R before it is added: 10.5 and 2, and not 12 and −0.5
  pub offset_turned : then ("KSD A X 10 W 90" ∷ "KSD B X 2 Y -0.5" ∷ "KLN B A" ∷ []) "KLT? B"
      ≡ replies "Name=B EndCoordinateSystem=ZERO X=10.500000 Y=2.000000 Z=0.000000 U=0.000000 V=0.000000 W=90.000000 Steps=2\n"
  -- KRM mends every successor
  pub every_successor : then ("KSD A" ∷ "KSD B" ∷ "KSD C" ∷ "KSD D" ∷ "KLN B A" ∷ "KLN C B" ∷ "KLN D B" ∷ "KRM B" ∷ []) "KLN?"
      ≡ replies "ZERO=ZERO \nPI_BASE=HEXAPOD \nPI_LEVELLING=HEXAPOD \nA=ZERO \nC=A \nD=A\n"
  -- KCP over an ancestor is refused
  pub over_ancestor : then ("KSD A" ∷ "KSD B" ∷ "KSD C" ∷ "KLN B A" ∷ "KLN C B" ∷ []) "KCP C A" ≡ number 12
  -- an overwritten KSB gets the enabled one as its predecessor
  pub predecessor_anew : then ("CCL 1 ADVANCED" ∷ "KSB K" ∷ "KSB L" ∷ "KEN K" ∷ "KSB L U 90" ∷ []) "KLN?"
      ≡ replies "ZERO=ZERO \nPI_BASE=HEXAPOD \nPI_LEVELLING=HEXAPOD \nK=PI_BASE \nL=K\n"
  -- KEN of a tool keeps the work half
  pub work_half_lem : then ("KSW W" ∷ "KST T" ∷ "KEN W" ∷ "KEN T" ∷ []) "KEN?"
      ≡ replies "W=KSW \nT=KST \nPI_BASE=KSB(PI) \nPI_LEVELLING=KLD(PI)\n"

-- [ksrun; 02 §10] what the program prints: the worked example, refusals with bytes after the last LF, and no input, each with its tally
pub record Printed : Type 0 where
  pub worked : ksrun (ascii "KSD A X 10 W 90\nKSD B X 2 Y -0.5\nKLN B A\nKLT?\n")
      ≡ (ascii "Name=ZERO EndCoordinateSystem=ZERO X=0.000000 Y=0.000000 Z=0.000000 U=0.000000 V=0.000000 W=0.000000 Steps=0 \n"
      ++ (ascii "Name=PI_BASE EndCoordinateSystem=HEXAPOD X=0.000000 Y=0.000000 Z=0.000000 U=0.000000 V=0.000000 W=0.000000 Steps=0 \n"
      ++ (ascii "Name=PI_LEVELLING EndCoordinateSystem=HEXAPOD X=0.000000 Y=0.000000 Z=0.000000 U=0.000000 V=0.000000 W=0.000000 Steps=0 \n"
      ++ (ascii "Name=A EndCoordinateSystem=ZERO X=10.000000 Y=0.000000 Z=0.000000 U=0.000000 V=0.000000 W=90.000000 Steps=1 \n"
      ++ ascii "Name=B EndCoordinateSystem=ZERO X=10.500000 Y=2.000000 Z=0.000000 U=0.000000 V=0.000000 W=90.000000 Steps=2\nT 4 4\n"))))
  pub refusals : ksrun (ascii "FOO\n\nERR?") ≡ ascii "E 4\nE 4\n4\nT 1 3\nR 4 2\n"
  pub no_input : ksrun [] ≡ ascii "T 0 0\n"
