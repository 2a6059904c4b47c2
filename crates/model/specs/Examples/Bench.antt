-- The bench's program by examples: its acts, what the file holds then, and the words of a reason.
use Rattle.std.specs.Prelude.{◌≡◌, ◌∷◌, ◌++◌}
use Rattle.model.specs.Base.{ℕ, List, [], map, none, some}
use Rattle.model.specs.Ascii.{ascii}
use Rattle.model.specs.Machine.{began, start_factory}
use Rattle.model.specs.Reasons.{reason_line}
use Rattle.model.specs.Bench.{Act, prints, stores, explains, plainly, in_pipe, at_terminal, ksbench, printed_bytes, powered_on, file_after}
use Rattle.model.specs.Sessions.{hex}

-- A is defined and saved; B is absent; the last line has no LF, and is malformed
abbrev pub morning : List ℕ
morning = ascii "ksd a x 1\nwpa sks\nkrm b\nwpa"

-- the images of A at 1 and at 2
abbrev pub at_one : List ℕ
at_one = hex "01 01 01 01 41 80 89 7A 00 00 00 00 00 00 00 00 00 00"

abbrev pub at_two : List ℕ
at_two = hex "01 01 01 01 41 80 92 F4 01 00 00 00 00 00 00 00 00 00 00"

abbrev text : List ℕ → List Act
text t = map prints t

pub record OfBench : Type 0 where
  pub at_terminal_lem : ksbench at_terminal start_factory morning ≡ stores at_one ∷ (text (ascii "E 7\n") ++ (explains 7 ∷ (text (ascii "E 5\n") ++ (explains 5 ∷ []))))
  pub in_pipe_lem : ksbench in_pipe start_factory morning ≡ stores at_one ∷ (text (ascii "E 7\n") ++ text (ascii "E 5\n"))
  pub plain : ksbench plainly start_factory morning ≡ text (ascii "E 7\nE 5\n")
  -- the file holds the last image that was stored, or is as it was
  pub stored : file_after none (stores at_one ∷ (text (ascii "E 7\n") ++ (stores at_two ∷ (explains 5 ∷ [])))) ≡ some at_two
  pub unstored : file_after none (text (ascii "E 7\n")) ≡ none
  -- a start without a file, with an image, and with what is none
  pub missing : powered_on none ≡ began start_factory 0
  pub found : printed_bytes (ksbench in_pipe (powered_on (some at_two)).state (ascii "kln?")) ≡ ascii "ZERO=ZERO \nPI_BASE=HEXAPOD \nPI_LEVELLING=HEXAPOD \nA=ZERO\n"
  pub refused : powered_on (some (ascii "frames")) ≡ began start_factory 14
  -- the words of each number with which a line can be refused
  pub three : reason_line 3 ≡ ascii "3: unreadable: longer than 120 bytes, or with a byte that cannot be printed\n"
  pub four : reason_line 4 ≡ ascii "4: no command: no word at all, or an unknown one\n"
  pub five : reason_line 5 ≡ ascii "5: malformed: too few words or too many, or one that has not the form asked for\n"
  pub six : reason_line 6 ≡ ascii "6: beyond: offset past the limit, or no quarter turn\n"
  pub seven : reason_line 7 ≡ ascii "7: absent: there is no system of that name\n"
  pub eight : reason_line 8 ≡ ascii "8: reserved: the name is kept for a fixed system\n"
  pub nine : reason_line 9 ≡ ascii "9: locked: this needs level 1 (CCL 1 ADVANCED)\n"
  pub ten : reason_line 10 ≡ ascii "10: wrong type: no link goes there, or a system named is of another type or group\n"
  pub eleven : reason_line 11 ≡ ascii "11: in use: it is enabled, or an enabled system hangs on it\n"
  pub twelve : reason_line 12 ≡ ascii "12: ring: a system would hang on itself\n"
  pub thirteen : reason_line 13 ≡ ascii "13: full: there are 16 systems already\n"
  pub fifteen : reason_line 15 ≡ ascii "15: turned: the platform's U, V and W are not all zero\n"
  pub twenty : reason_line 20 ≡ ascii "20: needed: it was saved in use, and the next start has it so; WPA SKS once it is out of use frees it\n"
