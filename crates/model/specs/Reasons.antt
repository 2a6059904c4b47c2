-- The reason of a refusal in words, for whoever sits at a terminal (ksbench). One sentence for each number; it begins with the word for what is wrong.
use Rattle.std.specs.Prelude.{◌++◌}
use Prim.Native.String.{String}
use Rattle.model.specs.Base.{ℕ, List, cond, eqb}
use Rattle.model.specs.Ascii.{ascii}
use Rattle.model.specs.Reply.{decimal}

-- n has this reason; any other number goes on
abbrev has : ℕ → ℕ → String → List ℕ → List ℕ
has n k text others = cond (eqb n k) (ascii text) others

-- from 10 on
unfoldable pub later_reason : ℕ → List ℕ
later_reason n =
    has n 10 "wrong type: no link goes there, or a system named is of another type or group"
    (has n 11 "in use: it is enabled, or an enabled system hangs on it"
    (has n 12 "ring: a system would hang on itself"
    (has n 13 "full: there are 16 systems already"
    (has n 14 "no image: no memory is saved as these bytes"
    (has n 15 "turned: the platform's U, V and W are not all zero"
    (has n 20 "needed: it was saved in use, and the next start has it so; WPA SKS once it is out of use frees it"
    (ascii "refused")))))))

unfoldable pub reason : ℕ → List ℕ
reason n =
    has n 1 "not well formed: no start gives such a state"
    (has n 2 "short: the lent buffer has under 4096 bytes"
    (has n 3 "unreadable: longer than 120 bytes, or with a byte that cannot be printed"
    (has n 4 "no command: no word at all, or an unknown one"
    (has n 5 "malformed: too few words or too many, or one that has not the form asked for"
    (has n 6 "beyond: offset past the limit, or no quarter turn"
    (has n 7 "absent: there is no system of that name"
    (has n 8 "reserved: the name is kept for a fixed system"
    (has n 9 "locked: this needs level 1 (CCL 1 ADVANCED)"
    (later_reason n)))))))))

-- the line that tells it: the number, a colon, the words
abbrev pub reason_line : ℕ → List ℕ
reason_line n = decimal n ++ (ascii ": " ++ (reason n ++ ascii "\n"))
