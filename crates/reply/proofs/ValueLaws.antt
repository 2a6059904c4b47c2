-- Laws of the six values as text.
use Prim.Native.Nat.{ℕ, ◌+◌}
use mathlib.Core.Path.{◌≡◌}
use mathlib.Core.List.{List, [], ◌++◌, append_assoc, append-nil}
use native.Mathlib.Omega.{arith}
use lib.ListN.{length, length-append}
use Rattle.model.specs.Ascii.{ascii}
use Rattle.model.specs.Lists.{joined}
use Rattle.model.specs.Reply.{value, degrees, six_values}
use Rattle.reply.specs.Types.{Vec3, Turns}
use Rattle.reply.specs.Values.{offsets_text, turns_text}

pub length_offsets : (t : Vec3) → length (offsets_text t) ≡ 9 + length (value t.x) + length (value t.y) + length (value t.z)
unfolding offsets_text
length_offsets t = simp length-append (omega arith)

pub length_turns : (r : Turns) → length (turns_text r) ≡ 9 + length (degrees r.u) + length (degrees r.v) + length (degrees r.w)
unfolding turns_text
length_turns r = simp length-append (omega arith)

nested : (a x b y c z d u e v f w : List ℕ) → a ++ (x ++ (b ++ (y ++ (c ++ (z ++ (d ++ (u ++ (e ++ (v ++ (f ++ (w ++ [])))))))))))
    ≡ ((a ++ x) ++ ((b ++ y) ++ (c ++ z))) ++ ((d ++ u) ++ ((e ++ v) ++ (f ++ w)))
nested a x b y c z d u e v f w = simp (append_assoc, append-nil)

pub six_split : (t : Vec3) (r : Turns) → six_values t r ≡ offsets_text t ++ turns_text r
unfolding six_values joined offsets_text turns_text
six_split t r =
    nested (ascii " X=") (value t.x) (ascii " Y=") (value t.y) (ascii " Z=") (value t.z)
    (ascii " U=") (degrees r.u) (ascii " V=") (degrees r.v) (ascii " W=") (degrees r.w)

pub length_six : (t : Vec3) (r : Turns) → length (six_values t r) ≡ length (offsets_text t) + length (turns_text r)
length_six t r = rw (six_split t r) (length-append (offsets_text t) (turns_text r))
