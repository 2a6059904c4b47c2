-- What a line of a script orders.
use Rattle.std.specs.Prelude.{◌≡◌, ℕ, ◌≤◌, cond, ◌||◌, List, [], ◌∷◌, length, take, ℤ, pos, ◌==◌, nat_le, slice_index_or, Option as Answer, Some, None, IfSome}
use Rattle.std.proofs.Math.Option.{Option, none, some}
use Rattle.model.specs.Ascii.{ascii}
use Rattle.model.specs.Lists.{same}
use Rattle.model.specs.declared.Position.{Position}
use Rattle.model.specs.Sessions.{at}
use Rattle.print.specs.Over.{over}
use Rattle.script.specs.Fields.{fields}
use Rattle.script.specs.Hex.{unhexed, pairs_read}
use Rattle.script.specs.Numbers.{whole_of, numbers_of}
use Rattle.script.specs.declared.parse.Directive.{Directive}
use Rattle.script.specs.declared.parse.Directive.TheVariants.{Line, Restart, Write, Image, Factory, Use, Position as Stands}
use Rattle.script.specs.Told.{told_first}

-- ---- limits

-- a longer line is no directive
abbrev pub longest_line : ℕ
longest_line = 262144

-- no longer buffer is lent
abbrev pub longest_lent : ℕ
longest_lent = 65536

-- ---- values

-- the length of a buffer that can be lent
abbrev pub length_of : List ℕ → Option ℕ
length_of w = whole_of longest_lent w

-- bytes; a hyphen is none of them
unfoldable pub bytes_of : List ℕ → Option (List ℕ)
bytes_of h = cond (same h (ascii "-")) (some []) (unhexed h)

-- ---- orders

pub data Order : Type 0 where
  line : List ℕ → ℕ → Order
  restart : Order
  write : ℕ → Order
  start : List ℕ → Order
  factory : Order
  question : List ℕ → Order
  position : Position → Order
  unclear : Order

abbrev pub line_order : Option (List ℕ) → Option ℕ → Order
line_order none n = unclear
line_order (some l) none = unclear
line_order (some l) (some n) = line l n

abbrev pub write_order : Option ℕ → Order
write_order none = unclear
write_order (some n) = write n

abbrev pub start_order : Option (List ℕ) → Order
start_order none = unclear
start_order (some image) = start image

abbrev pub use_order : Option (List ℕ) → Order
use_order none = unclear
use_order (some name) = question name

-- [02 §1] X Y Z of the offset, U V W of the angles
abbrev pub position_at : List ℤ → Position
position_at zs = let n : ℕ → ℤ = λ i. slice_index_or zs i (pos 0) in at (n 0) (n 1) (n 2) (n 3) (n 4) (n 5)

-- [02 §1] six numbers, no fewer and no more
unfoldable pub position_order : Option (List ℤ) → Order
position_order none = unclear
position_order (some zs) = cond (length zs == 6) (position (position_at zs)) unclear

unfoldable pub one_field : List ℕ → Order
one_field w = cond (same w (ascii "R")) restart (cond (same w (ascii "N")) factory unclear)

unfoldable pub two_fields : List ℕ → List ℕ → Order
two_fields w v =
    cond (same w (ascii "W")) (write_order (length_of v))
    (cond (same w (ascii "I")) (start_order (bytes_of v)) (cond (same w (ascii "U")) (use_order (bytes_of v)) unclear))

unfoldable pub three_fields : List ℕ → List ℕ → List ℕ → Order
three_fields w h n = cond (same w (ascii "L")) (line_order (bytes_of h) (length_of n)) unclear

-- up to three fields: the first one, and those behind it
unfoldable pub few_fields : List ℕ → List (List ℕ) → Order
few_fields w [] = one_field w
few_fields w (v ∷ []) = two_fields w v
few_fields w (h ∷ n ∷ []) = three_fields w h n
few_fields w (h ∷ n ∷ z ∷ zs) = unclear

-- the first field says what the others are: behind P numbers, behind any other letter as many fields as it has
unfoldable pub understood : List (List ℕ) → Order
understood [] = unclear
understood (w ∷ ws) = cond (same w (ascii "P")) (position_order (numbers_of ws)) (few_fields w ws)

unfoldable pub order : List ℕ → Order
order text = cond (nat_le (length text) longest_line) (understood (fields text)) unclear

-- ---- the answers of the code
-- Directives are the shared vectors' and not document 01's: a malformed one has none of its numbers and is answered by its line (`complaint` in Answer.antt).
-- So each step is said to be a value or none, and at last an order, of which `unclear` is the refusal.

-- an order for each case; the bytes of a directive stand first in the buffer
abbrev pub order_of : Directive → List ℕ → Order
order_of (Line k n) b = line (take k b) n
order_of Restart b = restart
order_of (Write n) b = write n
order_of (Image k) b = start (take k b)
order_of Factory b = factory
order_of (Use k) b = question (take k b)
order_of (Stands p) b = position p

abbrev pub ordered : Answer Directive → List ℕ → Order
ordered (Some d) b = order_of d b
ordered None b = unclear

-- a field was read into a lent buffer
pub record Spelled (h before : List ℕ) (r : Answer ℕ) (after : List ℕ) : Type 0 where
  pub told : told_first r after ≡ bytes_of h
  pub bytes : after ≡ over before 0 (pairs_read h)
  pub inside : IfSome r (λ n. n ≤ length after)

-- the field that is decoded
unfoldable pub hex_field : List (List ℕ) → List ℕ
hex_field [] = []
hex_field (w ∷ []) = []
hex_field (w ∷ v ∷ []) = cond (same w (ascii "I") || same w (ascii "U")) v []
hex_field (w ∷ h ∷ n ∷ []) = cond (same w (ascii "L")) h []
hex_field (w ∷ h ∷ n ∷ z ∷ zs) = []

-- what a directive counts lies in the buffer, and no longer one is to be lent
abbrev pub Bounded : Directive → List ℕ → Type 0
Bounded (Line k n) b = (k ≤ length b) × (n ≤ longest_lent)
Bounded Restart b = Unit {0}
Bounded (Write n) b = n ≤ longest_lent
Bounded (Image k) b = k ≤ length b
Bounded Factory b = Unit {0}
Bounded (Use k) b = k ≤ length b
Bounded (Stands p) b = Unit {0}

-- an order was understood, and the field h decoded into a lent buffer
pub record Understood (o : Order) (h before : List ℕ) (r : Answer Directive) (after : List ℕ) : Type 0 where
  pub order : ordered r after ≡ o
  pub bytes : after ≡ over before 0 (pairs_read h)
  pub bounded : IfSome r (λ d. Bounded d after)

-- the field that is decoded of a whole line
unfoldable pub hex_of : List ℕ → List ℕ
hex_of text = cond (nat_le (length text) longest_line) (hex_field (fields text)) []
