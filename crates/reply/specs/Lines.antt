-- The lines of the lists, of the system that a line shows rather than of its place, and a list by what follows its first lines.
use Rattle.model.specs.Base.{ℕ, zero, suc, List, [], true, length}
use Rattle.std.specs.Prelude.{◌≤◌, ◌≡◌, ◌∷◌, ◌++◌}
use Rattle.reply.specs.Types.{Vec3, Turns, Group, Operating, Orientational, Levelling, StoredSystem}
use Rattle.model.specs.Ascii.{ascii}
use Rattle.model.specs.Lists.{joined}
use Rattle.model.specs.Limits.{name_limit}
use Rattle.model.specs.Kinds.{of_kind, of_group}
use Rattle.model.specs.Memory.{System, Ref, fixed_ref}
use Rattle.model.specs.WellFormed.{turns_fine}
use Rattle.model.specs.Machine.{written}
use Rattle.model.specs.Reply.{six_values, decimal}
use Rattle.pose.specs.Poses.{Within, reach}

-- ---- what the calls promise and the writers ask

-- the reply from byte 0 on, its length, and the later bytes as they were, as a call answers (`written`). A writer within it begins at any place, and leaves
-- `Wrote`; `replied` in proofs/ListLaws.antt takes the last of these to this one
pub record Replied (text before after : List ℕ) (count : ℕ) : Type 0 where
  pub count_is : count ≡ length text
  pub bytes : after ≡ written text before

-- a stored system that can be written
pub record Writable (s : StoredSystem) : Type 0 where
  pub name_fits : s.name.len ≤ name_limit
  pub offsets_fit : Within reach s.offset
  pub turns_fit : turns_fine s.turns ≡ true

-- ---- the lines

-- the end of the line before, and another line
abbrev pub further : List ℕ → List ℕ
further t = ascii " \n" ++ t

-- KLS?
unfoldable pub system_text : System → List ℕ
system_text s = joined (ascii "Name=" ∷ s.name ∷ ascii " Type=" ∷ (of_kind s.kind).shown ∷ six_values s.offset s.turns ∷ [])

-- the first at place 0, a fixed system's, and the second at any other
abbrev pub at_fixed : ℕ → List ℕ → List ℕ → List ℕ
at_fixed zero a b = a
at_fixed (suc k) a b = b

-- the name of the system at a place of the group: the fixed one's, or the user system's name n
abbrev pub name_text : Group → ℕ → List ℕ → List ℕ
name_text g place n = at_fixed place (of_group g).name n

-- the name of the predecessor of s: its group's fixed system, or the user system named n
unfoldable pub pred_text : System → List ℕ → List ℕ
pred_text s n = name_text (of_kind s.kind).group s.pred n

-- KLN?
unfoldable pub link_text : System → List ℕ → List ℕ
link_text s n = joined (s.name ∷ ascii "=" ∷ pred_text s n ∷ [])

-- KEN?, of the group's fixed system (place 0) or its user system s
unfoldable pub enabled_text : Group → ℕ → System → List ℕ
enabled_text g p s =
    at_fixed p (joined ((of_group g).name ∷ ascii "=" ∷ (of_group g).shown ∷ [])) (joined (s.name ∷ ascii "=" ∷ (of_kind s.kind).shown ∷ []))

-- KLT?: a pose by its offset and shown triple, and steps
unfoldable pub pose_text : Vec3 → Turns → ℕ → List ℕ
pose_text t r k = joined (six_values t r ∷ ascii " Steps=" ∷ decimal k ∷ [])

-- the whole line, with the end from which the pose is seen
unfoldable pub resultant_text : List ℕ → List ℕ → Vec3 → Turns → ℕ → List ℕ
resultant_text n e t r k =
    joined (ascii "Name=" ∷ n ∷ ascii " EndCoordinateSystem=" ∷ e ∷ six_values t r ∷ ascii " Steps=" ∷ decimal k ∷ [])

-- ---- a list

-- n further lines from f k on, and the end of the last line
unfoldable pub further_lines : (ℕ → List ℕ) → ℕ → ℕ → List ℕ
further_lines f zero k = ascii "\n"
further_lines f (suc n) k = further (f k) ++ further_lines f n (suc k)

-- the lines of the fixed systems, each after the first with the end of the one before
abbrev pub fixed_lines : (Ref → List ℕ) → List ℕ
fixed_lines f = f (fixed_ref Operating) ++ (further (f (fixed_ref Orientational)) ++ further (f (fixed_ref Levelling)))
