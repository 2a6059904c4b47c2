-- Places of files, as texts: what stands beside a path, the folder that holds it, and what a link's text means.
use Rattle.model.specs.Base.{ℕ, zero, suc, List, [], Bool, false, cond, eqb, leb, length, take}
use Rattle.std.specs.Prelude.{◌≤◌, ◌≡◌, ◌∷◌, ◌++◌, Option, Some, None, Result, Ok, Err}
use Rattle.model.specs.Ascii.{ascii}
use Rattle.model.specs.Machine.{written}
use Rattle.store.specs.declared.say.Complained.{Complained}

-- a text from byte 0 on and its length, and the later bytes as they were; or, where it does not fit, none and all bytes as they were
pub record Placed (text before after : List ℕ) (count : Option ℕ) : Type 0 where
  pub count_is : count ≡ cond (leb (length text) (length before)) (Some (length text)) None
  pub bytes : after ≡ cond (leb (length text) (length before)) (written text before) before

-- a path with the longest suffix, `.saving`, and the 0 that ends it has no more than 4096 bytes
abbrev pub longest_path : ℕ
longest_path = 4088

-- '/'
abbrev pub slash : ℕ
slash = 47

-- the place after the last '/', or 0 where there is none: after the last of the later ones, if there is one, else after this one, if it is one
abbrev pub slash_at : ℕ → ℕ → ℕ
slash_at b zero = cond (eqb b slash) 1 0
slash_at b (suc k) = suc (suc k)

unfoldable pub slash_end : List ℕ → ℕ
slash_end [] = 0
slash_end (b ∷ bs) = slash_at b (slash_end bs)

-- the folder of a path whose last '/' ends at a place
abbrev pub folder_at : List ℕ → ℕ → List ℕ
folder_at p zero = ascii "."
folder_at p (suc zero) = ascii "/"
folder_at p (suc (suc k)) = take (suc k) p

-- the folder that holds the file of a path: all before the last '/', `.` where there is none, and `/` where that is the first byte
unfoldable pub folder_of : List ℕ → List ℕ
folder_of p = folder_at p (slash_end p)

-- it begins at the root
unfoldable pub is_rooted : List ℕ → Bool
is_rooted [] = false
is_rooted (b ∷ bs) = eqb slash b

-- a link's text is a path from the root, or one from the link's folder
unfoldable pub link_start : List ℕ → List ℕ → ℕ
link_start p t = cond (is_rooted t) 0 (slash_end p)

unfoldable pub target_of : List ℕ → List ℕ → List ℕ
target_of p t = take (link_start p t) p ++ t

-- a path that a link was followed to lies in its buffer
abbrev pub Follows : List ℕ → Result (Option ℕ) Complained → Type 0
Follows after (Ok (Some n)) = n ≤ length after
Follows after (Ok None) = Unit {0}
Follows after (Err e) = Unit {0}
