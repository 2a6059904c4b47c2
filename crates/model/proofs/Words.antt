-- Laws of names (specs/Words.antt).
use Prim.Native.Nat.{ℕ, suc, ◌≤◌}
use mathlib.Core.Path.{◌≡◌, sym}
use mathlib.Core.List.{List, [], ◌∷◌}
use mathlib.Core.Bool.{true, ◌&&◌}
use lib.Dec.{leb}
use lib.ListN.{length}
use borrow.Author.Tests.{leb-true}
use Rattle.model.specs.Lists.{all}
use Rattle.model.specs.Limits.{name_limit}
use Rattle.model.specs.Words.{capital, name_byte, legal_name}
use Rattle.model.proofs.Basics.{and_split, true_false}

-- a legal name fits where names are stored
pub legal_name_short : (n : List ℕ) → legal_name n ≡ true → length n ≤ name_limit
unfolding legal_name
legal_name_short [] e = true_false (sym e)
legal_name_short (b ∷ bs) e = leb-true (suc (length bs)) name_limit (and_split (capital b && all name_byte bs) (leb (suc (length bs)) name_limit) e).1
