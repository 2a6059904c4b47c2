-- The type that a code stands for, as a reader's step that takes no byte.
use Prim.Native.Nat.{ℕ}
use mathlib.Core.Path.{◌≡◌, refl, sym, ap, ◌∙◌}
use mathlib.Core.List.{List}
use mathlib.Core.Option.{Option, none, some}
use Rattle.model.specs.declared.Kind.{Kind}
use Rattle.model.specs.declared.Group.{Group}
use Rattle.model.specs.Kinds.{kinds}
use Rattle.model.specs.Told.{tells, refuses, or_number}
use Rattle.model.specs.Image.{give?, kind_of}
use Rattle.model.proofs.Basics.{none_some}
use Rattle.model.proofs.Image.Readers.{give_some, give_none, one_read}
use Rattle.model.proofs.Told.{told_value, tells_some, refuses_none}
use Rattle.image.specs.Codes.{kind_coded}

module _ (c : ℕ) (bs : List ℕ) where
  pub kind_refused : refuses {A = Kind × Group} 14 ≡ or_number 14 (kind_coded c) → refuses {A = Kind × List ℕ} 14 ≡ or_number 14 (give? (kind_of kinds c) bs)
  unfolding kind_coded
  kind_refused e = refuses_none 14 (give_none bs (cases (kind_of kinds c) refl))
    where
      cases : (o : Option Kind) → kind_of kinds c ≡ o → kind_of kinds c ≡ none
      cases none q = q
      cases (some j) q = none_some (sym (rw (q, kind_coded) at (told_value 14 (kind_coded c) _ e)))

  pub kind_given : (k : Kind) (g : Group) → tells (k, g) ≡ or_number 14 (kind_coded c) → tells (k, bs) ≡ or_number 14 (give? (kind_of kinds c) bs)
  unfolding kind_coded
  kind_given k g e = tells_some 14 (give_some bs (cases (kind_of kinds c) refl))
    where
      cases : (o : Option Kind) → kind_of kinds c ≡ o → kind_of kinds c ≡ some k
      cases none q = none_some (rw (q, kind_coded) at (told_value 14 (kind_coded c) _ e))
      cases (some j) q = q ∙ ap some (one_read (rw (q, kind_coded) at (told_value 14 (kind_coded c) _ e))).0
