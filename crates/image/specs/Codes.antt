-- What a type code stands for (document 01, "Image": the type codes).
use Rattle.model.specs.Base.{ℕ, Option, none, some}
use Rattle.model.specs.declared.Kind.{Kind}
use Rattle.model.specs.declared.Group.{Group}
use Rattle.model.specs.Kinds.{kinds, of_kind}
use Rattle.model.specs.Image.{kind_of}

-- [Image] the type that has the code, with its group
unfoldable pub kind_coded : ℕ → Option (Kind × Group)
kind_coded c = elim (kind_of kinds c) [ none ↦ none | some k ↦ some (k, (of_kind k).group) ]
