-- The derived tests of types and of groups go by the variant, the definitions' by the code and by the order: they agree.
use Prim.Native.Nat.{suc}
use mathlib.Core.Path.{◌≡◌, refl, sym}
use lib.Dec.{eqb-suc-suc}
use denote.Enum.Bare.{sameb}
use denote.Enum.Declared.{tag_of}
use Rattle.model.specs.declared.Kind.{Kind}
use Rattle.model.specs.declared.Kind.TheVariants.{Ksd}
use Rattle.model.specs.contracts.Kind.{the_type as kind}
use Rattle.model.specs.declared.Group.{Group}
use Rattle.model.specs.declared.Group.TheVariants.{Operating}
use Rattle.model.specs.contracts.Group.{the_type as group}
use Rattle.model.specs.Kinds.{of_kind, of_group, same_kind, same_group}

code_is : (k : Kind) → (of_kind k).code ≡ suc (tag_of kind k)
code_is Ksd = refl
code_is k = refl

pub kinds_alike : (j k : Kind) → sameb kind j k ≡ same_kind j k
kinds_alike j k = rw (code_is j, code_is k) (sym (eqb-suc-suc (tag_of kind j) (tag_of kind k)))

order_is : (g : Group) → (of_group g).order ≡ tag_of group g
order_is Operating = refl
order_is g = refl

pub groups_alike : (g h : Group) → sameb group g h ≡ same_group g h
groups_alike g h = rw (order_is g, order_is h) refl
