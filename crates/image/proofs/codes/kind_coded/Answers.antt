use Prim.Native.Nat.{ℕ}
use mathlib.Core.Path.{◌≡◌, sym, ◌∙◌}
use mathlib.Core.List.{List, [], ◌∷◌}
use mathlib.Core.Option.{none}
use Rattle.model.specs.declared.Kind.{Kind}
use Rattle.model.specs.declared.Kind.TheVariants.{Ksd, Kst, Ksw, Ksb, Kld, Ksf}
use Rattle.model.specs.Kinds.{kinds, of_kind}
use borrow.Author.Tests.{ne_eqb}
use Rattle.model.specs.Image.{kind_of}
use Rattle.image.specs.Codes.{kind_coded}
use Rattle.model.proofs.Told.{refuses_none}
use Rattle.image.proofs.codes.kind_coded.Goals as goal

passed_over : (k : Kind) (ks : List Kind) (c : ℕ) → (c ≡ (of_kind k).code → ⊥) → kind_of (k ∷ ks) c ≡ kind_of ks c
unfolding kind_of
passed_over k ks c f = rw (ne_eqb (of_kind k).code c (λ e. f (sym e)), kind_of)

nothing_coded : (c : ℕ) → kind_of kinds c ≡ none → kind_coded c ≡ none
unfolding kind_coded
nothing_coded c e = rw (e, kind_coded)

pub returns-in-0-2 : goal.returns-in-0-2
unfolding kind_of
returns-in-0-2 c =
    let r = c.in-0.in-0-own.rest in
    let n = c.args.code in
    let e : kind_of kinds n ≡ none =
    passed_over Ksd (Kst ∷ Ksw ∷ Ksb ∷ Kld ∷ Ksf ∷ []) n r.0.0.0.0.0.0.1
    ∙ passed_over Kst (Ksw ∷ Ksb ∷ Kld ∷ Ksf ∷ []) n r.0.0.0.0.0.1
    ∙ passed_over Ksw (Ksb ∷ Kld ∷ Ksf ∷ []) n r.0.0.0.0.1
    ∙ passed_over Ksb (Kld ∷ Ksf ∷ []) n r.0.0.0.1
    ∙ passed_over Kld (Ksf ∷ []) n r.0.0.1
    ∙ passed_over Ksf [] n r.0.1 in
    refuses_none 14 (nothing_coded n e)
