use Rattle.std.proofs.Common.{ℕ, suc, ◌≡◌, ◌∙◌, ◌-◌, ◌<◌, ◌≤◌, length, map, get_or, sym, ap, arith, List, false}
use lib.Dec.{eqb-suc-zero}
use borrow.Author.Tests.{le-leb, lt-leb, ltb-false}
use Rattle.std.proofs.Math.ListN.{length-map, get_or-map}
use Rattle.chains.proofs.Copies.{unset}
use Rattle.model.specs.declared.System.{System as StoredSystem}
use Rattle.model.specs.declared.Kind.{Kind}
use Rattle.model.specs.Memory.{system_at}
use Rattle.model.specs.Kinds.{same_kind}
use Rattle.model.specs.Stored.{system_of}
use Rattle.model.specs.WellFormed.{is_kind}
use Rattle.memory.proofs.Alike.{kinds_alike}
use Rattle.memory.proofs.kinds.is_kind.Goals as goal

module _ (xs : List StoredSystem) (k : Kind) (i : ℕ) where
  there : i < length xs → is_kind (map system_of xs) k (suc i) ≡ same_kind (get_or xs i unset).kind k
  unfolding is_kind system_at
  there h = simp length-map (rw (eqb-suc-zero i, le-leb (suc i) (length xs) h, get_or-map system_of xs i unset))

  beyond : length xs ≤ i → is_kind (map system_of xs) k (suc i) ≡ false
  unfolding is_kind
  beyond h = simp length-map (rw (eqb-suc-zero i, lt-leb (suc i) (length xs) (omega arith)))

pub returns-then-place-eq0 : goal.returns-then-place-eq0
unfolding is_kind
returns-then-place-eq0 c = rw c.if-place-eq0.true

pub returns-in-Some : goal.returns-in-Some
returns-in-Some c =
    let e : c.args.place ≡ suc (c.args.place - 1) = omega arith in
    let at = c.in-Some.ensures.lookup.3 in
    rw e (c.eq.ensures ∙ kinds_alike _ _ ∙ ap (λ (s : StoredSystem). same_kind s.kind c.args.kind) (at.1 unset) ∙ sym (there _ _ _ at.0))

pub returns-in-None : goal.returns-in-None
returns-in-None c =
    let e : c.args.place ≡ suc (c.args.place - 1) = omega arith in
    rw e (sym (beyond _ _ _ (ltb-false _ _ (sym c.in-None.ensures.lookup.0))))
