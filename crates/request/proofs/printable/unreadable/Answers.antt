use Prim.Native.Nat.{ℕ, suc, ◌+◌, ◌≤◌, ◌<◌}
use mathlib.Core.Path.{◌≡◌, sym, ◌∙◌}
use mathlib.Core.List.{List}
use mathlib.Core.Bool.{Bool, ◌&&◌}
use native.Mathlib.Numerals.{add-one}
use borrow.Author.Tests.{lt-ltb, le-ltb}
use lib.ListN.{length, drop, get_or, drop_of_length-le}
use lib.Seq.{drop-cons}
use Rattle.model.specs.Lists.{all, between}
use Rattle.model.specs.Refusals.{unreadable}
use Rattle.model.proofs.Basics.{and_assoc, and_true}
use Rattle.request.proofs.printable.unreadable.Goals as goal

-- one byte on, and the end
module _ (p : ℕ → Bool) (l : List ℕ) (i : ℕ) (f : Bool) where
  turn : i < length l → (f && all p (drop i l)) ≡ ((f && p (get_or l i 0)) && all p (drop (i + 1) l))
  unfolding all
  turn h = rw (add-one, drop-cons l i 0) (sym (and_assoc f (p (get_or l i 0)) (all p (drop (suc i) l))))

  end : length l ≤ i → (f && all p (drop i l)) ≡ f
  unfolding all
  end h = rw (drop_of_length-le l h) (and_true f)

-- the bytes that a line may have
abbrev fine : ℕ → Bool
fine = between 32 126

pub returns-then-line-gt-LINE_LIMIT : goal.returns-then-line-gt-LINE_LIMIT
unfolding unreadable
returns-then-line-gt-LINE_LIMIT c = rw (lt-ltb _ _ c.if-line-gt-LINE_LIMIT.true)

pub loop-b-preserved : goal.loop-b-preserved
loop-b-preserved c = c.loop-b.invariant ∙ turn fine c.args.line.now c.loop-b.b-index c.loop-b.fine c.loop-b-test.true

pub returns : goal.returns
unfolding unreadable
returns c =
    rw (le-ltb _ _ c.if-line-gt-LINE_LIMIT.false, c.loop-b.invariant ∙ end fine c.args.line.now c.loop-b.b-index c.loop-b.fine c.loop-b-test.false)
