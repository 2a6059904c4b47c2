use mathlib.Core.Path.{◌≡◌, sym, ◌∙◌}
use mathlib.Core.List.{reverse}
use native.Mathlib.Omega.{arith}
use borrow.Author.Rules.{rules}
use borrow.Author.Tests.{tests, ne_eqb}
use lib.ListN.{length}
use Rattle.std.proofs.lemmas.List.{length-reverse}
use Rattle.std.proofs.lemmas.Iterator.{YieldsList-from_zip, same_from_all}
use Rattle.std.proofs.lemmas.Iterator.Adapters.{YieldsList-from_rev_slice}
use Rattle.text.proofs.Lists.{same_length, same_reversed}
use Rattle.text.proofs.names.same_bytes.Goals as goal

pub returns-then-a-b : goal.returns-then-a-b
returns-then-a-b c =
    let long : length (reverse c.args.a.now) ≡ length (reverse c.args.b.now) = omega (arith, length-reverse c.args.a.now, length-reverse c.args.b.now, c.if-a-b.true) in
    same_reversed c.args.a.now c.args.b.now (same_from_all c.all.new.self _ _ (reverse c.args.a.now) (reverse c.args.b.now) c.all.ensures.ran
    (YieldsList-from_zip (YieldsList-from_rev_slice c.args.a.now cc) (YieldsList-from_rev_slice c.args.b.now cc)) long (λ x q k. search (rules, tests)) (λ x q k. search (rules, tests)))

pub returns-else-a-b : goal.returns-else-a-b
returns-else-a-b c = ne_eqb _ _ c.if-a-b.false ∙ sym (same_length _ _ c.if-a-b.false)
