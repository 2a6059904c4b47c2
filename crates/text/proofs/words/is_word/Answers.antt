use Prim.Native.Nat.{◌-◌}
use mathlib.Core.Path.{sym, ◌∙◌}
use mathlib.Core.List.{map}
use borrow.Author.Rules.{rules}
use borrow.Author.Tests.{tests, ne_eqb}
use lib.Dec.{eqb}
use lib.ListN.{take, drop, length-map}
use Rattle.std.proofs.lemmas.Iterator.{YieldsList-from_slice, YieldsList-from_zip}
use Rattle.std.proofs.lemmas.Iterator.Search.{all_from_yields_List}
use Rattle.model.specs.Words.{upper}
use Rattle.text.proofs.Lists.{same_length, same_zipped}
use Rattle.text.proofs.words.is_word.Goals as goal

pub returns-then-word-text : goal.returns-then-word-text
returns-then-word-text c =
    let l = take (c.args.w.end - c.args.w.start) (drop c.args.w.start c.args.line.now) in
    all_from_yields_List (λ p. eqb (upper p.0) p.1) c.all.new.self _ c.all.result c.all.ensures.ran (YieldsList-from_zip (YieldsList-from_slice l cc) (YieldsList-from_slice c.args.text.now cc)) (λ x b q k. search (rules, tests)) ∙
    same_zipped upper l c.args.text.now c.if-word-text.true

pub returns-else-word-text : goal.returns-else-word-text
returns-else-word-text c = let l = take (c.args.w.end - c.args.w.start) (drop c.args.w.start c.args.line.now) in
    ne_eqb _ _ c.if-word-text.false ∙ sym (same_length (map upper l) _ (λ e. c.if-word-text.false (sym (length-map l upper) ∙ e)))
