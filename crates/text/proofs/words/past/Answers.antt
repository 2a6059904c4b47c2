use Prim.Native.Nat.{ℕ, ◌+◌, ◌-◌}
use mathlib.Core.List.{List}
use mathlib.Core.Path.{◌≡◌, sym, ap, ◌∙◌}
use mathlib.Core.Bool.{true, false, beq}
use borrow.Author.Rules.{rules}
use borrow.Author.Tests.{tests}
use lib.Dec.{eqb}
use lib.ListN.{length, take, drop, length-drop}
use lib.Seq.{take-length}
use Rattle.std.specs.Option.{unwrap_or}
use Rattle.std.proofs.lemmas.Iterator.{YieldsList-from_slice, IsFirst-from_position, index_from_first}
use Rattle.text.specs.Cursor.{lead}
use Rattle.text.proofs.WordLaws.{lead_none, lead_hit, lead_miss}
use Rattle.text.proofs.words.past.Goals as goal

pub returns : goal.returns
returns c =
    let s = c.args.spaces in
    let l = drop c.args.at c.args.line.now in
    let whole : take (length c.args.line.now - c.args.at) l ≡ l = ap (λ (n : ℕ). take n l) (sym (length-drop c.args.at c.args.line.now)) ∙ take-length l in
    let e = index_from_first (lead s) (λ b. beq (eqb b 32) s ≡ false) (λ b. beq (eqb b 32) s ≡ true) (lead_none s) (lead_hit s) (lead_miss s) l c.position.result
    (IsFirst-from_position _ _ c.position.result (λ b. beq (eqb b 32) s ≡ false) (λ b. beq (eqb b 32) s ≡ true) c.position.ensures.ran (YieldsList-from_slice l (c.iter.ensures.rest ∙ whole))
    (λ x q k. search (rules, tests)) (λ x q k. search (rules, tests))) in
    ap (λ (n : ℕ). c.args.at + n) (c.unwrap_or.ensures ∙ ap (λ (m : List ℕ). unwrap_or c.position.result (length m)) whole ∙ sym e)
