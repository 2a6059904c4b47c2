use mathlib.Core.Path.{◌≡◌, sym, ap, ◌∙◌}
use borrow.Author.Rules.{rules}
use lib.IntN.{pos}
use lib.ListN.{get_or}
use mir.Syntax.{w64}
use mir.Val.{to_z, of_z}
use Rattle.model.specs.Words.{quarters}
use Rattle.text.specs.Pairs.{ranged}
use Rattle.text.proofs.PairLaws.{given_map, angles_listed}
use Rattle.text.proofs.pairs.kept.Goals as goal

pub returns-then-not-in_range : goal.returns-then-not-in_range
unfolding ranged
returns-then-not-in_range c = rw (sym c.in_range.ensures ∙ c.if-not-in_range.true)

pub quarter_turns-requires : goal.quarter_turns-requires
quarter_turns-requires c =
    let u : to_z w64 (of_z w64 (get_or c.args.values 3 (pos 0))) ≡ get_or c.args.values 3 (pos 0) = search rules in
    rw u (angles_listed c.args.values (sym c.in_range.ensures ∙ c.if-not-in_range.false)).0

pub quarter_turns-requires-2 : goal.quarter_turns-requires-2
quarter_turns-requires-2 c =
    let v : to_z w64 (of_z w64 (get_or c.args.values 4 (pos 0))) ≡ get_or c.args.values 4 (pos 0) = search rules in
    rw v (angles_listed c.args.values (sym c.in_range.ensures ∙ c.if-not-in_range.false)).1

pub quarter_turns-requires-3 : goal.quarter_turns-requires-3
quarter_turns-requires-3 c =
    let w : to_z w64 (of_z w64 (get_or c.args.values 5 (pos 0))) ≡ get_or c.args.values 5 (pos 0) = search rules in
    rw w (angles_listed c.args.values (sym c.in_range.ensures ∙ c.if-not-in_range.false)).2

pub returns : goal.returns
unfolding ranged
returns c =
    let l = c.args.values in
    let x : to_z w64 (of_z w64 (get_or l 0 (pos 0))) ≡ get_or l 0 (pos 0) = search rules in
    let y : to_z w64 (of_z w64 (get_or l 1 (pos 0))) ≡ get_or l 1 (pos 0) = search rules in
    let z : to_z w64 (of_z w64 (get_or l 2 (pos 0))) ≡ get_or l 2 (pos 0) = search rules in
    let u : to_z w64 (of_z w64 (get_or l 3 (pos 0))) ≡ get_or l 3 (pos 0) = search rules in
    let v : to_z w64 (of_z w64 (get_or l 4 (pos 0))) ≡ get_or l 4 (pos 0) = search rules in
    let w : to_z w64 (of_z w64 (get_or l 5 (pos 0))) ≡ get_or l 5 (pos 0) = search rules in
    rw (
      sym c.in_range.ensures ∙ c.if-not-in_range.false,
      given_map l 0,
      given_map l 1,
      given_map l 2,
      given_map l 3,
      given_map l 4,
      given_map l 5,
      x,
      y,
      z,
      c.quarter_turns.ensures ∙ ap quarters u,
      c.quarter_turns-2.ensures ∙ ap quarters v,
      c.quarter_turns-3.ensures ∙ ap quarters w,
    )
