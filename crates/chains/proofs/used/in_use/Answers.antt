use mathlib.Core.Path.{◌∙◌}
use native.Mathlib.Omega.{arith}
use borrow.Author.Rules.{rules}
use Rattle.chains.specs.Searches.{search_of}
use Rattle.chains.proofs.Searching.{in_operating, in_orientational, in_levelling}
use Rattle.chains.proofs.used.in_use.Goals as goal

pub returns-then-first : goal.returns-then-first
returns-then-first c =
    let s = c.args in
    in_operating s.preds.now s.enabled s.sought (search_of c.look_operating-first.result) c.look_operating-first.ensures.search_value c.if-first.true

pub look_along-second-requires : goal.look_along-second-requires
look_along-second-requires c = (search rules, omega (arith, c.look_operating-first.ensures.looked_bound))

pub returns-then-second : goal.returns-then-second
returns-then-second c =
    let s = c.args in
    let f = c.look_operating-first in
    let g = c.look_along-second in
    in_orientational s.preds.now s.enabled s.sought (search_of f.result) f.ensures.search_value c.if-first.false
    (search_of g.result) g.ensures.search_value c.if-second.true

pub look_along-requires : goal.look_along-requires
look_along-requires c = (search rules, omega (arith, c.look_along-second.ensures.looked_bound, c.look_operating-first.ensures.looked_bound))

pub returns : goal.returns
returns c =
    let s = c.args in
    let f = c.look_operating-first in
    let g = c.look_along-second in
    c.look_along.ensures.search_value
    ∙ in_levelling s.preds.now s.enabled s.sought (search_of f.result) f.ensures.search_value c.if-first.false
    (search_of g.result) g.ensures.search_value c.if-second.false
