use mathlib.Core.Bool.{true}
use native.Mathlib.Omega.{arith}
use lib.ListN.{drop, length-drop}
use Rattle.text.proofs.WordLaws.{lead_le}
use Rattle.text.proofs.words.next_word.Goals as goal

pub past-end-requires : goal.past-end-requires
past-end-requires c =
    let a = c.args in
    omega (arith, lead_le true (drop a.at a.line.now), length-drop a.at a.line.now)
