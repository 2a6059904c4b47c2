use Prim.Native.Nat.{◌+◌, ◌-◌, ◌≤◌}
use mathlib.Core.Path.{◌≡◌}
use lib.ListN.{length, drop}
use Rattle.model.specs.Request.{no_values, pairs}
use Rattle.text.specs.Cursor.{run, words_from}
use Rattle.text.specs.declared.numbers.Num.TheVariants.{Start}
use Rattle.text.specs.Numbers.{Good, folded}
use Rattle.text.specs.Pairs.{values_of}
use Rattle.text.proofs.NumberBytes.{rest}
use Rattle.text.proofs.PairLaws.{Clean}
use Rattle.text.proofs.pairs.read_pairs.Given as goal

-- a number's bytes: what is left of the word makes the number, and ends where the word does
abbrev pub invariant-loop-at : goal.invariant-loop-at
invariant-loop-at l =
    (l.at ≤ length l.line) × (l.initial.at ≤ l.at) × Good l.n × (folded Start (rest l.line l.initial.at) ≡ folded l.n (rest l.line l.at)) ×
    (l.initial.at + run (drop l.initial.at l.line) ≡ l.at + run (drop l.at l.line))

abbrev pub decreases-loop-at : goal.decreases-loop-at
decreases-loop-at l = length l.line - l.at

-- the pairs: those that are left, after the values that have come, say what all of them say
abbrev pub invariant-pairs : goal.invariant-pairs
invariant-pairs l =
    (l.at ≤ length l.line) × (length l.values ≡ 6) × (length l.came ≡ 6) × Clean l.came l.values ×
    (pairs l.kind (words_from l.line l.from) no_values ≡ pairs l.kind (words_from l.line l.at) (values_of l.came l.values))

abbrev pub decreases-pairs : goal.decreases-pairs
decreases-pairs l = length l.line - l.at
