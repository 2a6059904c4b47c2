use Rattle.std.proofs.Common.{◌≡◌, ◌≤◌, length, take}
use Rattle.script.specs.Fields.{fields_from}
use Rattle.script.specs.Numbers.{numbers_of}
use Rattle.script.proofs.NumberLaws.{behind}
use Rattle.script.proofs.numbers.read_numbers.Given as goal

-- the numbers that the words left spell, behind those that were read, are the numbers of all
abbrev pub invariant-loop-count : goal.invariant-loop-count
invariant-loop-count l =
    (l.at ≤ length l.text) × (length l.numbers ≡ length l.initial.numbers)
    × (numbers_of (fields_from l.text l.from) ≡ behind (take l.count l.numbers) (numbers_of (fields_from l.text l.at)))
