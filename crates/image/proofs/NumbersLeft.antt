-- What is left of numbers that are written one after the other.
use Prim.Native.Nat.{ℕ, ◌+◌, ◌≤◌, ◌<◌}
use mathlib.Core.Path.{◌≡◌}
use mathlib.Core.List.{List, [], ◌++◌}
use lib.ListN.{length, drop, get_or}
use Rattle.model.specs.Image.{whole, numbers}
use Rattle.print.proofs.Left.{texts_turn, texts_end}

module _ (values : List ℕ) (i : ℕ) where
  pub numbers_turn : i < length values → numbers (drop i values) ≡ whole (get_or values i 0) ++ numbers (drop (i + 1) values)
  unfolding numbers
  numbers_turn h = texts_turn whole values i 0 h

  pub numbers_end : length values ≤ i → numbers (drop i values) ≡ []
  unfolding numbers
  numbers_end h = texts_end whole values i h
