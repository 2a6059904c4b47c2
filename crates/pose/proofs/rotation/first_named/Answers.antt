-- `pose::rotation::first_named` meets its contract: each entry of the table is computed from the definitions.
use mathlib.Core.Path.{◌≡◌, sym, ap, ◌∙◌}
use Prim.Native.Nat.{ℕ, zero, suc, ◌≤◌}
use native.Mathlib.Omega.{arith}
use lib.Dec.{T, eqb, eqb→eq}
use Rattle.model.specs.Lists.{least}
use Rattle.model.specs.Pose.{times, rot_of}
use Rattle.pose.specs.Numbers.{first_place, first_named}
use Rattle.pose.proofs.rotation.first_named.Goals as goal

-- the entry v of the two axes n is right
entry : (n v : ℕ) → T (eqb v (first_named n)) → (k : ℕ) → k ≡ n → v ≡ first_named k
entry n v right k e = eqb→eq v (first_named n) right ∙ ap first_named (sym e)

-- k is none of the first n numbers, in the form in which a match says so
abbrev Missed : ℕ → ℕ → Type 0
Missed zero k = Unit {0}
Missed (suc n) k = Missed n k × (k ≡ n → ⊥)

missed : (n k : ℕ) → Missed n k → n ≤ k
missed zero k m = omega arith
missed (suc n) k m = let h = missed n k m.0 in let d = m.1 in omega arith

pub returns-in-0 : goal.returns-in-0
unfolding first_named first_place least times rot_of
returns-in-0 c = entry 0 63 tt _ c.in-0.is

pub returns-in-1 : goal.returns-in-1
unfolding first_named first_place least times rot_of
returns-in-1 c = entry 1 63 tt _ c.in-1.is

pub returns-in-2 : goal.returns-in-2
unfolding first_named first_place least times rot_of
returns-in-2 c = entry 2 256 tt _ c.in-2.is

pub returns-in-3 : goal.returns-in-3
unfolding first_named first_place least times rot_of
returns-in-3 c = entry 3 330 tt _ c.in-3.is

pub returns-in-4 : goal.returns-in-4
unfolding first_named first_place least times rot_of
returns-in-4 c = entry 4 218 tt _ c.in-4.is

pub returns-in-5 : goal.returns-in-5
unfolding first_named first_place least times rot_of
returns-in-5 c = entry 5 144 tt _ c.in-5.is

pub returns-in-6 : goal.returns-in-6
unfolding first_named first_place least times rot_of
returns-in-6 c = entry 6 63 tt _ c.in-6.is

pub returns-in-7 : goal.returns-in-7
unfolding first_named first_place least times rot_of
returns-in-7 c = entry 7 63 tt _ c.in-7.is

pub returns-in-8 : goal.returns-in-8
unfolding first_named first_place least times rot_of
returns-in-8 c = entry 8 328 tt _ c.in-8.is

pub returns-in-9 : goal.returns-in-9
unfolding first_named first_place least times rot_of
returns-in-9 c = entry 9 258 tt _ c.in-9.is

pub returns-in-10 : goal.returns-in-10
unfolding first_named first_place least times rot_of
returns-in-10 c = entry 10 152 tt _ c.in-10.is

pub returns-in-11 : goal.returns-in-11
unfolding first_named first_place least times rot_of
returns-in-11 c = entry 11 210 tt _ c.in-11.is

pub returns-in-12 : goal.returns-in-12
unfolding first_named first_place least times rot_of
returns-in-12 c = entry 12 329 tt _ c.in-12.is

pub returns-in-13 : goal.returns-in-13
unfolding first_named first_place least times rot_of
returns-in-13 c = entry 13 259 tt _ c.in-13.is

pub returns-in-14 : goal.returns-in-14
unfolding first_named first_place least times rot_of
returns-in-14 c = entry 14 63 tt _ c.in-14.is

pub returns-in-15 : goal.returns-in-15
unfolding first_named first_place least times rot_of
returns-in-15 c = entry 15 63 tt _ c.in-15.is

pub returns-in-16 : goal.returns-in-16
unfolding first_named first_place least times rot_of
returns-in-16 c = entry 16 25 tt _ c.in-16.is

pub returns-in-17 : goal.returns-in-17
unfolding first_named first_place least times rot_of
returns-in-17 c = entry 17 83 tt _ c.in-17.is

pub returns-in-18 : goal.returns-in-18
unfolding first_named first_place least times rot_of
returns-in-18 c = entry 18 257 tt _ c.in-18.is

pub returns-in-19 : goal.returns-in-19
unfolding first_named first_place least times rot_of
returns-in-19 c = entry 19 331 tt _ c.in-19.is

pub returns-in-20 : goal.returns-in-20
unfolding first_named first_place least times rot_of
returns-in-20 c = entry 20 63 tt _ c.in-20.is

pub returns-in-21 : goal.returns-in-21
unfolding first_named first_place least times rot_of
returns-in-21 c = entry 21 63 tt _ c.in-21.is

pub returns-in-22 : goal.returns-in-22
unfolding first_named first_place least times rot_of
returns-in-22 c = entry 22 91 tt _ c.in-22.is

pub returns-in-23 : goal.returns-in-23
unfolding first_named first_place least times rot_of
returns-in-23 c = entry 23 17 tt _ c.in-23.is

pub returns-in-24 : goal.returns-in-24
unfolding first_named first_place least times rot_of
returns-in-24 c = entry 24 133 tt _ c.in-24.is

pub returns-in-25 : goal.returns-in-25
unfolding first_named first_place least times rot_of
returns-in-25 c = entry 25 199 tt _ c.in-25.is

pub returns-in-26 : goal.returns-in-26
unfolding first_named first_place least times rot_of
returns-in-26 c = entry 26 68 tt _ c.in-26.is

pub returns-in-27 : goal.returns-in-27
unfolding first_named first_place least times rot_of
returns-in-27 c = entry 27 6 tt _ c.in-27.is

pub returns-in-28 : goal.returns-in-28
unfolding first_named first_place least times rot_of
returns-in-28 c = entry 28 63 tt _ c.in-28.is

pub returns-in-29 : goal.returns-in-29
unfolding first_named first_place least times rot_of
returns-in-29 c = entry 29 63 tt _ c.in-29.is

pub returns-in-30 : goal.returns-in-30
unfolding first_named first_place least times rot_of
returns-in-30 c = entry 30 205 tt _ c.in-30.is

pub returns-in-31 : goal.returns-in-31
unfolding first_named first_place least times rot_of
returns-in-31 c = entry 31 143 tt _ c.in-31.is

pub returns-in-32 : goal.returns-in-32
unfolding first_named first_place least times rot_of
returns-in-32 c = entry 32 12 tt _ c.in-32.is

pub returns-in-33 : goal.returns-in-33
unfolding first_named first_place least times rot_of
returns-in-33 c = entry 33 78 tt _ c.in-33.is

pub returns-in-34 : goal.returns-in-34
unfolding first_named first_place least times rot_of
returns-in-34 c = entry 34 63 tt _ c.in-34.is

pub returns-in_default : goal.returns-in_default
unfolding first_named first_place least times rot_of
returns-in_default c = let h = missed 35 c.args.axes c.in_default.in_default-own.rest in entry 35 63 tt c.args.axes (omega arith)
