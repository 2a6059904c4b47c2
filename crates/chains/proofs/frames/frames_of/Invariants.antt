use Rattle.std.proofs.Common.{ℕ, ◌≡◌, ◌<◌, length, get_or}
use Rattle.std.proofs.Math.IntN.{pos}
use Rattle.chains.proofs.Copies.{Three, unset}
use Rattle.chains.proofs.frames.frames_of.Given as goal

-- the numbers of the systems passed are laid
abbrev pub invariant-loop-i : goal.invariant-loop-i
invariant-loop-i l =
    (length l.offsets ≡ 48) × (length l.turns ≡ 48)
    × ((j : ℕ) → j < l.i → let t = (get_or l.s-items j unset).offset in Three (pos 0) l.offsets j t.x t.y t.z)
    × ((j : ℕ) → j < l.i → let t = (get_or l.s-items j unset).turns in Three 0 l.turns j t.u t.v t.w)
