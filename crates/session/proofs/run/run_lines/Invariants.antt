use Prim.Native.Nat.{ℕ, ◌-◌}
use mathlib.Core.Path.{◌≡◌}
use lib.ListN.{length}
use Rattle.model.specs.declared.Position.{Position}
use Rattle.model.specs.declared.Memory.{Memory as StoredMemory}
use Rattle.model.specs.declared.State.{State as StoredState}
use Rattle.model.specs.Stored.{state_of}
use Rattle.tally.specs.Counts.{numbers, tally_of}
use Rattle.tally.specs.Trimmed.{tally_with}
use Rattle.session.specs.Blocks.{Run, Reasoned}
use Rattle.session.proofs.run.run_lines.Given as goal

-- the stored state of these parts
abbrev pub state_with : StoredMemory → StoredMemory → Position → ℕ → ℕ → StoredState
state_with v p position level error = record { volatile = v; permanent = p; position = position; level = level; error = error }

-- a run as far as it has come, the counts have a place for each number, and what is to be told is a refusal's reason
abbrev pub invariant-loop-out : goal.invariant-loop-out
invariant-loop-out l = record {
  run : Run l.k (state_of l.fn.s.state) (tally_of l.fn.s.tally) l.block l.initial.out l.out (state_with l.volatile l.permanent l.position l.level l.error) (tally_with l.counts l.total) l.used l.written l.due;
  places : length l.counts ≡ numbers;
  reasoned : Reasoned l.due;
}

abbrev pub decreases-loop-out : goal.decreases-loop-out
decreases-loop-out l = length l.block - l.used
