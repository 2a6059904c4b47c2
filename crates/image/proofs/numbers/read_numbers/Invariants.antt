use Rattle.std.proofs.Common.{ℕ, ◌-◌, ◌≤◌, ◌<◌, ◌≡◌, take, length, get_or}
use Rattle.model.specs.Image.{several}
use Rattle.image.proofs.Turns.{prefixed}
use Rattle.image.proofs.numbers.read_numbers.Given as goal

abbrev pub invariant-loop-value : goal.invariant-loop-value
invariant-loop-value g l = record {
  long : length l.value-items ≡ g.row.N;
  told : several g.row.N l.most l.fn.bytes.now ≡ prefixed (take l.value-index l.value-items) (several (g.row.N - l.value-index) l.most l.bytes.now);
  within : (k : ℕ) → k < l.value-index → get_or l.value-items k 0 ≤ l.most;
}
