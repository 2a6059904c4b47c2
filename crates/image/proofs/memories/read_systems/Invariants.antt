use Rattle.std.proofs.Common.{◌-◌, ◌≡◌, true, length, take, map}
use Rattle.model.specs.Lists.{all}
use Rattle.model.specs.Stored.{system_of, name_shaped}
use Rattle.model.specs.Image.{read_systems}
use Rattle.image.proofs.Turns.{prefixed}
use Rattle.image.proofs.memories.read_systems.Given as goal

abbrev pub invariant-loop-system : goal.invariant-loop-system
invariant-loop-system l = record {
  long : length l.system-items ≡ l.count;
  told : read_systems l.count l.fn.bytes.now
      ≡ prefixed (map system_of (take l.system-index l.system-items)) (read_systems (l.count - l.system-index) l.bytes.now);
  shaped : all name_shaped (take l.system-index l.system-items) ≡ true;
}
