use Rattle.std.proofs.Common.{◌≡◌, [], ◌∷◌, ◌++◌, map, length, arith, rules}
use Rattle.model.specs.Limits.{max_systems}
use Rattle.model.specs.Lists.{joined}
use Rattle.model.specs.Image.{edition, numbers, system_bytes, enabled_bytes, image}
use Rattle.model.specs.Stored.{systems_of, memory_of}
use Rattle.model.proofs.Image.Limits.{fits}
use Rattle.chains.proofs.Copies.{length_mapped}
use Rattle.print.proofs.Left.{Left, left_all, left_wrote, left_fits, left_done}
use Rattle.image.proofs.MemoryLeft.{image_parts}
use Rattle.image.proofs.memories.write_memory.Goals.{After-from}
use Rattle.image.proofs.memories.write_memory.Goals as goal

-- all of it is left to write, as its parts
all_left : (c : After-from) → (
    let m = c.args.m in
    let head = numbers (edition ∷ c.from.result ∷ []) in
    Left (image (memory_of m)) 0 c.args.out.now (head ++ (joined (map system_bytes (systems_of m)) ++ (enabled_bytes m.enabled ++ []))) 0 c.args.out.now
    )
all_left c =
    let m = c.args.m in
    let long : length m.systems ≡ max_systems = search (length_mapped, rules) in
    rw c.from.ensures
    (left_all (image_parts m long c.requires.fine_memory.shape) (omega (arith, c.requires.room, (fits (memory_of m) c.requires.fine_memory.formed).0)))

pub write_numbers-listed_at-requires : goal.write_numbers-listed_at-requires
write_numbers-listed_at-requires c = left_fits _ _ (all_left (goal.at.write_numbers-listed_at-requires c).After-from)

pub write_systems-enabled_at-requires-clause-room : goal.write_systems-enabled_at-requires-clause-room
write_systems-enabled_at-requires-clause-room c =
    left_fits _ _ (left_wrote (all_left (goal.at.write_systems-enabled_at-requires-clause-room c).After-from) c.write_numbers-listed_at.ensures)

pub write_enabled-requires : goal.write_enabled-requires
write_enabled-requires c =
    left_fits _ _ (left_wrote (left_wrote (all_left (goal.at.write_enabled-requires c).After-from) c.write_numbers-listed_at.ensures) c.write_systems-enabled_at.ensures)

pub returns : goal.returns
returns c =
    let all = all_left (goal.at.returns c).After-from in
    left_done (left_wrote (left_wrote (left_wrote all c.write_numbers-listed_at.ensures) c.write_systems-enabled_at.ensures) c.write_enabled.ensures)
