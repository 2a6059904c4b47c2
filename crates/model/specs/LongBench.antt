-- Document 02 §4: the long bench. Own offsets reach two metres either way: that is `offset_limit` (specs/Limits.antt), which the reader of values,
-- well-formedness, the image and every claim take by its name. Here is what the wider limit must not spoil: what was saved under the one before it.
-- The statements only; they are proved in proofs/Histories/LongBench.
use Rattle.std.specs.Prelude.{◌≡◌, ◌↔◌, ◌&&◌, ◌||◌}
use Rattle.model.specs.Base.{ℕ, List, Bool, true, not, some, nat_abs, leb, length}
use Rattle.model.specs.Types.{Vec3}
use Rattle.model.specs.Lists.{all}
use Rattle.model.specs.Limits.{max_systems, offset_limit}
use Rattle.model.specs.Kinds.{of_kind}
use Rattle.model.specs.Memory.{System, Memory, started}
use Rattle.model.specs.Chain.{no_ring}
use Rattle.model.specs.Words.{legal_name, reserved}
use Rattle.model.specs.WellFormed.{is_kind, no_offset, turns_fine, names_differ, enabled_fine, memory_fine}
use Rattle.model.specs.Image.{image, accepted}
use Rattle.model.specs.Machine.{began, start_image}
use Rattle.model.specs.Stored.{of_begun}
use Rattle.model.specs.Histories.{ReturnedAlone, stands_alone, ImagePromise}
use Rattle.model.specs.PowerSwitch.{BringsBack, StoredBringsBack}
use Rattle.model.specs.Bench.{powered_on}

-- [Memory 2] the limit that document 01 had, one metre either way
abbrev pub former_limit : ℕ
former_limit = 1000000000

-- ---- well formed under a limit: specs/WellFormed.antt, line by line, for whatever limit is told

-- [Memory 2] own offsets
abbrev pub offsets_within : ℕ → Vec3 → Bool
offsets_within limit t = leb (nat_abs t.x) limit && leb (nat_abs t.y) limit && leb (nat_abs t.z) limit

-- [Memory 2, 4] a user system by itself
abbrev pub own_within : ℕ → System → Bool
own_within limit s =
    legal_name s.name && not (reserved s.name) && offsets_within limit s.offset && turns_fine s.turns
    && (not (of_kind s.kind).turns_only || no_offset s.offset)

-- [Memory 2, 4] one user system of the memory
unfoldable pub system_within : ℕ → List System → System → Bool
system_within limit l s = own_within limit s && is_kind l s.kind s.pred

-- [Memory 4] a memory
unfoldable pub memory_within : ℕ → Memory → Bool
memory_within limit m =
    leb (length m.systems) max_systems && all (system_within limit m.systems) m.systems && names_differ m.systems
    && no_ring m.systems && enabled_fine m.systems m.enabled

-- [Memory 2] no own offset of the memory is past the limit
abbrev pub all_within : ℕ → Memory → Bool
all_within limit m = all (λ (s : System). offsets_within limit s.offset) m.systems

-- ---- what was saved before

-- [02 §4] what the memory was saved as is accepted, as that memory. A start from it has it in both memories: by the machine, by the public call, and by ksbench
-- with these bytes in its file. And from there it goes on, the machine's state and the stored one, as from a save of its own (§7): the listings, a restart,
-- and the image, which is to the byte what was read.
pub record StaysReadable (m : Memory) : Type 0 where
  pub accepts : accepted (image m) ≡ some m
  pub starts : start_image (image m) ≡ began (started m) 0
  pub returned : (r : ReturnedAlone) → ImagePromise (image m) r → stands_alone r ≡ of_begun (began (started m) 0)
  pub powered : powered_on (some (image m)) ≡ began (started m) 0
  pub goes_on : BringsBack m (started m)
  pub stored_goes_on : (r : ReturnedAlone) → ImagePromise (image m) r → StoredBringsBack m r.state

-- [02 §4] all of it
pub record LongBench : Type 0 where
  -- under today's limit the definition above is today's
  pub today : (m : Memory) → memory_within offset_limit m ≡ memory_fine m
  -- well formed under the former limit are those of today that keep to it: all of them, and no others, so nothing was lost when the limit moved
  pub former : (m : Memory) → memory_within former_limit m ≡ true ↔ ((memory_fine m ≡ true) × (all_within former_limit m ≡ true))
  -- what these were saved as
  pub old_images : (m : Memory) → memory_within former_limit m ≡ true → StaysReadable m
