use Prim.Native.Nat.{ℕ, ◌+◌, ◌-◌, ◌≤◌, ◌<◌}
use mathlib.Core.Path.{◌≡◌, ap, ◌∙◌}
use mathlib.Core.List.{List, ◌++◌}
use native.Mathlib.Omega.{arith}
use lib.ListN.{length, get_or, length-append}
use Rattle.model.specs.Limits.{name_limit, buffer_limit}
use Rattle.model.specs.Stored.{system_of, memory_of, FineMemory}
use Rattle.model.specs.Request.{enabled_ones}
use Rattle.model.specs.Reply.{listed}
use Rattle.chains.proofs.Copies.{length_mapped, unset}
use Rattle.print.proofs.Laws.{wrote_then}
use Rattle.model.proofs.Shape.{shaped_count}
use Rattle.reply.specs.Types.{Operating, StoredMemory, StoredSystem}
use Rattle.reply.specs.Lines.{enabled_text}
use Rattle.reply.specs.EnabledText.{tool_text, groups_text}
use Rattle.chains.proofs.Flattened.{operating_there}
use Rattle.reply.proofs.EnabledLaws.{tool_within, orientational_within, levelling_within, enabled_whole}
use Rattle.reply.proofs.ListLaws.{replied}
use Rattle.reply.proofs.ShortLaws.{listed_short}
use Rattle.reply.proofs.StoredLaws.{name_fits}
use borrow.Author.Rules.{rules}
use Rattle.reply.proofs.enabled.enabled.Goals.{Start, After-slot-4}
use Rattle.reply.proofs.enabled.enabled.Goals as goal

long : (c : Start) → length c.args.m.systems ≡ 16
long c = search (length_mapped, rules)

-- ---- where every system is looked up
abbrev at : StoredMemory → ℕ → StoredSystem
at m i = get_or m.systems i unset

whole : (c : After-slot-4) → listed (memory_of c.args.m) enabled_ones
    ≡ enabled_text Operating c.operating_place-place.result (system_of (at c.args.m c.slot.result))
    ++ (tool_text c.args.m.enabled.operating (system_of (at c.args.m c.slot-2.result))
    ++ groups_text c.args.m.enabled (system_of (at c.args.m c.slot-3.result)) (system_of (at c.args.m c.slot-4.result)))
whole c =
    rw (c.slot.ensures, c.slot-2.ensures, c.slot-3.ensures, c.slot-4.ensures, c.operating_place-place.ensures, c.tool_half.ensures)
    (enabled_whole c.args.m c.requires.fine_memory (search (length_mapped, rules)))

short : (m : StoredMemory) → FineMemory m → (n : ℕ) → buffer_limit ≤ n → length (listed (memory_of m) enabled_ones) ≤ n
short m fine n room = omega (arith, room, listed_short (memory_of m) fine.formed enabled_ones)

parts : (a b d : List ℕ) {t : List ℕ} {n : ℕ} → t ≡ a ++ (b ++ d) → length t ≤ n → length a + (length b + length d) ≤ n
parts a b d e h = omega (arith, h, ap length e, length-append a (b ++ d), length-append b d)

fits : (c : After-slot-4) → length (enabled_text Operating c.operating_place-place.result (system_of (at c.args.m c.slot.result)))
    + (length (tool_text c.args.m.enabled.operating (system_of (at c.args.m c.slot-2.result)))
    + length (groups_text c.args.m.enabled (system_of (at c.args.m c.slot-3.result)) (system_of (at c.args.m c.slot-4.result)))) ≤ length c.args.reply.now
fits c =
    parts (enabled_text Operating c.operating_place-place.result (system_of (at c.args.m c.slot.result)))
    (tool_text c.args.m.enabled.operating (system_of (at c.args.m c.slot-2.result)))
    (groups_text c.args.m.enabled (system_of (at c.args.m c.slot-3.result)) (system_of (at c.args.m c.slot-4.result)))
    (rw (c.slot.ensures, c.slot-2.ensures, c.slot-3.ensures, c.slot-4.ensures, c.operating_place-place.ensures, c.tool_half.ensures)
    (enabled_whole c.args.m c.requires.fine_memory (search (length_mapped, rules))))
    (short c.args.m c.requires.fine_memory (length c.args.reply.now) c.requires.room)

-- the name of a user system at a place that is not beyond the count
named : (m : StoredMemory) → FineMemory m → length m.systems ≡ 16 → (p i : ℕ) → p ≤ m.count → i ≡ p - 1 → 0 < p → (at m i).name.len ≤ name_limit
named m fine long p i h e n = name_fits m fine.shape long i (omega arith)

-- ---- the needs
pub bounds-m-slot : goal.bounds-m-slot
bounds-m-slot c =
    omega (arith, operating_there c.args.m c.requires.fine_memory (long (goal.at.bounds-m-slot c).Start), shaped_count c.args.m c.requires.fine_memory.shape, c.slot.ensures, c.operating_place-place.ensures)

pub bounds-m-slot-2 : goal.bounds-m-slot-2
bounds-m-slot-2 c =
    omega (arith, tool_within c.args.m c.requires.fine_memory (long (goal.at.bounds-m-slot-2 c).Start), shaped_count c.args.m c.requires.fine_memory.shape, c.slot-2.ensures, c.tool_half.ensures)

pub bounds-m-slot-3 : goal.bounds-m-slot-3
bounds-m-slot-3 c =
    omega (arith, orientational_within c.args.m c.requires.fine_memory (long (goal.at.bounds-m-slot-3 c).Start), shaped_count c.args.m c.requires.fine_memory.shape, c.slot-3.ensures)

pub bounds-m-slot-4 : goal.bounds-m-slot-4
bounds-m-slot-4 c =
    omega (arith, levelling_within c.args.m c.requires.fine_memory (long (goal.at.bounds-m-slot-4 c).Start), shaped_count c.args.m c.requires.fine_memory.shape, c.slot-4.ensures)

pub put_enabled-i-requires : goal.put_enabled-i-requires
put_enabled-i-requires c =
    let m = c.args.m in
    let fine = c.requires.fine_memory in
    let full = long (goal.at.put_enabled-i-requires c).Start in
    let p = c.operating_place-place in (
      named m fine full p.result c.slot.result (rw p.ensures (operating_there m fine full)) c.slot.ensures,
      omega (arith, fits (goal.at.put_enabled-i-requires c).After-slot-4),
    )

pub put_tool-j-requires : goal.put_tool-j-requires
put_tool-j-requires c =
    let m = c.args.m in
    let fine = c.requires.fine_memory in
    let full = long (goal.at.put_tool-j-requires c).Start in (
      named m fine full _ c.slot-2.result (tool_within m fine full) (c.slot-2.ensures ∙ rw c.tool_half.ensures),
      omega (
        arith,
        fits (goal.at.put_tool-j-requires c).After-slot-4,
        c.put_enabled-i.ensures.place,
        c.put_enabled-i.auto.out,
      ),
    )

pub put_groups-requires : goal.put_groups-requires
put_groups-requires c =
    let m = c.args.m in
    let fine = c.requires.fine_memory in
    let full = long (goal.at.put_groups-requires c).Start in (
      record {
        orientational_fits = named m fine full _ c.slot-3.result (orientational_within m fine full) c.slot-3.ensures;
        levelling_fits = named m fine full _ c.slot-4.result (levelling_within m fine full) c.slot-4.ensures;
      },
      omega (
        arith,
        fits (goal.at.put_groups-requires c).After-slot-4,
        c.put_enabled-i.ensures.place,
        c.put_enabled-i.auto.out,
        c.put_tool-j.ensures.place,
        c.put_tool-j.auto.reply,
      ),
    )

pub returns : goal.returns
returns c =
    replied (short c.args.m c.requires.fine_memory _ c.requires.room)
    (rw (whole (goal.at.returns c).After-slot-4) (wrote_then c.put_enabled-i.ensures (wrote_then c.put_tool-j.ensures c.put_groups.ensures)))
