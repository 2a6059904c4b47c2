-- Document 02 §4, proved: `long_bench`.
use Prim.Native.Nat.{ℕ, ◌≤◌}
use mathlib.Core.Path.{◌≡◌, refl, sym, ap, ◌∙◌}
use mathlib.Core.List.{List}
use mathlib.Core.Bool.{Bool, true, not, ◌&&◌, ◌||◌}
use mathlib.Core.Logic.{◌↔◌}
use native.Mathlib.Omega.{arith}
use lib.Dec.{leb}
use lib.IntN.{ℤ, nat_abs}
use lib.ListN.{length, get_or}
use borrow.Author.Tests.{leb-true, le-leb}
use Rattle.model.specs.Lists.{all}
use Rattle.model.specs.Limits.{max_systems, offset_limit}
use Rattle.model.specs.Kinds.{of_kind}
use Rattle.model.specs.Memory.{System, Memory, blank, started}
use Rattle.model.specs.Chain.{no_ring}
use Rattle.model.specs.Words.{legal_name, reserved, offset?}
use Rattle.model.specs.WellFormed.{is_kind, no_offset, turns_fine, system_fine, names_differ, enabled_fine, memory_fine}
use Rattle.model.specs.Image.{image}
use Rattle.model.specs.Machine.{began}
use Rattle.model.specs.Stored.{Restarted, of_begun}
use Rattle.model.specs.Histories.{ReturnedAlone, stands_alone, ImagePromise}
use Rattle.model.specs.Bench.{powered_on}
use Rattle.model.specs.LongBench.{former_limit, offsets_within, system_within, memory_within, all_within, StaysReadable, LongBench}
use Rattle.model.proofs.Basics.{and_split, and_join, all_at, all_from}
use Rattle.model.proofs.Ladder.Exact.{start_some}
use Rattle.model.proofs.Image.Exactly.{reads_back}
use Rattle.model.proofs.Histories.Kept.{started_fine}
use Rattle.model.proofs.Histories.Switched.{permanent_back, stored_back}

-- ---- one limit and another: only the offsets tell them apart

abbrev under : ℕ → System → Bool
under limit s = offsets_within limit s.offset

under_wider : (limit wider : ℕ) → limit ≤ wider → (s : System) → under limit s ≡ true → under wider s ≡ true
under_wider limit wider h s e =
    let t = s.offset in
    let xy_z = and_split _ _ e in
    let x-y = and_split _ _ xy_z.0 in
    and_join (and_join (size t.x x-y.0) (size t.y x-y.1)) (size t.z xy_z.1)
  where
    size : (z : ℤ) → leb (nat_abs z) limit ≡ true → leb (nat_abs z) wider ≡ true
    size z e = le-leb (nat_abs z) wider (omega (arith, leb-true (nat_abs z) limit e))

module _ (limit : ℕ) where
  -- a system's offsets, and that under any limit that holds them it is as well formed
  system_parts : (l : List System) (s : System) → system_within limit l s ≡ true →
      (offsets_within limit s.offset ≡ true) × ((other : ℕ) → offsets_within other s.offset ≡ true → system_within other l s ≡ true)
  unfolding system_within
  system_parts l s e =
      let names = legal_name s.name && not (reserved s.name) in
      let offsets = offsets_within limit s.offset in
      let turns = turns_fine s.turns in
      let flat = not (of_kind s.kind).turns_only || no_offset s.offset in
      let own-pred = and_split (names && offsets && turns && flat) (is_kind l s.kind s.pred) e in
      let own-flat = and_split (names && offsets && turns) flat own-pred.0 in
      let own-turns = and_split (names && offsets) turns own-flat.0 in
      let names-offsets = and_split names offsets own-turns.0 in
      (names-offsets.1, λ other o. and_join (and_join (and_join (and_join names-offsets.0 o) own-turns.1) own-flat.1) own-pred.1)

  -- the same of a memory
  memory_parts : (m : Memory) → memory_within limit m ≡ true →
      (all_within limit m ≡ true) × ((other : ℕ) → all_within other m ≡ true → memory_within other m ≡ true)
  unfolding memory_within
  memory_parts m e =
      let l = m.systems in
      let few = leb (length l) max_systems in
      let each = all (system_within limit l) l in
      let rest-enabled = and_split (few && each && names_differ l && no_ring l) (enabled_fine l m.enabled) e in
      let rest-ringless = and_split (few && each && names_differ l) (no_ring l) rest-enabled.0 in
      let rest-names = and_split (few && each) (names_differ l) rest-ringless.0 in
      let few-each = and_split few each rest-names.0 in (
        all_from (under limit) l blank (λ i h. (system_parts l _ (all_at (system_within limit l) l blank i few-each.1 h)).0),
        λ other o.
            let each-other = all_from (system_within other l) l blank (λ i h. (system_parts l _ (all_at (system_within limit l) l blank i few-each.1 h)).1 other (all_at (under other) l blank i o h)) in
            and_join (and_join (and_join (and_join few-each.0 each-other) rest-names.1) rest-ringless.1) rest-enabled.1,
      )

-- ---- today's limit, and the former one

same_today : (m : Memory) → memory_within offset_limit m ≡ memory_fine m
unfolding memory_within system_within memory_fine system_fine offset?
same_today m = refl

still_fine : (m : Memory) → memory_within former_limit m ≡ true → memory_fine m ≡ true
still_fine m e =
    let p = memory_parts former_limit m e in
    let l = m.systems in
    let wider = all_from (under offset_limit) l blank (λ i h. under_wider former_limit offset_limit (omega arith) (get_or l i blank) (all_at (under former_limit) l blank i p.0 h)) in
    sym (same_today m) ∙ p.1 offset_limit wider

former_exactly : (m : Memory) → memory_within former_limit m ≡ true ↔ ((memory_fine m ≡ true) × (all_within former_limit m ≡ true))
former_exactly m =
    (λ e. (still_fine m e, (memory_parts former_limit m e).0), λ e. (memory_parts offset_limit m (same_today m ∙ e.0)).1 former_limit e.1)

-- ---- what was saved before

stays_readable : (m : Memory) → memory_fine m ≡ true → StaysReadable m
unfolding powered_on
stays_readable m w =
    let accepts = reads_back m w in
    let starts = start_some (image m) m accepts in
    let returned : (r : ReturnedAlone) → ImagePromise (image m) r → stands_alone r ≡ of_begun (began (started m) 0) = λ r p. p ∙ ap of_begun starts in
    let back = permanent_back (started m) (started_fine m w) in
    record {
      accepts = accepts;
      starts = starts;
      returned = returned;
      powered = starts;
      goes_on = back;
      stored_goes_on = λ r p. stored_back r.state (started m) (ap (λ (o : Restarted). o.state) (returned r p)) m back;
    }

pub long_bench : LongBench
long_bench = record { today = same_today; former = former_exactly; old_images = λ m e. stays_readable m (still_fine m e) }
