-- KEN? by its parts.
use Prim.Native.Nat.{ℕ, ◌+◌, ◌-◌, ◌≤◌, ◌<◌}
use mathlib.Core.Path.{◌≡◌}
use mathlib.Core.List.{List, [], ◌∷◌, ◌++◌, map, append_assoc, append-nil}
use native.Mathlib.Omega.{arith}
use native.Mathlib.Decide.{dec_lt}
use lib.ListN.{length, get_or, length-append}
use Rattle.model.specs.Lists.{joined}
use Rattle.model.specs.Memory.{System, Ref}
use Rattle.model.specs.Stage.{operating_place}
use Rattle.model.specs.Stored.{system_of, systems_of, memory_of, FineMemory}
use Rattle.model.specs.Use.{operating_places, in_group, enabled_refs}
use Rattle.model.specs.Request.{enabled_ones}
use Rattle.model.specs.Reply.{listing, enabled_line, listed}
use Rattle.chains.proofs.Flattened.{operating_there}
use Rattle.model.proofs.Memories.Fine.{Placed, PartPlaced, fine_of}
use Rattle.chains.proofs.Copies.{unset}
use Rattle.model.proofs.Shape.{systems_of_count}
use Rattle.model.specs.Effects.{tool_half}
use Rattle.reply.specs.Types.{Kind, Operating, Orientational, Levelling, Enabled, OperatingPart, Single, Pair, StoredMemory}
use Rattle.reply.specs.Lines.{enabled_text}
use Rattle.reply.specs.EnabledText.{tool_text, groups_text}
use Rattle.reply.proofs.TurnLaws.{enabled_turn}

-- ---- the parts

pub length_groups : (e : Enabled) (o l : System) → length (groups_text e o l) ≡ 5 + length (enabled_text Orientational e.orientational o) + length (enabled_text Levelling e.levelling l)
unfolding groups_text
length_groups e o l = simp length-append (omega arith)

-- ---- the whole

three : (a o v : List ℕ) → a ++ (32 ∷ 10 ∷ ((o ++ (32 ∷ 10 ∷ ((v ++ (10 ∷ [])) ++ []))) ++ [])) ≡ a ++ ((32 ∷ 10 ∷ o) ++ ((32 ∷ 10 ∷ v) ++ (10 ∷ [])))
three a o v = simp (append_assoc, append-nil)

four : (a t o v : List ℕ) → a ++ (32 ∷ 10 ∷ ((t ++ (32 ∷ 10 ∷ ((o ++ (32 ∷ 10 ∷ ((v ++ (10 ∷ [])) ++ []))) ++ []))) ++ [])) ≡ a ++ ((32 ∷ 10 ∷ t) ++ ((32 ∷ 10 ∷ o) ++ ((32 ∷ 10 ∷ v) ++ (10 ∷ []))))
four a t o v = simp (append_assoc, append-nil)

-- over any line and texts that it equals
parts : (line : Ref → List ℕ) (e : Enabled) (part : OperatingPart) (a b o v : System)
    → line (in_group Operating (operating_place part)) ≡ enabled_text Operating (operating_place part) a
    → line (in_group Operating (tool_half part)) ≡ enabled_text Operating (tool_half part) b
    → line (in_group Orientational e.orientational) ≡ enabled_text Orientational e.orientational o
    → line (in_group Levelling e.levelling) ≡ enabled_text Levelling e.levelling v
    → listing (map line (map (in_group Operating) (operating_places part) ++ (in_group Orientational e.orientational ∷ in_group Levelling e.levelling ∷ [])))
    ≡ enabled_text Operating (operating_place part) a ++ (tool_text part b ++ groups_text e o v)
unfolding listing joined tool_text groups_text
parts line e (Single p) a b o v ea eb eo ev = rw (ea, eo, ev) (three (enabled_text Operating p a) (enabled_text Orientational e.orientational o) (enabled_text Levelling e.levelling v))
parts line e (Pair w t) a b o v ea eb eo ev =
    rw (ea, eb, eo, ev) (four (enabled_text Operating w a) (enabled_text Operating t b) (enabled_text Orientational e.orientational o) (enabled_text Levelling e.levelling v))

-- ---- of a well-formed stored memory

module _ (m : StoredMemory) (ready : FineMemory m) (long : length m.systems ≡ 16) where
  placed_within : (k : Kind) (p : ℕ) → Placed (systems_of m) k p → p ≤ m.count
  placed_within k p f = go (dec_lt 0 p)
    where
      go : Dec (0 < p) → p ≤ m.count
      go (yes h) = omega (arith, (f h).0, systems_of_count m ready.shape long)
      go (no h) = omega arith

  pub tool_within : tool_half m.enabled.operating ≤ m.count
  tool_within = go m.enabled.operating (fine_of (memory_of m) ready.formed).enabled.operating
    where
      go : (part : OperatingPart) → PartPlaced (systems_of m) part → tool_half part ≤ m.count
      go (Single p) f = omega arith
      go (Pair w t) f = placed_within _ t f.1

  pub orientational_within : m.enabled.orientational ≤ m.count
  orientational_within = placed_within _ m.enabled.orientational (fine_of (memory_of m) ready.formed).enabled.orientational

  pub levelling_within : m.enabled.levelling ≤ m.count
  levelling_within = placed_within _ m.enabled.levelling (fine_of (memory_of m) ready.formed).enabled.levelling

  abbrev pub stored_at : ℕ → System
  stored_at p = system_of (get_or m.systems (p - 1) unset)

  pub enabled_whole : let e = m.enabled in let part = e.operating in
      listed (memory_of m) enabled_ones
      ≡ enabled_text Operating (operating_place part) (stored_at (operating_place part)) ++ (tool_text part (stored_at (tool_half part)) ++ groups_text e (stored_at e.orientational) (stored_at e.levelling))
  unfolding listed enabled_refs
  enabled_whole =
      let e = m.enabled in
      let turn = enabled_turn m ready.shape long in
      parts (enabled_line (systems_of m)) e e.operating _ _ _ _ (turn Operating _ (operating_there m ready long)) (turn Operating _ tool_within) (turn Orientational _ orientational_within) (turn Levelling _ levelling_within)
