-- How each list of a well-formed stored memory is made up.
use Prim.Native.Nat.{ℕ, ◌≤◌}
use mathlib.Core.Path.{◌≡◌, refl, ◌∙◌}
use mathlib.Core.List.{List, [], map}
use native.Mathlib.Omega.{arith}
use lib.ListN.{length}
use Rattle.model.specs.Limits.{buffer_limit}
use Rattle.model.specs.Memory.{System, Ref, user_ref}
use Rattle.model.specs.Stored.{systems_of, memory_of, FineMemory}
use Rattle.model.specs.Request.{Query, systems_all, links, resultants}
use Rattle.model.specs.Reply.{listing, every_system, system_line, link_line, resultant_line, listed}
use Rattle.model.proofs.Open.{definitions_open}
use Rattle.model.proofs.Shape.{systems_of_count}
use Rattle.reply.specs.Types.{StoredMemory}
use Rattle.reply.specs.Lines.{fixed_lines}
use Rattle.reply.proofs.ListLaws.{Plan, list_of}
use Rattle.reply.proofs.ShortLaws.{listed_short}

-- the line of the k-th user system
abbrev pub line_at : (List System → Ref → List ℕ) → StoredMemory → ℕ → List ℕ
line_at line m k = line (systems_of m) (user_ref (systems_of m) k)

-- the fixed systems' lines are the same in every memory
fixed_systems : (l : List System) → fixed_lines (system_line l) ≡ fixed_lines (system_line [])
unfolding definitions_open
fixed_systems l = refl

fixed_links : (l : List System) → fixed_lines (link_line l) ≡ fixed_lines (link_line [])
unfolding definitions_open
fixed_links l = refl

fixed_resultants : (l : List System) → fixed_lines (resultant_line l) ≡ fixed_lines (resultant_line [])
unfolding definitions_open
fixed_resultants l = refl

module _ (m : StoredMemory) (ready : FineMemory m) (b : List ℕ) (room : buffer_limit ≤ length b) (long : length m.systems ≡ 16) where
  plan : (q : Query) (line : List System → Ref → List ℕ) → listed (memory_of m) q ≡ listing (map (line (systems_of m)) (every_system (systems_of m)))
      → fixed_lines (line (systems_of m)) ≡ fixed_lines (line []) → Plan (listed (memory_of m) q) (fixed_lines (line [])) (line_at line m) m.count b
  plan q line e f =
      record {
        whole = e ∙ list_of line (systems_of m) m.count f (systems_of_count m ready.shape long);
        fits = omega (arith, room, listed_short (memory_of m) ready.formed q);
      }

  pub systems_plan : Plan (listed (memory_of m) systems_all) (fixed_lines (system_line [])) (line_at system_line m) m.count b
  unfolding listed
  systems_plan = plan systems_all system_line refl (fixed_systems (systems_of m))

  pub links_plan : Plan (listed (memory_of m) links) (fixed_lines (link_line [])) (line_at link_line m) m.count b
  unfolding listed
  links_plan = plan links link_line refl (fixed_links (systems_of m))

  pub resultants_plan : Plan (listed (memory_of m) resultants) (fixed_lines (resultant_line [])) (line_at resultant_line m) m.count b
  unfolding listed
  resultants_plan = plan resultants resultant_line refl (fixed_resultants (systems_of m))
