-- A block that is fed part by part: what is handed out for a part, and what is held after it.
use Prim.Native.Nat.{ℕ, ◌+◌, ◌-◌}
use mathlib.Core.Path.{◌≡◌, sym, ap, ◌∙◌}
use mathlib.Core.List.{List, [], ◌++◌}
use native.Mathlib.Omega.{arith}
use lib.ListN.{take, drop}
use Rattle.lines.proofs.Feeding.{fed_nothing}
use Rattle.lines.proofs.Places.{rest, rest_used, fed_part, fed_behind}
use Rattle.model.specs.Tally.{Tally, counted_all}
use Rattle.model.proofs.Histories.Tally.{counted_append}
use Rattle.tally.specs.Counts.{tally_of}
use Rattle.session.specs.Feed.{Fed, answering, numbering}
use Rattle.session.specs.Blocks.{held_of, Feeds}
use Rattle.session.specs.declared.due.Manner.{Manner}
use Rattle.session.specs.declared.feed.Session.{Session}
use Rattle.session.specs.declared.feed.Fed.{Fed as StoredFed}
use Rattle.session.proofs.Rest.{replied_first}
use Rattle.session.proofs.Whole.{outcomes_held}
use Rattle.console.specs.Serve.{given, outcomes_given}

-- before the first byte
pub given_nothing : (s : Session) → held_of s ≡ (given s []).held
given_nothing s = ap (λ (x : Fed). x.held) (sym (fed_nothing answering (held_of s).state (held_of s).line))

pub counted_nothing : (s : Session) → tally_of s.tally ≡ counted_all (tally_of s.tally) (outcomes_given s [])
unfolding counted_all
counted_nothing s = ap (λ (x : Fed). counted_all (tally_of s.tally) x.output) (sym (fed_nothing numbering (held_of s).state (held_of s).line))

-- a session t that holds what s gives for a block up to a place, and has counted its outcomes; and what was fed of the rest
module _ (s : Session) (block : List ℕ) (t : Session) (at : ℕ) (held : held_of t ≡ (given s (take at block)).held)
    (tally : tally_of t.tally ≡ counted_all (tally_of s.tally) (outcomes_given s (take at block))) (before after : List ℕ) (f : StoredFed)
    (k : Manner) (feeds : Feeds k t (rest block at) before after f) (end : ℕ) (e : end ≡ at + f.used) where
  abbrev part : List ℕ
  part = take (end - at) (drop at block)

  used : take f.used (rest block at) ≡ part
  used = rest_used block at f.used end feeds.within e

  -- what stands in the buffer is what t gives for the part
  pub part_handed : take f.written after ≡ (given t part).output
  part_handed = replied_first feeds.puts ∙ ap (λ (p : List ℕ). (given t p).output) used

  -- and the session after it holds what s gives up to there
  pub part_held : held_of f.session ≡ (given s (take end block)).held
  part_held =
      feeds.held ∙ ap (λ (p : List ℕ). (given t p).held) used
      ∙ fed_part answering (held_of s).state (held_of s).line block at (held_of t).state (held_of t).line (sym held) end (omega arith)

  -- its outcomes come behind those up to the place
  outcomes_more : outcomes_given s (take end block) ≡ outcomes_given s (take at block) ++ outcomes_given t part
  outcomes_more =
      fed_behind numbering (held_of s).state (held_of s).line block at (held_of t).state (held_of t).line
      (outcomes_held (held_of s).state (held_of s).line (take at block) ∙ sym held) end (omega arith)

  -- so the session after it has counted them all
  pub part_counted : tally_of f.session.tally ≡ counted_all (tally_of s.tally) (outcomes_given s (take end block))
  part_counted =
      feeds.tally ∙ ap (λ (p : List ℕ). counted_all (tally_of t.tally) (outcomes_given t p)) used
      ∙ ap (λ (x : Tally). counted_all x (outcomes_given t part)) tally
      ∙ sym (ap (counted_all (tally_of s.tally)) outcomes_more ∙ counted_append (outcomes_given s (take at block)) (outcomes_given t part) (tally_of s.tally))
