-- What ksrun does with the bytes that it reads, block by block.
use Rattle.std.specs.Prelude.{ℕ, ◌≡◌, List}
use Rattle.model.specs.Stored.{FineState}
use Rattle.model.specs.Tally.{counted_all}
use Rattle.tally.specs.Counts.{tally_of}
use Rattle.session.specs.Feed.{Fed, fed, fed_outcomes}
use Rattle.session.specs.Blocks.{held_of}
use Rattle.session.specs.declared.feed.Session.{Session}

-- [ksrun] what a session gives for the next bytes of its input: what it prints, and what it holds then
abbrev pub given : Session → List ℕ → Fed
given s part = fed (held_of s).state (held_of s).line part

-- [02 §10] the same of its outcomes
abbrev pub outcomes_given : Session → List ℕ → List ℕ
outcomes_given s part = (fed_outcomes (held_of s).state (held_of s).line part).output

-- a block was served and all could be written: the session r holds what s gives for the whole block, and has counted its outcomes
pub record Serves (s : Session) (block : List ℕ) (r : Session) : Type 0 where
  pub held : held_of r ≡ (given s block).held
  pub tally : tally_of r.tally ≡ counted_all (tally_of s.tally) (outcomes_given s block)
  pub fine : FineState r.state
