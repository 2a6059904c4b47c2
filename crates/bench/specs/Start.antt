-- [ksbench, start] the session that begins with what the file holds.
use Rattle.std.specs.Prelude.{◌≡◌, List, [], ℕ, Result, IfOk}
use Rattle.std.proofs.Math.Option.{Option}
use Rattle.facts.specs.declared.refusals.Refusal.{Refusal}
use Rattle.facts.specs.Refusals.{outcome}
use Rattle.model.specs.Bench.{powered_on}
use Rattle.model.specs.Stored.{FineState}
use Rattle.lines.specs.Feed.{holding}
use Rattle.session.specs.Blocks.{held_of}
use Rattle.session.specs.declared.feed.Session.{Session}

-- it is the definition's start, and there is one where no number refuses it
pub record StartsWith (file : Option (List ℕ)) (r : Result Session Refusal) : Type 0 where
  pub number : outcome r ≡ (powered_on file).number
  pub held : IfOk r (λ s. held_of s ≡ holding (powered_on file).state [])
  pub fine : IfOk r (λ s. FineState s.state)
