-- `start_from`: the machine's own start from these bytes.
use mathlib.Core.Path.{◌≡◌, ap}
use borrow.Author.Rules.{rules}
use Rattle.std.proofs.Common.{Err}
use Rattle.facts.specs.Refusals.{outcome}
use Rattle.model.specs.Machine.{start_image}
use Rattle.model.specs.Stored.{Restarted}
use Rattle.model.proofs.Histories.Kept.{well_formed_kept}
use Rattle.bench.proofs.Starting.{begun_held, begun_fine, no_session, some_session}
use Rattle.bench.proofs.start.start_from.Goals.{After-start_image-begun}
use Rattle.bench.proofs.start.start_from.Goals as goal

told : (c : After-start_image-begun) → outcome c.start_image-begun.result.outcome ≡ (start_image c.args.bytes.now).number
told c = ap (λ (r : Restarted). r.number) c.start_image-begun.ensures

pub returns-in_err-begun : goal.returns-in_err-begun
returns-in_err-begun c =
    let e : c.from_residual.result ≡ Err c.in_err-begun.field-0.0 = search rules in
    rw e (no_session c.args.bytes.now c.start_image-begun.result.outcome (told (goal.at.returns-in_err-begun c).After-start_image-begun) c.in_err-begun.field-0.0 c.in_err-begun.was)

pub returns : goal.returns
returns c =
    let bytes = c.args.bytes.now in
    let i = c.start_image-begun in
    let b = c.begin_from in
    let view = ap (λ (r : Restarted). r.state) i.ensures in
    some_session
    bytes
    i.result.outcome
    (told (goal.at.returns c).After-start_image-begun)
    b.result
    c.in_ok-begun.was
    (begun_held i.result.state (start_image bytes).state view b.result b.ensures)
    (begun_fine i.result.state (start_image bytes).state view b.result b.ensures (well_formed_kept.image bytes))
