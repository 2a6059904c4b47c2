-- The field engineer's checklist, proved after every history: `checklist`.
use mathlib.Core.List.{[]}
use Rattle.model.specs.Trace.{after_calls, after_inputs}
use Rattle.model.specs.Demand.{start_state}
use Rattle.model.specs.Checklist.{Checklist}
use Rattle.model.proofs.Histories.Kept.{well_formed_kept}
use Rattle.model.proofs.Histories.Shown.{ken_shows, kln_leads}
use Rattle.model.proofs.Histories.Under.{refused_under_enabled}
use Rattle.model.proofs.Histories.Saved.{saved_comes_back}

pub checklist : Checklist
unfolding after_inputs
checklist start calls =
    let st = after_calls (start_state start) calls in
    let w = well_formed_kept.history start calls [] in
    record { groups = ken_shows st w; chains = kln_leads st w; in_use = refused_under_enabled st w; saved = saved_comes_back st w }
