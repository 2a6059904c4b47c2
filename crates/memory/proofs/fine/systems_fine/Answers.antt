use Rattle.std.proofs.Common.{◌≡◌, map, true, false, rules, tests}
use Rattle.std.proofs.lemmas.Iterator.{cases_from_all, YieldsList-from_slice}
use Rattle.model.specs.Stored.{system_of}
use Rattle.memory.specs.Fine.{stored_fine}
use Rattle.memory.proofs.Tests.{all_told}
use Rattle.memory.proofs.fine.systems_fine.Goals as goal

pub returns : goal.returns
returns c =
    let xs = c.args.systems.now in
    let p = stored_fine (map system_of xs) in
    all_told p xs _ (cases_from_all _ _ _ (λ s. p s ≡ true) (λ s. p s ≡ false) c.all.ensures.ran
    (YieldsList-from_slice xs cc) (λ x q k. search (rules, tests)) (λ x q k. search (rules, tests)))
