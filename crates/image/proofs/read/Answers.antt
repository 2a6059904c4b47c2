use Rattle.std.proofs.Common.{◌≡◌, sym, ◌∙◌}
use Rattle.std.proofs.lemmas.Result.{err_from_is_err_and}
use Rattle.facts.specs.declared.refusals.Refusal.TheVariants.{NoImage}
use Rattle.model.specs.WellFormed.{memory_fine}
use Rattle.model.specs.Stored.{memory_of}
use Rattle.model.proofs.Told.{told_value}
use Rattle.image.proofs.Answering.{refuses, accepts, unread, bytes_left, ill_formed, well_formed_lem}
use Rattle.image.proofs.read.Goals as goal

pub returns-in_err-memory : goal.returns-in_err-memory
returns-in_err-memory c =
    let p = err_from_is_err_and c.from_residual.result c.from_residual.ensures.1 in
    let n = c.in_err-memory.ensures.ok_part in
    let w = rw n at c.in_err-memory.ensures.value in
    let k : c.in_err-memory.field-0.0 ≡ NoImage = cc in
    rw (p.1, p.2, k) (refuses _ (unread _ (told_value 14 _ _ (rw n at c.read_memory.ensures.told))))

pub returns-then-not-is_empty : goal.returns-then-not-is_empty
returns-then-not-is_empty c =
    let e = told_value 14 _ _ (rw c.in_ok-memory.ensures.ok_part at c.read_memory.ensures.told) in
    refuses _ (bytes_left _ _ _ e (sym c.is_empty.ensures ∙ c.if-not-is_empty.true))

pub returns-then-not-memory_fine : goal.returns-then-not-memory_fine
returns-then-not-memory_fine c =
    let e = told_value 14 _ _ (rw c.in_ok-memory.ensures.ok_part at c.read_memory.ensures.told) in
    let s = rw c.in_ok-memory.ensures.ok_part at c.read_memory.ensures.shaped in
    let judged : c.memory_fine.result ≡ memory_fine (memory_of c.in_ok-memory.memory) = rw s at c.memory_fine.ensures in
    refuses _ (ill_formed _ _ _ e (sym c.is_empty.ensures ∙ c.if-not-is_empty.false) (sym judged ∙ c.if-not-memory_fine.true))

pub returns : goal.returns
returns c =
    let e = told_value 14 _ _ (rw c.in_ok-memory.ensures.ok_part at c.read_memory.ensures.told) in
    let s = rw c.in_ok-memory.ensures.ok_part at c.read_memory.ensures.shaped in
    let judged : c.memory_fine.result ≡ memory_fine (memory_of c.in_ok-memory.memory) = rw s at c.memory_fine.ensures in
    accepts _ _ s (well_formed_lem _ _ _ e (sym c.is_empty.ensures ∙ c.if-not-is_empty.false) (sym judged ∙ c.if-not-memory_fine.false))
