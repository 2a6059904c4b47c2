use Rattle.std.proofs.Common.{◌∙◌, sym}
use Rattle.memory.proofs.Judged.{judged, judged_long}
use Rattle.memory.proofs.fine.memory_fine.Goals as goal

pub returns-then-m-gt-MAX_SYSTEMS : goal.returns-then-m-gt-MAX_SYSTEMS
returns-then-m-gt-MAX_SYSTEMS c = sym (judged_long _ c.if-m-gt-MAX_SYSTEMS.true)

pub returns-then-not-typed_fine : goal.returns-then-not-typed_fine
returns-then-not-typed_fine c = rw (judged c.args.m c.if-m-gt-MAX_SYSTEMS.false, sym c.typed_fine.ensures ∙ c.if-not-typed_fine.true)

pub returns-then-names_differ : goal.returns-then-names_differ
returns-then-names_differ c = rw (judged c.args.m c.if-m-gt-MAX_SYSTEMS.false, sym c.typed_fine.ensures ∙ c.if-not-typed_fine.false, sym c.names_differ.ensures ∙ c.if-names_differ.true) c.ring_free.ensures

pub returns-else-names_differ : goal.returns-else-names_differ
returns-else-names_differ c =
    c.if-names_differ.false
    ∙ rw (judged c.args.m c.if-m-gt-MAX_SYSTEMS.false, sym c.typed_fine.ensures ∙ c.if-not-typed_fine.false, sym c.names_differ.ensures ∙ c.if-names_differ.false)
