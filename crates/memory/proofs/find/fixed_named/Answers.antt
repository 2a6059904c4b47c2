use mathlib.Core.Path.{refl, sym, ◌∙◌}
use Rattle.model.specs.Memory.{fixed_named}
use Rattle.model.specs.Told.{or_number}
use Rattle.memory.specs.Found.{found_told, found_place}
use Rattle.memory.proofs.find.fixed_named.Goals as goal

pub returns-then-same_bytes : goal.returns-then-same_bytes
unfolding fixed_named or_number found_told found_place
returns-then-same_bytes c = record {
  told = λ l. rw (sym c.same_bytes.ensures ∙ c.if-same_bytes.true);
  place_value = refl;
  real = tt;
}

pub returns-then-same_bytes-2 : goal.returns-then-same_bytes-2
unfolding fixed_named or_number found_told found_place
returns-then-same_bytes-2 c = record {
  told = λ l. rw (sym c.same_bytes.ensures ∙ c.if-same_bytes.false, sym c.same_bytes-2.ensures ∙ c.if-same_bytes-2.true);
  place_value = refl;
  real = tt;
}

pub returns-then-same_bytes-3 : goal.returns-then-same_bytes-3
unfolding fixed_named or_number found_told found_place
returns-then-same_bytes-3 c = record {
  told = λ l. rw (sym c.same_bytes.ensures ∙ c.if-same_bytes.false, sym c.same_bytes-2.ensures ∙ c.if-same_bytes-2.false, sym c.same_bytes-3.ensures ∙ c.if-same_bytes-3.true);
  place_value = refl;
  real = tt;
}

pub returns : goal.returns
unfolding fixed_named or_number found_told found_place
returns c = record {
  told = λ l. rw (sym c.same_bytes.ensures ∙ c.if-same_bytes.false, sym c.same_bytes-2.ensures ∙ c.if-same_bytes-2.false, sym c.same_bytes-3.ensures ∙ c.if-same_bytes-3.false);
  place_value = refl;
  real = tt;
}
