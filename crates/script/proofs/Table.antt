-- The table of directives and of answers holds.
use Rattle.std.proofs.Common.{refl}
use Rattle.model.specs.Lists.{same, none?, all, kept, pieces, ahead}
use Rattle.model.specs.Words.{spelled, positive, negative}
use Rattle.model.specs.Stored.{position_answer}
use Rattle.script.specs.Fields.{fields}
use Rattle.script.specs.Hex.{digit_value, hex?, pairs_read, unhexed, hexed}
use Rattle.script.specs.Numbers.{whole_of, number_of, both, numbers_of}
use Rattle.script.specs.Directive.{bytes_of, position_order, one_field, two_fields, three_fields, few_fields, understood, order}
use Rattle.script.specs.Answer.{said, usage_text, complaint}
use Rattle.script.specs.Obey.{done, answer}
use Rattle.script.specs.Table.{Directives, Said}
use Rattle.model.proofs.Open.{definitions_open}

pub directives : Directives
unfolding order understood fields kept pieces ahead none? position_order few_fields one_field two_fields three_fields whole_of number_of positive negative both numbers_of bytes_of same all spelled unhexed hex? pairs_read digit_value
directives =
    record {
      as_said = (refl, (refl, (refl, (refl, (refl, (refl, (refl, (refl, (refl, (refl, (refl, (refl, tt))))))))))));
      no_directive =
          (refl, (refl, (refl, (refl, (refl, (refl, (refl, (refl, (refl, (refl, (refl, (refl, (refl, (refl, (refl, (refl, (refl, (refl, (refl, (refl, (refl, (refl, (refl, (refl, (refl, (refl, (refl, (refl, (refl, (refl, (refl, (refl, (refl, (refl, (refl, (refl, (refl, (refl, (refl, (refl, tt))))))))))))))))))))))))))))))))))))))));
    }

pub answers_said : Said
unfolding answer said usage_text complaint hexed done position_answer order understood fields position_order whole_of number_of both numbers_of definitions_open
answers_said = record { shown = refl; refused = refl; used = refl; unused = refl; untold = refl; placed = refl; beyond = refl; malformed = refl }
