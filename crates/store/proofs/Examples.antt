-- The examples of specs/Examples.antt, by computing.
use mathlib.Core.Path.{refl}
use Rattle.model.specs.Lists.{joined}
use Rattle.store.specs.Place.{slash_end, folder_of, is_rooted, link_start, target_of}
use Rattle.store.specs.Mark.{shown_as, leading_digits, number_end, mark_of}
use Rattle.store.specs.Examples.{Examples}

pub examples : Examples
unfolding slash_end folder_of is_rooted link_start target_of shown_as joined leading_digits number_end mark_of
examples =
    record {
      here = refl;
      root = refl;
      below = refl;
      ending = refl;
      beside = refl;
      above = refl;
      without_folder = refl;
      from_root = refl;
      shown = refl;
      read = refl;
      no_end = refl;
      no_process = refl;
      more_behind = refl;
      no_number = refl;
    }
