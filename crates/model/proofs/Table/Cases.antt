-- The table, the tempting points and the worked example hold: each is computed, from lines of bytes to replies.
use mathlib.Core.Path.{refl}
use Rattle.model.specs.Sessions.{sent, run, then}
use Rattle.model.specs.Table.{Table, Tempting, Printed}
use Rattle.model.proofs.Open.{definitions_open}

pub table_holds : Table
unfolding sent run then definitions_open
table_holds =
    record {
      worked = refl;
      half_turns = refl;
      quarter_turns = refl;
      negative_angle_kept = refl;
      negative_angle_shown = refl;
      limit_taken = refl;
      beyond_limit = refl;
      four_digits = refl;
      five_digits = refl;
      sixteenth = refl;
      seventeenth = refl;
      link_to_itself = refl;
      removed_between = refl;
      factory_image = refl;
    }

pub tempting_points : Tempting
unfolding sent run then definitions_open
tempting_points =
    record { offset_turned = refl; every_successor = refl; over_ancestor = refl; predecessor_anew = refl; work_half_lem = refl }

pub printed : Printed
unfolding definitions_open
printed = record { worked = refl; refusals = refl; no_input = refl }
