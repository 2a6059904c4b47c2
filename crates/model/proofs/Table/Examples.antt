-- The examples hold: each is computed, from lines of bytes to replies, images and numbers.
use mathlib.Core.Path.{refl}
use Rattle.model.specs.Stored.{memory_shaped, shaped, view_of, line_answer, image_answer, restart_answer, use_answer}
use Rattle.model.specs.Sessions.{hex_spelled, hex, sent, run, comes, otherwise}
use Rattle.model.specs.Examples.{Examples}
use Rattle.model.specs.Examples.Memories.{OfMemories, OfPoses}
use Rattle.model.specs.Examples.Lines.{OfLines}
use Rattle.model.specs.Examples.Commands.{OfCommands, OfLists}
use Rattle.model.specs.Examples.Numbers.{OfNumbers}
use Rattle.model.specs.Examples.Images.{OfImages}
use Rattle.model.specs.Examples.Histories.{OfHistories}
use Rattle.model.specs.Examples.Storage.{OfStorage}
use Rattle.model.specs.Examples.Use.{OfUse}
use Rattle.model.specs.Examples.Relative.{OfRelative}
use Rattle.model.specs.Examples.LongBench.{OfLongBench}
use Rattle.model.specs.Examples.NextStart.{OfNextStart}
use Rattle.model.specs.Examples.Tally.{OfTally}
use Rattle.model.specs.Examples.Stage.{OfStage}
use Rattle.model.specs.Examples.Bench.{OfBench}
use Rattle.model.specs.Demand.{changes_enabled, asks_to_enable, none_taken, held, held_part, frames}
use Rattle.model.specs.Histories.{steady_by}
use Rattle.model.specs.Checklist.{asks_to_save, under_enabled}
use Rattle.model.specs.NextStart.{never_saved_in_use}
use Rattle.model.specs.PowerSwitch.{saves}
use Rattle.model.specs.LongBench.{system_within, memory_within}
use Rattle.model.specs.Reasons.{later_reason, reason}
use Rattle.model.specs.Bench.{stored_acts, acted, ksbench, gathered, byte_of, powered_on, file_after}
use Rattle.model.proofs.Open.{definitions_open}

unfoldable sessions_open : Unit {0}
unfolding hex_spelled hex sent run comes otherwise memory_shaped shaped view_of line_answer image_answer restart_answer use_answer changes_enabled asks_to_enable none_taken steady_by definitions_open
sessions_open = tt

of_memories : OfMemories
unfolding sessions_open
of_memories = record { systems = refl; predecessors = refl; offsets = refl; enabled = refl; in_use = refl; restart = refl; factory_state = refl }

of_poses : OfPoses
unfolding sessions_open
of_poses = record { turns = refl; product = refl; chains = refl; undone = refl; undoing = refl; regrouped = refl; sheet_request = refl; sheet_other = refl; sheet_last = refl }

of_lines : OfLines
unfolding sessions_open
of_lines = record {
  words = refl;
  fixed_words_lem = refl;
  counts = refl;
  names = refl;
  reserved_names_lem = refl;
  numbers = refl;
  pairs = refl;
  angles = refl;
  longest = refl;
  too_long = refl;
  last_byte = refl;
  outside = refl;
  control = refl;
}

of_commands : OfCommands
unfolding sessions_open
of_commands = record { define = refl; define_on_enabled = refl; link = refl; copy = refl; remove = refl; enable_zero = refl; enable_fixed = refl; level = refl; memories = refl; last_error_lem = refl }

of_lists : OfLists
unfolding sessions_open
of_lists = record { own_values = refl; resultants = refl }

of_numbers : OfNumbers
unfolding sessions_open
of_numbers = record {
  one_level = refl;
  one_error = refl;
  one_other_error = refl;
  one_between = refl;
  one_beyond = refl;
  one_volatile = refl;
  one_permanent = refl;
  one_restart = refl;
  one_image = refl;
  one_use = refl;
  last_errors = refl;
  last_fifteen = refl;
  last_twenty = refl;
  two = refl;
  two_image = refl;
  two_first = refl;
  seven = refl;
  eight = refl;
  nine = refl;
  ten = refl;
  eleven = refl;
  twenty = refl;
  twelve = refl;
  thirteen = refl;
  three_first = refl;
  first = refl;
  refusal = refl;
  reply = refl;
  no_reply = refl;
}

of_images : OfImages
unfolding sessions_open
of_images = record { writing = refl; starting = refl; refused_forms = refl; refused_systems = refl; refused_enabled = refl }

of_histories : OfHistories
unfolding sessions_open
of_histories =
    record {
      still = refl;
      steady_lines = refl;
      steady_not = refl;
      steady_numbers = refl;
      steady_numbers_not = refl;
      prints = refl;
      switched = refl;
      saved_again = refl;
    }

of_storage : OfStorage
unfolding sessions_open
of_storage = record { parts = refl; free = refl; free_zero = refl; answered_as = refl; count_beyond = refl; length_beyond = refl; no_image = refl; no_restart = refl; no_answer = refl }

of_use : OfUse
unfolding sessions_open
of_use = record { factory_state = refl; looks = refl; stops = refl; substitute = refl; volatile = refl }

of_relative : OfRelative
unfolding sessions_open
of_relative = record { each_way = refl; joined = refl; fixed = refl; groups = refl; long_names = refl; numbers = refl }

of_long_bench : OfLongBench
unfolding sessions_open system_within memory_within
of_long_bench =
    record {
      either_way = refl;
      sixteen_deep = refl;
      old_image = refl;
      old = refl;
      old_of_all = refl;
      old_factory = refl;
      not_old_above = refl;
      not_old_below = refl;
      new_image = refl;
    }

of_next_start : OfNextStart
unfolding sessions_open asks_to_save saves held held_part frames under_enabled never_saved_in_use
of_next_start =
    record { operator = refl; freed = refl; chain = refl; by_name = refl; free = refl; before = refl; from_image = refl; saved_unused = refl; saved_used = refl }

of_tally : OfTally
unfolding sessions_open
of_tally = record { counted = refl; none_accepted = refl; none_refused = refl; nothing = refl; not_occurred = refl; full = refl; stays = refl; most = refl; printed = refl }

of_stage : OfStage
unfolding sessions_open
of_stage =
    record { here = refl; halves = refl; kept = refl; range = refl; one = refl; one_position = refl; one_line = refl; one_restart = refl; numbers = refl; full = refl; as_others = refl; steady_moved = refl; steady_not = refl }

of_bench : OfBench
unfolding sessions_open asks_to_save saves later_reason reason stored_acts acted ksbench gathered byte_of powered_on file_after
of_bench =
    record {
      at_terminal_lem = refl;
      in_pipe_lem = refl;
      plain = refl;
      stored = refl;
      unstored = refl;
      missing = refl;
      found = refl;
      refused = refl;
      three = refl;
      four = refl;
      five = refl;
      six = refl;
      seven = refl;
      eight = refl;
      nine = refl;
      ten = refl;
      eleven = refl;
      twelve = refl;
      thirteen = refl;
      fifteen = refl;
      twenty = refl;
    }

pub examples : Examples
examples =
    record { memories = of_memories; poses = of_poses; lines = of_lines; commands = of_commands; lists = of_lists; numbers = of_numbers; images = of_images; histories = of_histories; storage = of_storage; in_use = of_use; relative = of_relative; long_bench = of_long_bench; next_start = of_next_start; tally = of_tally; stage = of_stage; bench = of_bench }
