-- How long the runs are in which steps are made and numbered anew: the constants of src/lib.rt.
--     draft_size     the numbers of a step on the way: kind, left entry, right entry, four numbers
--     draft_run      a column of steps on the way: how many there are, and their numbers
--     number_run     a place for the number of each step, and one for 0, which is no step's
--     class_size     the numbers of an entry's class: its label, and the step that says so
--     class_run      the classes of all entries
-- Assumes nothing.
use Rattle.std.specs.Prelude.{ℕ, ◌+◌, ◌*◌}
use Rattle.grounds_numbers.specs.Limits.{most_entries}
use Rattle.grounds_steps.specs.Steps.{most_each}

abbrev pub draft_size : ℕ
draft_size = 7

abbrev pub draft_run : ℕ
draft_run = most_each * draft_size + 1

abbrev pub number_run : ℕ
number_run = most_each + 1

abbrev pub class_size : ℕ
class_size = 2

abbrev pub class_run : ℕ
class_run = most_entries * class_size
