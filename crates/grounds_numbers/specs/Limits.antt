-- How many entries and pairs there may be, and how many numbers a run has for them: the constants of src/limits.rt.
--     most_entries              how many rows and pattern rows there are at the most
--     most_numbers              how many numbers of 16 bits there are
--     pair_size                 the numbers of one pair
--     entry_run, pair_run        the numbers of the longest runs
-- Assumes nothing.
use Rattle.std.specs.Prelude.{ℕ, ◌+◌, ◌*◌}
use Rattle.runs.specs.Limits.{most_rows, most_statements, most_patterns, row_size}

abbrev pub most_entries : ℕ
most_entries = most_rows + most_patterns

abbrev pub most_numbers : ℕ
most_numbers = 65536

abbrev pub pair_size : ℕ
pair_size = 2

abbrev pub entry_run : ℕ
entry_run = most_entries * row_size

abbrev pub pair_run : ℕ
pair_run = most_statements * pair_size
