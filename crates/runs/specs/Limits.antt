-- How much a text may hold, and how many numbers a run has for each piece of it: the constants of src/limits.rt.
--     most_rows .. most_variables     how many a context or a rule has at the most
--     row_size .. literal_size        the numbers of one row, statement, pattern row or literal
--     arg_places                     the places for a row's arguments
--     row_run .. literal_run          the numbers of the longest runs
--     unused_place                   what stands for no row
-- Assumes nothing.
use Rattle.std.specs.Prelude.{ℕ, ◌+◌, ◌*◌}

abbrev pub most_rows : ℕ
most_rows = 255

abbrev pub most_equations : ℕ
most_equations = 255

abbrev pub most_differences : ℕ
most_differences = 255

abbrev pub most_statements : ℕ
most_statements = most_equations + most_differences

abbrev pub most_patterns : ℕ
most_patterns = 64

abbrev pub most_literals : ℕ
most_literals = 16

abbrev pub most_variables : ℕ
most_variables = 4

abbrev pub row_size : ℕ
row_size = 6

abbrev pub said_size : ℕ
said_size = 3

abbrev pub pattern_size : ℕ
pattern_size = 7

abbrev pub literal_size : ℕ
literal_size = 3

abbrev pub arg_places : ℕ
arg_places = 4

abbrev pub row_run : ℕ
row_run = most_rows * row_size

abbrev pub said_run : ℕ
said_run = most_statements * said_size

abbrev pub pattern_run : ℕ
pattern_run = most_patterns * pattern_size

abbrev pub literal_run : ℕ
literal_run = most_literals * literal_size

abbrev pub unused_place : ℕ
unused_place = 255
