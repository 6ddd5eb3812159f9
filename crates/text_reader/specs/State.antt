-- The state between two lines, and after a line of each group.
--     start_state                     before the first line
--     passed_to                       the place and the number of the next line
--     after                          one line more, by what it adds
--     Within                         what bounds a state
--     numbers_in                      how many numbers the lines fill
-- Assumes nothing.
use Rattle.std.specs.Prelude.{◌≡◌, ℕ, suc, ◌+◌, ◌*◌, ◌≤◌}
use Rattle.runs.specs.Limits.{most_rows, most_equations, most_differences, most_patterns, most_literals, row_size, said_size, pattern_size, literal_size}
use Rattle.text_runs.specs.declared.Filled.{Filled}
use Rattle.text_reader.specs.declared.entries.Entry.{Entry}
use Rattle.text_reader.specs.declared.entries.Entry.TheVariants.{Row, Equation, Difference, Variable, Symbol, Equal, Unequal}
use Rattle.text_reader.specs.declared.state.State.{State}

abbrev pub start_state : State
start_state = record { at = 0; line = 1; rank = 0; rows = 0; equations = 0; differences = 0; patterns = 0; literals = 0; terms = 0 }

abbrev pub passed_to : State → ℕ → State
passed_to s next = record {
  at = next;
  line = s.line + 1;
  rank = s.rank;
  rows = s.rows;
  equations = s.equations;
  differences = s.differences;
  patterns = s.patterns;
  literals = s.literals;
  terms = s.terms;
}

abbrev pub after_row : State → State
after_row s = record {
  at = s.at;
  line = s.line;
  rank = 1;
  rows = s.rows + 1;
  equations = s.equations;
  differences = s.differences;
  patterns = s.patterns;
  literals = s.literals;
  terms = s.terms + 1;
}

abbrev pub after_equation : State → State
after_equation s = record {
  at = s.at;
  line = s.line;
  rank = 2;
  rows = s.rows;
  equations = s.equations + 1;
  differences = s.differences;
  patterns = s.patterns;
  literals = s.literals;
  terms = s.terms;
}

abbrev pub after_difference : State → State
after_difference s = record {
  at = s.at;
  line = s.line;
  rank = 2;
  rows = s.rows;
  equations = s.equations;
  differences = s.differences + 1;
  patterns = s.patterns;
  literals = s.literals;
  terms = s.terms;
}

abbrev pub after_variable : State → State
after_variable s = record {
  at = s.at;
  line = s.line;
  rank = 3;
  rows = s.rows;
  equations = s.equations;
  differences = s.differences;
  patterns = s.patterns + 1;
  literals = s.literals;
  terms = s.terms;
}

abbrev pub after_symbol : State → State
after_symbol s = record {
  at = s.at;
  line = s.line;
  rank = 3;
  rows = s.rows;
  equations = s.equations;
  differences = s.differences;
  patterns = s.patterns + 1;
  literals = s.literals;
  terms = s.terms + 1;
}

abbrev pub after_literal : State → State
after_literal s = record {
  at = s.at;
  line = s.line;
  rank = 4;
  rows = s.rows;
  equations = s.equations;
  differences = s.differences;
  patterns = s.patterns;
  literals = s.literals + 1;
  terms = s.terms;
}

abbrev pub after : Entry → State → State
after (Row t) s = after_row s
after (Equation p) s = after_equation s
after (Difference p) s = after_difference s
after (Variable v) s = after_variable s
after (Symbol t) s = after_symbol s
after (Equal p) s = after_literal s
after (Unequal p) s = after_literal s

pub record Within (s : State) : Type 0 where
  pub rows : s.rows ≤ most_rows
  pub equations : s.equations ≤ most_equations
  pub differences : s.differences ≤ most_differences
  pub patterns : s.patterns ≤ most_patterns
  pub literals : s.literals ≤ most_literals
  pub terms : s.terms ≤ s.rows + s.patterns
  pub lines : s.line ≡ suc (s.rows + (s.equations + s.differences) + s.patterns + s.literals)

abbrev pub numbers_in : State → Filled
numbers_in s = record {
  rows = s.rows * row_size;
  said = (s.equations + s.differences) * said_size;
  patterns = s.patterns * pattern_size;
  literals = s.literals * literal_size;
}
