-- The runs with one piece more, and a symbol noted.
--     term_numbers .. variable_numbers   the numbers of a piece
--     no_pieces                 before the first line: zeros
--     noted, with_entry          a symbol more; what a line adds, at the end of its run
--     NoteFits, Fits            there is a place for it
-- Assumes nothing.
use Rattle.std.specs.Prelude.{List, [], ◌∷◌, ℕ, ◌+◌, ◌*◌, ◌≤◌, ◌<◌, length, set, replicate}
use Rattle.text_lines.specs.declared.entries.Pair.{Pair}
use Rattle.text_lines.specs.declared.entries.Term.{Term}
use Rattle.runs.specs.Limits.{most_rows, most_statements, most_patterns, most_literals, row_size, said_size, pattern_size, literal_size}
use Rattle.runs.specs.Runs.{put}
use Rattle.text_reader.specs.declared.entries.Entry.{Entry}
use Rattle.text_reader.specs.declared.entries.Entry.TheVariants.{Row, Equation, Difference, Variable, Symbol, Equal, Unequal}
use Rattle.text_reader.specs.declared.pieces.Pieces.{Pieces}
use Rattle.text_reader.specs.declared.state.State.{State}

abbrev pub term_numbers : Term → List ℕ
term_numbers t = t.head ∷ t.count ∷ t.places

abbrev pub pair_numbers : ℕ → Pair → List ℕ
pair_numbers kind p = kind ∷ p.left ∷ p.right ∷ []

abbrev pub variable_numbers : ℕ → List ℕ
variable_numbers v = 4 ∷ v ∷ 0 ∷ 0 ∷ 0 ∷ 0 ∷ 0 ∷ []

abbrev pub no_pieces : Pieces
no_pieces = record {
  rows = replicate (most_rows * row_size) 0;
  said = replicate (most_statements * said_size) 0;
  patterns = replicate (most_patterns * pattern_size) 0;
  literals = replicate (most_literals * literal_size) 0;
  symbols = replicate (most_rows + most_patterns) 0;
  counts = replicate (most_rows + most_patterns) 0;
}

abbrev pub noted : ℕ → Term → Pieces → Pieces
noted n t r = record {
  rows = r.rows;
  said = r.said;
  patterns = r.patterns;
  literals = r.literals;
  symbols = set r.symbols n t.head;
  counts = set r.counts n t.count;
}

abbrev pub with_row : List ℕ → Pieces → Pieces
with_row run r = record {
  rows = run;
  said = r.said;
  patterns = r.patterns;
  literals = r.literals;
  symbols = r.symbols;
  counts = r.counts;
}

abbrev pub with_said : List ℕ → Pieces → Pieces
with_said run r = record {
  rows = r.rows;
  said = run;
  patterns = r.patterns;
  literals = r.literals;
  symbols = r.symbols;
  counts = r.counts;
}

abbrev pub with_pattern : List ℕ → Pieces → Pieces
with_pattern run r = record {
  rows = r.rows;
  said = r.said;
  patterns = run;
  literals = r.literals;
  symbols = r.symbols;
  counts = r.counts;
}

abbrev pub with_literal : List ℕ → Pieces → Pieces
with_literal run r = record {
  rows = r.rows;
  said = r.said;
  patterns = r.patterns;
  literals = run;
  symbols = r.symbols;
  counts = r.counts;
}

abbrev pub with_entry : Entry → State → Pieces → Pieces
with_entry (Row t) s r = noted s.terms t (with_row (put row_size r.rows s.rows (term_numbers t)) r)
with_entry (Equation p) s r = with_said (put said_size r.said (s.equations + s.differences) (pair_numbers 2 p)) r
with_entry (Difference p) s r = with_said (put said_size r.said (s.equations + s.differences) (pair_numbers 3 p)) r
with_entry (Variable v) s r = with_pattern (put pattern_size r.patterns s.patterns (variable_numbers v)) r
with_entry (Symbol t) s r = noted s.terms t (with_pattern (put pattern_size r.patterns s.patterns (5 ∷ term_numbers t)) r)
with_entry (Equal p) s r = with_literal (put literal_size r.literals s.literals (pair_numbers 6 p)) r
with_entry (Unequal p) s r = with_literal (put literal_size r.literals s.literals (pair_numbers 7 p)) r

pub record NoteFits (n : ℕ) (r : Pieces) : Type 0 where
  pub symbols : n < length r.symbols
  pub counts : n < length r.counts

-- a run has a place for piece n
abbrev pub RunFits : ℕ → List ℕ → ℕ → Type 0
RunFits size run n = n * size + size ≤ length run

abbrev pub Fits : Entry → State → Pieces → Type 0
Fits (Row t) s r = RunFits row_size r.rows s.rows × NoteFits s.terms r
Fits (Equation p) s r = RunFits said_size r.said (s.equations + s.differences)
Fits (Difference p) s r = RunFits said_size r.said (s.equations + s.differences)
Fits (Variable v) s r = RunFits pattern_size r.patterns s.patterns
Fits (Symbol t) s r = RunFits pattern_size r.patterns s.patterns × NoteFits s.terms r
Fits (Equal p) s r = RunFits literal_size r.literals s.literals
Fits (Unequal p) s r = RunFits literal_size r.literals s.literals
