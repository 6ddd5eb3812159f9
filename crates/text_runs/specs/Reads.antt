-- What reading a text has to tell, every place of the runs included.
--     told_by, told_of   the number, the line and the byte of an answer, and of what a text is read as: none where it is taken
--     read_of           what is told of a text: of a refused one as little as of the empty one
--     Holds            a run that holds some pieces, and then zeros
--     Reads            the reader's promise
-- Assumes nothing.
use Rattle.std.specs.Prelude.{List, [], ◌∷◌, ◌≡◌, ℕ, ◌*◌, length, Result, Ok, Err}
use Rattle.meaning.specs.Text as M
use Rattle.meaning.specs.Text.{Read, faulty, taken, read, narrow, nothing_read, rows_of, patterns_of}
use Rattle.meaning.specs.Columns.{pad}
use Rattle.runs.specs.Limits.{most_rows, most_statements, most_patterns, most_literals, row_size, said_size, pattern_size, literal_size}
use Rattle.text_runs.specs.Numbers.{row_numbers, said_numbers, pattern_numbers, literal_numbers, numbers_of}
use Rattle.replies.specs.declared.Refusal.{Refusal}
use Rattle.text_runs.specs.declared.Told.{Told}

abbrev pub told_by : Result (Unit {0}) Refusal → List ℕ
told_by (Ok u) = []
told_by (Err x) = x.number ∷ x.line ∷ x.offset ∷ []

abbrev pub told_of : M.Reading → List ℕ
told_of (faulty f) = f.number ∷ f.place ∷ f.offset ∷ []
told_of (taken s) = []

abbrev pub read_of : M.Reading → Read
read_of (faulty f) = nothing_read
read_of (taken s) = s

pub record Holds {A : Type 0} (numbers : A → List ℕ) (places : ℕ) (l : List A) (run : List ℕ) (filled : ℕ) : Type 0 where
  pub run_is : run ≡ pad places (numbers_of numbers l)
  pub filled_is : filled ≡ length (numbers_of numbers l)

pub record Reads (text : List ℕ) (r : Told) : Type 0 where
  pub told : told_by r.answer ≡ told_of (read narrow text)
  pub rows : Holds row_numbers (most_rows * row_size) (rows_of (read_of (read narrow text))) r.rows r.filled.rows
  pub said :
      Holds said_numbers (most_statements * said_size) (read_of (read narrow text)).ledger.context.statements r.said r.filled.said
  pub patterns : Holds pattern_numbers (most_patterns * pattern_size) (patterns_of (read_of (read narrow text))) r.patterns r.filled.patterns
  pub literals : Holds literal_numbers (most_literals * literal_size) (read_of (read narrow text)).clause.literals r.literals r.filled.literals
