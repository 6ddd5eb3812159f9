-- Between two lines, and one line.
--     line_of .. fault_in      a legible line, its kind, what it adds and the first test that it fails
--     offset_for, Stopped     the byte of it that a refusal names; a refusal is the first test that fails, and its byte
--     Adds, Lined, EntryIs   an entry is what the line adds, or its refusal
--     Filled, Stands         a run holds some pieces; the runs hold what the lines before a place said, and reading goes on from there
--     Reached                a legible line begins where the reading stands, and its end is found
--     meant, Faulty, Steps   a refusal as a value of `meaning`; a text that it is given for; what one line more leaves
--     Ends                   after the last
--     told_refused            what is told of a refused text
-- Assumes nothing.
use Rattle.std.specs.Prelude.{Result, Ok, Err, true, List, ◌∷◌, ◌++◌, ◌≡◌, ℕ, ◌+◌, ◌-◌, ◌*◌, ◌<◌, ◌≤◌, length, take, drop, replicate}
use Rattle.meaning.specs.Text as M
use Rattle.meaning.specs.Text.{Read, known, sized, row, statement, pattern, literal, listed_as, kinds, entry_of, field_at, tests_of, first_fault, offset_of, narrow, read_lines, read, lines_of, faulty, taken, rows_of, patterns_of}
use Rattle.text_lines.specs.Lines.{Legible}
use Rattle.runs.specs.Limits.{most_rows, most_statements, most_patterns, most_literals, row_size, said_size, pattern_size, literal_size}
use Rattle.text_runs.specs.Numbers.{row_numbers, said_numbers, pattern_numbers, literal_numbers, numbers_of}
use Rattle.replies.specs.declared.Refusal.{Refusal}
use Rattle.text_runs.specs.declared.Told.{Told}
use Rattle.text_reader.specs.Pieces.{term_numbers, pair_numbers, variable_numbers}
use Rattle.text_reader.specs.Agree.{Used}
use Rattle.text_reader.specs.Faults.{number_of, byte_of, refusal_of}
use Rattle.text_reader.specs.Kinds.{fields_at, LongBy, meant_kind, kind_rank}
use Rattle.text_reader.specs.State.{Within}
use Rattle.text_reader.specs.declared.entries.Entry.{Entry}
use Rattle.text_reader.specs.declared.entries.Entry.TheVariants as E
use Rattle.text_reader.specs.declared.faults.Fault.{Fault}
use Rattle.text_reader.specs.declared.kinds.Kind.{Kind}
use Rattle.text_reader.specs.declared.pieces.Pieces.{Pieces}
use Rattle.text_reader.specs.declared.state.State.{State}

abbrev pub line_of : List ℕ → ℕ → ℕ → M.Line
line_of text at end = record { bytes = take (end - at) (drop at text); ended = true }

abbrev pub kind_in : List ℕ → ℕ → ℕ → M.Kind
kind_in text at end = listed_as (field_at (fields_at text at end) 0) kinds

abbrev pub entry_in : List ℕ → ℕ → ℕ → M.Entry
entry_in text at end = entry_of (kind_in text at end) (fields_at text at end)

abbrev pub fault_in : List ℕ → ℕ → ℕ → Read → ℕ
fault_in text at end s = first_fault 1 (tests_of narrow (line_of text at end) (fields_at text at end) (kind_in text at end) (entry_in text at end) s)

unfoldable pub offset_for : List ℕ → ℕ → ℕ → Read → ℕ → ℕ
offset_for text at end s x = offset_of x (line_of text at end) (entry_in text at end) s

pub record Stopped (m : ℕ) (offset : ℕ → ℕ) (x o : ℕ) : Type 0 where
  pub number : m ≡ x
  pub byte : offset x ≡ o
  pub some : 0 < x

-- no test fails, and a piece of so many numbers is what the line adds
pub record Adds {A : Type 0} (make : A → M.Entry) (numbers : A → List ℕ) (size : ℕ) (text : List ℕ) (at end : ℕ) (s : Read) (piece : List ℕ) : Type 0 where
  pub made : A
  pub fault : fault_in text at end s ≡ 0
  pub entry : entry_in text at end ≡ make made
  pub piece_is : numbers made ≡ piece
  pub long : length piece ≡ size

abbrev pub AddsBy : List ℕ → ℕ → ℕ → Read → Entry → Type 0
AddsBy text at end s (E.Row t) = Adds row row_numbers row_size text at end s (term_numbers t)
AddsBy text at end s (E.Equation p) = Adds statement said_numbers said_size text at end s (pair_numbers 2 p)
AddsBy text at end s (E.Difference p) = Adds statement said_numbers said_size text at end s (pair_numbers 3 p)
AddsBy text at end s (E.Variable v) = Adds pattern pattern_numbers pattern_size text at end s (variable_numbers v)
AddsBy text at end s (E.Symbol t) = Adds pattern pattern_numbers pattern_size text at end s (5 ∷ term_numbers t)
AddsBy text at end s (E.Equal p) = Adds literal literal_numbers literal_size text at end s (pair_numbers 6 p)
AddsBy text at end s (E.Unequal p) = Adds literal literal_numbers literal_size text at end s (pair_numbers 7 p)

abbrev pub Verdict : List ℕ → ℕ → ℕ → Read → Result Entry Fault → Type 0
Verdict text at end s (Ok e) = AddsBy text at end s e
Verdict text at end s (Err f) = Stopped (fault_in text at end s) (offset_for text at end s) (number_of f) (byte_of f)

-- a legible line of a kind, as long as the kind asks with so many arguments, and not below the rank so far
pub record Lined (text : List ℕ) (end : ℕ) (kind : Kind) (count : ℕ) (s : State) : Type 0 where
  pub legible : Legible text s.at end
  pub listed : known (fields_at text s.at end) ≡ true
  pub kinded : kind_in text s.at end ≡ meant_kind kind
  pub size : sized (meant_kind kind) (fields_at text s.at end) ≡ true
  pub long : LongBy (meant_kind kind) (end - s.at) count
  pub rank : s.rank ≤ kind_rank kind

-- a state has the numbers of what was read
pub record Knows (s : State) (so : Read) : Type 0 where
  pub rank : s.rank ≡ so.rank
  pub rows : s.rows ≡ length (rows_of so)
  pub equations : s.equations ≡ so.ledger.equation_lines
  pub differences : s.differences ≡ so.ledger.difference_lines
  pub patterns : s.patterns ≡ length (patterns_of so)
  pub literals : s.literals ≡ length so.clause.literals

pub record EntryIs (text : List ℕ) (end : ℕ) (s : State) (symbols counts : List ℕ) (r : Result Entry Fault) : Type 0 where
  pub verdict : (so : Read) → Knows s so → Used symbols counts s.terms so → Verdict text s.at end so r

-- n pieces, and then zeros
pub record Filled {A : Type 0} (numbers : A → List ℕ) (size n : ℕ) (l : List A) (run : List ℕ) : Type 0 where
  pub spare : ℕ
  pub run_is : run ≡ numbers_of numbers l ++ replicate spare 0
  pub long : length (numbers_of numbers l) ≡ n * size

pub record Space (r : Pieces) : Type 0 where
  pub rows : length r.rows ≡ most_rows * row_size
  pub said : length r.said ≡ most_statements * said_size
  pub patterns : length r.patterns ≡ most_patterns * pattern_size
  pub literals : length r.literals ≡ most_literals * literal_size
  pub symbols : length r.symbols ≡ most_rows + most_patterns
  pub counts : length r.counts ≡ most_rows + most_patterns

-- the runs hold what was read
pub record Holds (s : State) (so : Read) (r : Pieces) : Type 0 where
  pub rows : Filled row_numbers row_size s.rows (rows_of so) r.rows
  pub said : Filled said_numbers said_size (s.equations + s.differences) so.ledger.context.statements r.said
  pub patterns : Filled pattern_numbers pattern_size s.patterns (patterns_of so) r.patterns
  pub literals : Filled literal_numbers literal_size s.literals so.clause.literals r.literals

pub record Stands (text : List ℕ) (s : State) (r : Pieces) : Type 0 where
  pub so : Read
  pub same : read narrow text ≡ read_lines narrow s.line so (lines_of (drop s.at text))
  pub inside : s.at ≤ length text
  pub within : Within s
  pub knows : Knows s so
  pub holds : Holds s so r
  pub used : Used r.symbols r.counts s.terms so
  pub space : Space r

pub data Reached (text : List ℕ) (end : ℕ) (s : State) (r : Pieces) : Type 0 where
  reached : Stands text s r → Legible text s.at end → Reached text end s r

abbrev pub meant : Refusal → M.Refusal
meant x = record { number = x.number; place = x.line; offset = x.offset }

abbrev pub Faulty : List ℕ → Refusal → Type 0
Faulty text x = read narrow text ≡ faulty (meant x)

-- one line later, further on
pub record Moved (text : List ℕ) (at : ℕ) (s : State) (r : Pieces) : Type 0 where
  pub stands : Stands text s r
  pub further : at < s.at

abbrev pub Steps : List ℕ → State → Result State Fault → Pieces → Type 0
Steps text s (Ok n) r = Moved text s.at n r
Steps text s (Err f) r = Faulty text (refusal_of s.line f)

-- after the last line
pub record Taken (text : List ℕ) (s : State) (r : Pieces) : Type 0 where
  pub so : Read
  pub same : read narrow text ≡ taken so
  pub within : Within s
  pub holds : Holds s so r
  pub space : Space r

abbrev pub Ends : List ℕ → Result State Refusal → Pieces → Type 0
Ends text (Ok s) r = Taken text s r
Ends text (Err x) r = Faulty text x

unfoldable pub told_refused : Refusal → Told
told_refused x = record {
  answer = Err x;
  filled = record { rows = 0; said = 0; patterns = 0; literals = 0 };
  rows = replicate (most_rows * row_size) 0;
  said = replicate (most_statements * said_size) 0;
  patterns = replicate (most_patterns * pattern_size) 0;
  literals = replicate (most_literals * literal_size) 0;
}
