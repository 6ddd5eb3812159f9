-- The normal text that runs and a table of representatives give, and what its writer needs.
--     normal_text          the text
--     Writable            the context is well-formed and within the limits, and each row's representative is one of its rows
--     SpacesFit           the two spaces for keys are long enough
--     text_of, text_size    the text by its lines, and how many bytes it has
--     TextRoom            there is room for it
-- Assumes nothing.
use Rattle.std.specs.Prelude.{List, ◌++◌, ℕ, ◌+◌, ◌*◌, ◌≤◌, length}
use Rattle.meaning.specs.Equality.{rep_at}
use Rattle.meaning.specs.Writing.{context_text, normal_of}
use Rattle.runs.specs.Limits.{most_rows, most_statements}
use Rattle.runs.specs.Runs.{row_count, said_count, context_of}
use Rattle.runs.specs.Fit.{FitContext}
use Rattle.reply_lines.specs.Pieces.{Room}
use Rattle.normaliser.specs.Pieces.{row_lines, join_lines, key_lines}
use Rattle.normaliser.specs.Rooms.{pair_length, rows_size, joins_size, RowsFit, Tabled}

unfoldable pub normal_text : List ℕ → List ℕ → List ℕ → List ℕ
normal_text rows said table = context_text (normal_of (rep_at table) (context_of rows said))

pub record Writable (rows said table : List ℕ) : Type 0 where
  pub fit : FitContext most_rows most_statements rows said
  pub tabled : Tabled table (row_count rows)

pub record SpacesFit (said keys spare : List ℕ) : Type 0 where
  pub keys-fit : said_count said ≤ length keys
  pub spare-fits : length keys ≤ length spare

-- the rows, the equations and the differences, line by line
abbrev pub text_of : List ℕ → List ℕ → List ℕ → List ℕ
text_of rows table keys = row_lines rows ++ (join_lines table (row_count rows) ++ key_lines keys)

-- with n differences
abbrev pub text_size : List ℕ → List ℕ → ℕ → ℕ
text_size rows table n = rows_size rows (row_count rows) + (joins_size table (row_count rows) + n * pair_length)

pub record TextRoom (rows table keys lent : List ℕ) : Type 0 where
  pub rows_fit : RowsFit rows
  pub tabled : Tabled table (row_count rows)
  pub room : Room lent 0 (text_of rows table keys)
