-- What the functions that write pieces need, and how long the pieces are.
--     row_fields                        the fields of a row's line
--     head_fields, pair_fields           how many fields come before a row's arguments; how many an equation or a difference has
--     row_length, pair_length            the most bytes of a row's line; the bytes of an equation's or a difference's
--     rows_size, join_size, joins_size    the bytes of the rows before a row, of a row's equation, of the equations before a row
--     RowsFit                          rows are few, and each has at most four arguments, which are earlier rows
--     Tabled                           each of the first n places of a table holds one of the first n rows
--     RowRoom, JoinRoom, JoinsRoom     there is room for a row, an equation, all equations
-- Assumes nothing.
use Rattle.std.specs.Prelude.{true, false, List, [], ◌∷◌, ℕ, zero, suc, ◌+◌, ◌*◌, ◌/◌, ◌≤◌, ◌<◌, eqb, length}
use Rattle.meaning.specs.Equality.{rep_at}
use Rattle.runs.specs.Limits.{most_rows, arg_places}
use Rattle.runs.specs.Runs.{row_count, symbol_in, count_in, arg_in}
use Rattle.runs.specs.Fit.{Every, RowAt}
use Rattle.reply_lines.specs.Pieces.{low8, Room}
use Rattle.normaliser.specs.Pieces.{row_piece, join_piece, join_lines}

-- four of them, and four arguments, used or not
abbrev pub row_fields : List ℕ → ℕ → List ℕ
row_fields rows i =
    1 ∷ symbol_in rows i / 256 ∷ low8 (symbol_in rows i) ∷ low8 (count_in rows i)
    ∷ low8 (arg_in rows i 0)
    ∷ low8 (arg_in rows i 1)
    ∷ low8 (arg_in rows i 2)
    ∷ low8 (arg_in rows i 3)
    ∷ []

-- the fields of a row's line before its arguments, and those of an equation's line or a difference's
abbrev pub head_fields : ℕ
head_fields = 4

abbrev pub pair_fields : ℕ
pair_fields = 3

-- the bytes of a line of n fields
abbrev pub line_length : ℕ → ℕ
line_length n = n * 2 + 1

abbrev pub row_length : ℕ
row_length = line_length (head_fields + arg_places)

abbrev pub pair_length : ℕ
pair_length = line_length pair_fields

unfoldable pub rows_size : List ℕ → ℕ → ℕ
rows_size rows zero = 0
rows_size rows (suc n) = rows_size rows n + line_length (head_fields + count_in rows n)

unfoldable pub join_size : List ℕ → ℕ → ℕ
join_size table i = elim (eqb (rep_at table i) i) [ true ↦ 0 | false ↦ pair_length ]

unfoldable pub joins_size : List ℕ → ℕ → ℕ
joins_size table zero = 0
joins_size table (suc n) = joins_size table n + join_size table n

pub record RowsFit (rows : List ℕ) : Type 0 where
  pub few : row_count rows ≤ most_rows
  pub placed : Every (row_count rows) (RowAt rows)

pub record Tabled (table : List ℕ) (n : ℕ) : Type 0 where
  pub long : n ≤ length table
  pub reps : (i : ℕ) → i < n → rep_at table i < n

pub record RowRoom (rows : List ℕ) (i : ℕ) (lent : List ℕ) (at : ℕ) : Type 0 where
  pub fit : RowsFit rows
  pub inside : i < row_count rows
  pub room : Room lent at (row_piece rows i)

pub record JoinRoom (table : List ℕ) (i : ℕ) (lent : List ℕ) (at : ℕ) : Type 0 where
  pub inside : i < length table
  pub low : i < most_rows
  pub rep : rep_at table i < most_rows
  pub room : Room lent at (join_piece table i)

pub record JoinsRoom (table : List ℕ) (n : ℕ) (lent : List ℕ) (at : ℕ) : Type 0 where
  pub few : n ≤ most_rows
  pub tabled : Tabled table n
  pub room : Room lent at (join_lines table n)
