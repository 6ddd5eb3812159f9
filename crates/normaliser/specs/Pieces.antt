-- The pieces of a normal text.
--     row_piece, join_piece, key_line    the line of a row; of a row that is not its own representative; of a difference that is held as one number
--     row_lines, join_lines, key_lines   the lines of all rows, of the equations of the first n rows, of some differences
-- Assumes nothing.
use Rattle.std.specs.Prelude.{true, false, List, [], ◌∷◌, ℕ, ◌/◌, ◌%◌, eqb, length, get_or}
use Rattle.meaning.specs.Equality.{rep_at}
use Rattle.meaning.specs.Writing.{frame}
use Rattle.runs.specs.Runs.{row_count, symbol_in, count_in, args_in}
use Rattle.reply_lines.specs.Pieces.{low8, run}
use Rattle.normaliser.specs.Keyed.{key_base}

unfoldable pub row_piece : List ℕ → ℕ → List ℕ
row_piece rows i = frame (1 ∷ symbol_in rows i / 256 ∷ symbol_in rows i % 256 ∷ count_in rows i ∷ args_in rows i)

unfoldable pub join_piece : List ℕ → ℕ → List ℕ
join_piece table i = elim (eqb (rep_at table i) i) [ true ↦ [] | false ↦ frame (2 ∷ rep_at table i ∷ i ∷ []) ]

abbrev pub key_line : ℕ → List ℕ
key_line key = frame (3 ∷ low8 (key / key_base) ∷ low8 (key % key_base) ∷ [])

unfoldable pub key_piece : List ℕ → ℕ → List ℕ
key_piece keys k = key_line (get_or keys k 0)

abbrev pub row_lines : List ℕ → List ℕ
row_lines rows = run (row_piece rows) 0 (row_count rows)

abbrev pub join_lines : List ℕ → ℕ → List ℕ
join_lines table n = run (join_piece table) 0 n

abbrev pub key_lines : List ℕ → List ℕ
key_lines keys = run (key_piece keys) 0 (length keys)
