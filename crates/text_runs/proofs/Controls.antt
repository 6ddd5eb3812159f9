-- The reader's promise tried at small texts.
--     one-row         a text of one row: the symbol 0010, with no arguments
--     some-numbers    it is told as six numbers
--     no-rows-lost    and not as none
--     no-rows-left    with an empty line after it, which is refused, no number is told
-- Assumes nothing.
use mathlib.Core.List.{List, [], ◌∷◌, ◌++◌}
use mathlib.Core.Path.{◌≡◌, refl, ap}
use Prim.Native.Nat.{ℕ}
use native.Mathlib.Omega.{arith}
use lib.ListN.{length}
use Rattle.meaning.specs.Columns.{pad}
use Rattle.meaning.specs.Text as M
use Rattle.meaning.specs.Text.{rows_of, read, read_lines, narrow, lines_of, lines_from, digit, fields, is_listed, listed_as, size_of, entry_of, rank_of, put, put_context, put_clause, legible, non_digit, first_failing, is_nowhere, known, sized, ranked, refers, no_row, named_by, table_of, agrees, rows_agree, patterns_agree, tests_of, first_fault, offset_of, spot_or, bad_byte}
use Rattle.text_runs.specs.Numbers.{row_numbers, numbers_of}
use Rattle.text_runs.specs.Reads.{read_of, Reads}
use Rattle.text_runs.specs.declared.Told.{Told}

pub one-row : List ℕ
one-row = 48 ∷ 49 ∷ 48 ∷ 48 ∷ 49 ∷ 48 ∷ 48 ∷ 48 ∷ 10 ∷ []

pub some-numbers : numbers_of row_numbers (rows_of (read_of (read narrow one-row))) ≡ 16 ∷ 0 ∷ 0 ∷ 0 ∷ 0 ∷ 0 ∷ []
unfolding one-row numbers_of pad read read_lines lines_of lines_from digit fields is_listed listed_as size_of entry_of rank_of put put_context put_clause legible non_digit first_failing is_nowhere known sized ranked M.room refers no_row named_by table_of agrees rows_agree patterns_agree tests_of first_fault offset_of spot_or bad_byte
some-numbers = refl

pub no-rows-lost : (r : Told) → Reads one-row r → r.filled.rows ≡ 0 → ⊥
no-rows-lost r h e = omega (arith, h.rows.filled_is, ap length some-numbers)

some-refused : numbers_of row_numbers (rows_of (read_of (read narrow (one-row ++ (10 ∷ []))))) ≡ []
unfolding one-row numbers_of pad read read_lines lines_of lines_from digit fields is_listed listed_as size_of entry_of rank_of put put_context put_clause legible non_digit first_failing is_nowhere known sized ranked M.room refers no_row named_by table_of agrees rows_agree patterns_agree tests_of first_fault offset_of spot_or bad_byte
some-refused = refl

pub no-rows-left : (r : Told) → Reads (one-row ++ (10 ∷ [])) r → r.filled.rows ≡ 6 → ⊥
no-rows-left r h e = omega (arith, h.rows.filled_is, ap length some-refused)
